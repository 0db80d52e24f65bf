-- What is claimed of a course that is stopped and taken up again (document 02 (g)): a sheet paused and resumed shows what it
-- showed before, place by place, whatever calls on other sheets come between, guided by whatever summaries. That it holds is
-- `paused_and_resumed` in proofs/Pauses.antt.
-- Assumes nothing.
use Rattle.std.specs.Prelude.{ℕ, ◌≡◌, ◌≢◌, true, List, []}
use Rattle.roles.specs.Roles as roles
use Rattle.roles.specs.Roles.{may}
use Rattle.refusals.specs.Table.{pause, resume, change, show}
use Rattle.card.specs.Calls.{Kept}
use Rattle.card.specs.Public as public
use Rattle.card.specs.Public.{Manner, Beside, End, ends, kept_after}
use Rattle.ledger.specs.Calls.{Call, on, close}
use Rattle.ledger.specs.Ledger.{Complete, sheet_at, after, begun}
use Rattle.ledger.specs.Answers.{done}
use Rattle.ledger.specs.Lists.{Made, told_of, Runs, ByAny, All, calls_in, heard_in, fresh_state}

-- A call is for another sheet, or a closing of the gaps.
abbrev pub NotFor : ℕ → Call → Type 0
NotFor sheet (on role other ask) = other ≢ sheet
NotFor sheet (close role) = Unit {0}

-- None of the calls is for the sheet.
abbrev pub NoneFor : ℕ → List Call → Type 0
NoneFor sheet = All (NotFor sheet)

-- A show of any place of the sheet, whoever makes it and with any buffer, answers and leaves in its buffer the same from
-- state t and from state u.
abbrev pub ShowsTheSame : ℕ → Kept → Kept → Type 0
ShowsTheSame sheet t u =
    (m : Manner) (b : Beside) (p : ℕ) (buffer : List ℕ)
    → told_of (ends m t b (public.on sheet (show p buffer))) ≡ told_of (ends m u b (public.on sheet (show p buffer)))

-- A list of calls from a fresh card leaves state t. There the sheet is paused, which comes to `stopped`; a list of calls on
-- other sheets leaves the state `waiting`; and there the sheet is resumed, which comes to `resumed`.
pub record StoppedAndTakenUp (n c : ℕ) (card : List ℕ) (made : List Made) (es : List End) (sheet : ℕ) (t : Kept)
    (stopped resumed : End) : Type 0 where
  pub listed : ByAny (fresh_state n c card) made
  pub runs : Runs (fresh_state n c card) made es t
  -- whoever pauses and resumes may do so
  pub pauser : Manner
  pub may_pause : may pauser.role roles.pause ≡ true
  pub lent : Beside
  pub pauses : stopped ≡ ends pauser t lent (public.on sheet (change pause))
  pub between : List Made
  pub elsewhere : NoneFor sheet (calls_in between)
  pub listed_between : ByAny (kept_after stopped) between
  pub came : List End
  pub waiting : Kept
  pub goes_on : Runs (kept_after stopped) between came waiting
  pub resumer : Manner
  pub may_resume : may resumer.role roles.resume ≡ true
  pub lent_then : Beside
  pub resumes : resumed ≡ ends resumer waiting lent_then (public.on sheet (change resume))

-- If the sheet was Complete in the ledger, both calls are done, and it shows what it showed.
pub record TakenUp (sheet : ℕ) (t : Kept) (stopped resumed : End) : Type 0 where
  pub pause_done : told_of stopped ≡ done [] []
  pub resume_done : told_of resumed ≡ done [] []
  pub shows_the_same : ShowsTheSame sheet t (kept_after resumed)

abbrev pub PausedAndResumed : ℕ → ℕ → List ℕ → Type 0
PausedAndResumed n c card =
    (made : List Made) (es : List End) (sheet : ℕ) (t : Kept) (stopped resumed : End)
    → StoppedAndTakenUp n c card made es sheet t stopped resumed
    → (start : ℕ) (payloads : List (List ℕ)) → sheet_at (after n (begun c) (heard_in made es)) sheet ≡ Complete start payloads
    → TakenUp sheet t stopped resumed
