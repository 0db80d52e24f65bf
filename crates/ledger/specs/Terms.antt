-- What is claimed of the term of a course (document 02 (m)): a complete sheet shows on a day exactly when that day lies in its
-- term, and a dated show that is done does what a show does. That they hold is `shows_exactly_in_its_term` and
-- `does_what_show_does` in proofs/Terms.antt.
-- Assumes nothing.
use Rattle.std.specs.Prelude.{ℕ, ◌≤◌, ◌<◌, ◌≡◌, ◌↔◌, true, List, [], length, get_or}
use Rattle.calendar.specs.Calendar.{Date, date_exists, day_number}
use Rattle.calendar.specs.Term.{Term, term_of}
use Rattle.roles.specs.Roles as roles
use Rattle.roles.specs.Roles.{may}
use Rattle.refusals.specs.Table.{show, show_dated}
use Rattle.card.specs.Calls.{Kept}
use Rattle.card.specs.Public.{on, Manner, Beside, End, ends}
use Rattle.ledger.specs.Ledger.{Complete, sheet_at, after, begun}
use Rattle.ledger.specs.Answers.{Told, done}
use Rattle.ledger.specs.Lists.{Made, told_of, Runs, ByAny, heard_in, fresh_state}

-- The term of a complete sheet: the two days that its payload of place 0 starts with.
abbrev pub term_in : List (List ℕ) → Term
term_in payloads = term_of (get_or payloads 0 [])

-- From the first day to the last, both included.
abbrev pub Within : Term → ℕ → Type 0
Within term day = (term.first ≤ day) × (day ≤ term.last)

-- What a dated show of place p of a complete sheet answers: the payload of the place exactly on a day of the term, and 20, with
-- the buffer as it was, on every other.
pub record ShowsInTerm (payloads : List (List ℕ)) (p day : ℕ) (buffer : List ℕ) (told : Told) : Type 0 where
  pub exactly : (told ≡ done [] (get_or payloads p [])) ↔ Within (term_in payloads) day
  pub otherwise : (Within (term_in payloads) day → ⊥) → told ≡ record { number = 20; values = []; buffer = buffer }

-- After every list of calls from a fresh card, guided by whatever summaries, on every date that exists.
abbrev pub ShowsExactlyInItsTerm : ℕ → ℕ → List ℕ → Type 0
ShowsExactlyInItsTerm n c card =
    (made : List Made) (es : List End) (t : Kept) → ByAny (fresh_state n c card) made → Runs (fresh_state n c card) made es t
    → (sheet start : ℕ) (payloads : List (List ℕ)) → sheet_at (after n (begun c) (heard_in made es)) sheet
    ≡ Complete start payloads
    → (p : ℕ) → p < length payloads → (date : Date) → date_exists date ≡ true → (buffer : List ℕ) → length buffer ≡ 496
    → (m : Manner) → may m.role roles.show_dated ≡ true → (b : Beside)
    → ShowsInTerm payloads p (day_number date) buffer (told_of (ends m t b (on sheet (show_dated p date buffer))))

-- From any state: a dated show that is done replies and leaves what a show of the place does.
abbrev pub DoesWhatShowDoes : Type 0
DoesWhatShowDoes =
    (s : Kept) (m other : Manner) (b : Beside) (sheet p : ℕ) (date : Date) (buffer : List ℕ)
    → may other.role roles.show ≡ true → (told_of (ends m s b (on sheet (show_dated p date buffer)))).number ≡ 0
    → ends m s b (on sheet (show_dated p date buffer)) ≡ ends other s b (on sheet (show p buffer))
