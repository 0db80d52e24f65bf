-- The calls with a summary beside the map (document 02, request j): what is claimed of them, beside the calls by the map alone.
-- That it holds is proved in proofs/OwnSummary.antt, of the map's own summary, and in proofs/AnySummary.antt, of any.
-- Assumes nothing.
use Rattle.std.specs.Prelude.{ℕ, ◌+◌, ◌≤◌, ◌<◌, ◌≡◌, ◌⊎◌, true, false, List, [], get_or}
use Rattle.map_blocks.specs.Blocks.{free}
use Rattle.catalogue_standings.specs.Answers.{number_of}
use Rattle.catalogue_standings.specs.Rows.{refused}
use Rattle.catalogue_standings.specs.declared.Answer.TheVariants.{Done}
use Rattle.roles.specs.Roles as roles
use Rattle.roles.specs.Roles.{may}
use Rattle.refusals.specs.Effects.{unsearched_verdict}
use Rattle.refusals.specs.Placement.{Placement, figures_in, fit_within}
use Rattle.refusals.specs.Table.{reserve, grow, release, accept}
use Rattle.card.specs.Calls.{Kept, lent_to_within}
use Rattle.card.specs.Public.{Public, on, close, build, kind_of, Manner, by_map, by_summary, turned, Beside, with_summary, End}
use Rattle.card.specs.Public.{ending, refused_end}
use Rattle.card.specs.Public.{ends, kept_after}
use Rattle.ledger.specs.Lists.{Made, Runs, Along, Listed, OfAnyLength, ByOwn, HandedOn, own_of}
use Rattle.ledger.specs.Closings.{Comes}

-- All that a call comes to but the summary.
abbrev pub apart : End → End
apart e = ending e.outcome e.map e.entries e.card e.buffer (with_summary [] e.beside)

-- ---- with the map's own summary

-- Every call comes to what it does by the map alone, and the summary of a call that is lent one ends as the map's own.
pub record OwnStep (role : ℕ) (s : Kept) (b : Beside) (c : Public) : Type 0 where
  pub same : apart (ends (by_summary role) s b c) ≡ apart (ends (by_map role) s b c)
  pub own_after : (ends (by_summary role) s b c).beside.summary ≡ own_of (kept_after (ends (by_summary role) s b c))

-- A build that answered that it was done left it.
abbrev pub BuiltOwn : Type 0
BuiltOwn = (m : Manner) (s : Kept) (b : Beside) → number_of (ends m s b build).outcome.answer ≡ 0
    → (ends m s b build).beside.summary ≡ own_of s

-- A list that starts with the map's own summary, each call lent it as the one before left it: every call is lent the map's own,
-- and so it ends.
abbrev pub OwnRuns : Type 0
OwnRuns =
    (s : Kept) (made : List Made) (last : List ℕ) (es : List End) (t : Kept) → Runs s made es t
    → HandedOn (own_of s) s made last → Along (Listed OfAnyLength) s made → ByOwn s made × (last ≡ own_of t)

-- ---- with any summary

-- A call that is lent a summary of the wrong length is refused with 1, whoever makes it that is not turned away; neither the
-- summary nor anything else is changed.
abbrev pub WrongLength : ℕ → Kept → Beside → Type 0
WrongLength role s b =
    (c : Public) → (kind_of c).formed ≡ true → turned (by_summary role) c ≡ false
    → ends (by_summary role) s b c ≡ refused_end 1 s b (kind_of c)

-- A summary of the right length, the map's own or not, changes nothing of accept, grow, release and closing but itself. They
-- are exact. After a closing that was done it is the map's own, whatever it was before.
pub record AnySummary (role : ℕ) (s : Kept) (b : Beside) (sheet : ℕ) : Type 0 where
  pub accepts : (limits : List ℕ) (start k : ℕ) → apart (ends (by_summary role) s b (on sheet (accept limits start k)))
      ≡ apart (ends (by_map role) s b (on sheet (accept limits start k)))
  pub grows : (limits : List ℕ) (m : ℕ) → apart (ends (by_summary role) s b (on sheet (grow limits m)))
      ≡ apart (ends (by_map role) s b (on sheet (grow limits m)))
  pub releases : apart (ends (by_summary role) s b (on sheet release)) ≡ apart (ends (by_map role) s b (on sheet release))
  pub closes : apart (ends (by_summary role) s b close) ≡ apart (ends (by_map role) s b close)
  pub anew : (ends (by_summary role) s b close).outcome.answer ≡ Done
      → (ends (by_summary role) s b close).beside.summary ≡ own_of (kept_after (ends (by_summary role) s b close))

-- A reserve that comes to the search is refused with 10, or with 4 where more blocks are wanted than the free count says, and
-- changes nothing; or it is done: it is granted a run that is free, within its figures, inside n and k long, and then does and
-- answers what an accept of that run does, of whoever may accept.
pub data Decided (role : ℕ) (s : Kept) (b : Beside) (limits : List ℕ) (sheet k : ℕ) (p : Placement) : Type 0 where
  turned_down : (number : ℕ) → (number ≡ 10) ⊎ ((number ≡ 4) × (s.shape.free < k))
      → ends (by_summary role) s b (on sheet (reserve limits k p))
      ≡ refused_end number s b (kind_of (on sheet (reserve limits k p)))
      → Decided role s b limits sheet k p
  granted : (start : ℕ) → fit_within (free s.map) (figures_in s.shape.blocks p) k start ≡ true
      → start + k ≤ s.shape.blocks
      → number_of (ends (by_summary role) s b (on sheet (reserve limits k p))).outcome.answer ≡ 0
      → ((other : ℕ) → may other roles.accept ≡ true → ends (by_summary role) s b (on sheet (reserve limits k p))
      ≡ ends (by_summary other) s b (on sheet (accept limits start k)))
      → Decided role s b limits sheet k p

pub record AnyReserve (role : ℕ) (s : Kept) (b : Beside) (limits : List ℕ) (sheet k : ℕ) (p : Placement) : Type 0 where
  -- one that does not come to the search is answered as by the map alone
  pub refused_before : (number : ℕ)
      → unsearched_verdict (lent_to_within (turned (by_map role) (on sheet (reserve limits k p))) s s.card limits sheet) k p
      ≡ refused number
      → ends (by_summary role) s b (on sheet (reserve limits k p)) ≡ ends (by_map role) s b (on sheet (reserve limits k p))
  pub searched : Comes (by_map role) s limits sheet k p → Decided role s b limits sheet k p
  -- where group 0's longest is below k, the search gives no fit, whatever the map holds
  pub short : Comes (by_map role) s limits sheet k p → get_or b.summary 2 0 < k
      → ends (by_summary role) s b (on sheet (reserve limits k p))
      ≡ refused_end 10 s b (kind_of (on sheet (reserve limits k p)))
