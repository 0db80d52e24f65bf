-- What the ledger answers (document 01, "The ledger, call by call").
-- Assumes nothing.
use Rattle.std.specs.Prelude.{ℕ, cond, List, [], ◌∷◌, eqb}
use Rattle.catalogue_standings.specs.Rows.{settle}
use Rattle.refusals.specs.Table.{lowest_blank}
use Rattle.ledger.specs.Calls.{Call, sheet_of}
use Rattle.ledger.specs.Ledger.{Sheet, view_in, verdict_in, deed_in, step_in}

-- An answer: 0 or the refusal's number, the values that go with it, and what a show's buffer holds then (nothing for a
-- call that brings no buffer).
pub record Told : Type 0 where
  pub number : ℕ
  pub values : List ℕ
  pub buffer : List ℕ

abbrev pub done : List ℕ → List ℕ → Told
done values buffer = record { number = 0; values = values; buffer = buffer }

-- Refused: the number, with 9 the place p, and the buffer as it was.
abbrev pub refused_with : List ℕ → ℕ → ℕ → Told
refused_with buffer p number = record { number = number; values = cond (eqb number 9) (p ∷ []) []; buffer = buffer }

-- What it answers to a call. With 9 goes the lowest blank place of the sheet (document 02 (d)).
abbrev pub told_in : ℕ → List Sheet → Call → Told
told_in n ledger c =
    let d = deed_in n ledger c in
    settle (verdict_in n ledger c) (done d.values d.left)
    (refused_with d.brought (lowest_blank (view_in n ledger (sheet_of c))))

-- What it answers to a list of calls, one after the other.
abbrev pub all_told_in : ℕ → List Sheet → List Call → List Told
all_told_in n ledger [] = []
all_told_in n ledger (c ∷ calls) = told_in n ledger c ∷ all_told_in n (step_in n ledger c) calls
