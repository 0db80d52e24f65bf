-- Pause and resume: what is admitted gets another mark, and keeps its blocks.
-- Assumes nothing.
use Prim.Native.Nat.{ℕ}
use mathlib.Core.Path.{◌≡◌, refl}
use mathlib.Core.Bool.{true}
use mathlib.Core.List.{List}
use Rattle.catalogue_standings.specs.Rows.{accepted}
use Rattle.refusals.specs.Effects as effects
use Rattle.refusals.specs.Marks.{is_admitted}
use Rattle.refusals.specs.Table.{Change, change, admits_of, mark_after, rows_for, table_of}
use Rattle.refusals.proofs.Marks.{admitted}
use Rattle.catalogue_standings.proofs.Rows.{rest_accepted}
use Rattle.ledger.specs.Calls.{on, turned_in}
use Rattle.ledger.specs.Ledger.{Sheet, sheet_at, standing_in, view_by, change_in, listed, verdict_in, deed_in}
use Rattle.ledger.proofs.Agreement.{Matches}
use Rattle.ledger.proofs.Listed.{sheet_undamaged}
use Rattle.ledger.proofs.Marking.{changes-mark}
use Rattle.ledger.proofs.Results.{Result}
use Rattle.ledger.proofs.SameBlocks.{changed}

module _ (n : ℕ) (l : List Sheet) (card : List ℕ) (k : Matches n l card) (role i : ℕ) (c : Change) where
  -- behind 21 and 2 stand the rows of what it admits
  admits_so : verdict_in n l (on role i (change c)) ≡ accepted → is_admitted (admits_of c) (standing_in (sheet_at l i)) ≡ true
  unfolding rows_for table_of listed
  admits_so h =
      let behind = (rest_accepted _ _ (rest_accepted _ _ h).1).1 in
      admitted (admits_of c) (view_by n l (turned_in role (change c)) i) (sheet_undamaged (sheet_at l i)) behind

  pub change_result : Result n l card (on role i (change c)) (verdict_in n l (on role i (change c)))
  unfolding effects.change_out rows_for table_of listed deed_in
  change_result = changes-mark n l card k role i (change c) (mark_after c) (change_in c) (record {
    ends_so = refl;
    plain = λ x y. refl;
    never = tt;
    no_row_0 = refl;
    no_row_9 = refl;
    does = λ n l. refl;
    same = λ h. changed c (sheet_at l i) (admits_so h);
  })
