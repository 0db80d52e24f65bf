-- The place that the ledger answers with 9 is the lowest blank place of the sheet (document 02 (d)).
-- Assumes nothing.
use Prim.Native.Nat.{ℕ}
use mathlib.Core.Path.{◌≡◌, ap}
use mathlib.Core.Logic.{◌⊎◌, inl, inr}
use mathlib.Core.Bool.{not, true}
use mathlib.Core.List.{List, [], ◌∷◌}
use Rattle.map_blocks.specs.Blocks.{all}
use Rattle.catalogue_standings.specs.Rows.{Verdict, refused, settle}
use Rattle.refusals.specs.Table.{complete, lowest_blank, table_of}
use Rattle.refusals.proofs.BlankPlaces.{Lowest, lowest_of}
use Rattle.catalogue_standings.proofs.Rows.{holds}
use Rattle.ledger.specs.Calls.{Call, on}
use Rattle.ledger.specs.Ledger.{Sheet, length_in, is_blank, sheet_at, place_at, view_in, listed, rows_in, verdict_in, deed_in}
use Rattle.ledger.specs.Answers.{done, refused_with, told_in}

module _ (n : ℕ) (l : List Sheet) (role i : ℕ) (nine : verdict_in n l (on role i complete) ≡ refused 9) where
  abbrev call : Call
  call = on role i complete

  pub place_told : (told_in n l call).values ≡ lowest_blank (view_in n l i) ∷ []
  unfolding deed_in
  place_told = ap (λ (v : Verdict). (settle v (done [] []) (refused_with [] (lowest_blank (view_in n l i)))).values) nine

  pub told_is_lowest : Lowest (λ p. is_blank (place_at l i p)) (length_in (sheet_at l i)) (lowest_blank (view_in n l i))
  unfolding table_of listed
  told_is_lowest = go (holds 9 (rows_in n l call) nine)
    where
      go : (not (all (λ p. not (is_blank (place_at l i p))) 0 (length_in (sheet_at l i))) ≡ true) ⊎ ⊥
          → Lowest (λ p. is_blank (place_at l i p)) (length_in (sheet_at l i)) (lowest_blank (view_in n l i))
      go (inl blank) = lowest_of (view_in n l i) blank
      go (inr none) = absurd none
