-- In a list, rows 1 and 4 hold for none of the calls: the ledger's verdict, which drops them, is the verdict of all rows.
-- Assumes nothing.
use Prim.Native.Nat.{ℕ, ◌+◌, ◌<◌}
use mathlib.Core.Path.{◌≡◌, refl, sym, subst}
use mathlib.Core.Bool.{Bool, true, false, not, ◌||◌, true≢false}
use mathlib.Core.List.{List, [], ◌∷◌, map}
use native.Mathlib.Omega.{arith}
use lib.Dec.{leb, ltb}
use lib.ListN.{length, get_or, set}
use borrow.Author.Tests.{le-ltb, not-false}
use Rattle.map_blocks.specs.Blocks.{all}
use Rattle.map_blocks.proofs.Runs.{all_elim}
use Rattle.catalogue_standings.specs.Rows.{row, refused, first_of}
use Rattle.catalogue_standings.proofs.Openings.{skip, stop}
use Rattle.catalogue_standings.specs.Standings.{is_damaged}
use Rattle.refusals.specs.Table.{Ask, on, rows_for, table_of}
use Rattle.ledger.specs.Calls as book
use Rattle.ledger.specs.Calls.{turned_in}
use Rattle.ledger.specs.Ledger.{Place, Blank, Payload, Sheet, Absent, Paused, PausedWith, Open, Complete, standing_in}
use Rattle.ledger.specs.Ledger.{held, length_in, places_in, is_blank, bytes_of, sheet_at, place_at, spare_in, view_by}
use Rattle.ledger.specs.Ledger.{verdict_in}
use Rattle.ledger.specs.Ledger.{listed}
use Rattle.ledger.proofs.Cover.{held_set, spare_and_held}
use Rattle.ledger.proofs.Rows.{Never, never_listed}
use Rattle.ledger.proofs.Sheets.{Sound, refilled}

pub or_not : (t : Bool) → (t || not t) ≡ true
or_not true = refl
or_not false = refl

pub sheet_undamaged : (x : Sheet) → is_damaged (standing_in x) ≡ false
sheet_undamaged Absent = refl
sheet_undamaged Paused = refl
sheet_undamaged (PausedWith s xs) = refl
sheet_undamaged (Open s ps) = refl
sheet_undamaged (Complete s xs) = refl

-- every place of an open sheet is filled, where no place is blank
pub full : (l : List Sheet) (i s : ℕ) (ps : List Place) → sheet_at l i ≡ Open s ps
    → not (all (λ p. not (is_blank (place_at l i p))) 0 (length_in (sheet_at l i))) ≡ false
    → map Payload (map bytes_of ps) ≡ ps
full l i s ps was h =
    let every : all (λ p. not (is_blank (get_or ps p Blank))) 0 (length ps) ≡ true =
    subst (λ (x : Sheet). all (λ p. not (is_blank (get_or (places_in x) p Blank))) 0 (length_in x) ≡ true) was
    (not-false _ h) in
    refilled ps (λ p lp. not-true-is (is_blank (get_or ps p Blank))
    (all_elim (λ p. not (is_blank (get_or ps p Blank))) 0 (length ps) every p (omega arith) (omega arith)))
  where
    not-true-is : (t : Bool) → not t ≡ true → t ≡ false
    not-true-is true e = absurd (true≢false (sym e))
    not-true-is false e = refl

module _ (n : ℕ) (l : List Sheet) (ok : Sound n l) where
  pub spare_is : spare_in n l + held l ≡ n
  spare_is = spare_and_held n l ok.once (λ i. (ok.fine i).inside)

  -- what is granted was spare
  pub spared : (i k : ℕ) (x : Sheet) → i < length l → length_in x ≡ k + length_in (sheet_at l i) → Sound n (set l i x)
      → ltb (spare_in n l) k ≡ false
  spared i k x h e then =
      le-ltb (spare_in n l) k
      (omega (arith, spare_is, held_set l i x h, spare_and_held n (set l i x) then.once (λ j. (then.fine j).inside)))

  -- no dropped row holds, if none of those behind the opening does
  pub listed_same : (role i : ℕ) (a : Ask)
      → Never (row 2 (leb (length l) i) ∷ row 21 (turned_in role a) ∷ []) (rows_for (view_by n l (turned_in role a) i) a)
      → first_of (table_of (view_by n l (turned_in role a) i) (on i a)) ≡ verdict_in n l (book.on role i a)
  unfolding table_of first_of
  listed_same role i a h = never_listed [] (table_of (view_by n l (turned_in role a) i) (on i a)) refl
      (λ p. refl, (λ p. sheet_undamaged (sheet_at l i), h))

-- a call that is turned away, and one for a sheet that the ledger does not have
pub beyond_in : (n : ℕ) (l : List Sheet) (role i : ℕ) (a : Ask) → turned_in role a ≡ false → leb (length l) i ≡ true
    → verdict_in n l (book.on role i a) ≡ refused 2
unfolding table_of listed
beyond_in n l role i a t e = skip 21 _ _ _ t (stop 2 _ _ e)

pub turned_in_lem : (n : ℕ) (l : List Sheet) (role i : ℕ) (a : Ask) → turned_in role a ≡ true
    → verdict_in n l (book.on role i a) ≡ refused 21
unfolding table_of listed
turned_in_lem n l role i a e = stop 21 _ _ e
