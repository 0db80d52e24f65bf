-- What a wing holds, in the catalogue and in the ledger.
-- Assumes nothing.
use Prim.Native.Nat.{ℕ, zero, suc, ◌+◌, ◌-◌, ◌*◌, ◌/◌, ◌%◌, ◌≤◌, ◌<◌}
use mathlib.Core.Path.{◌≡◌, refl, sym, ap, subst, ◌∙◌}
use mathlib.Core.Bool.{Bool, true, false}
use mathlib.Core.List.{List, [], ◌∷◌, map}
use native.Mathlib.Nat.{not-suc-le-zero, le_of_suc-le-suc}
use native.Mathlib.Omega.{arith}
use lib.Dec.{ltb}
use lib.ListN.{length, set, take, drop, length-map, get_or-eq_default}
use lib.Seq.{get_or-take, get_or-drop, set_out, drop-set-add, drop-set-lt, take-set-lt, take-set-le}
use borrow.Author.Tests.{ltb-true, ltb-false}
use Rattle.catalogue.specs.Entries as catalogue
use Rattle.catalogue.specs.Entries.{zeros, entry_at}
use Rattle.catalogue.specs.declared.Entry.{Entry}
use Rattle.catalogue_wings.specs.Wings.{wing_of, in_wing, held_by}
use Rattle.catalogue_wings.proofs.Sums.{held_is}
use Rattle.ledger.specs.Ledger.{Sheet, Absent, length_in, sheet_at, held, held_in}
use Rattle.ledger.specs.Claim.{entry_in}
use Rattle.ledger.proofs.Cover.{held_set}

pub entry_at_lem : (l : List Sheet) (i : ℕ) → i < length l → entry_at (map entry_in l) i ≡ entry_in (sheet_at l i)
entry_at_lem [] i h = absurd (not-suc-le-zero h)
entry_at_lem (x ∷ l) zero h = refl
entry_at_lem (x ∷ l) (suc i) h = entry_at_lem l i (le_of_suc-le-suc h)

-- ---- the lengths in a wing's entries are those of its sheets

-- what is made of every sheet is made of those of a wing
drop_map : {B : Type 0} (f : Sheet → B) (j : ℕ) (l : List Sheet) → drop j (map f l) ≡ map f (drop j l)
drop_map f zero l = refl
drop_map f (suc j) [] = refl
drop_map f (suc j) (x ∷ l) = drop_map f j l

take_map : {B : Type 0} (f : Sheet → B) (j : ℕ) (l : List Sheet) → take j (map f l) ≡ map f (take j l)
take_map f zero l = refl
take_map f (suc j) [] = refl
take_map {B} f (suc j) (x ∷ l) = ap (λ (r : List B). f x ∷ r) (take_map f j l)

entries_hold : (l : List Sheet) → catalogue.held (map entry_in l) ≡ held l
unfolding catalogue.held
entries_hold [] = refl
entries_hold (x ∷ l) = omega (arith, entries_hold l)

wing_lengths : (l : List Sheet) (w : ℕ) → catalogue.held (in_wing w (map entry_in l)) ≡ held (in_wing w l)
wing_lengths l w =
    ap (λ (es : List Entry). catalogue.held (take 128 es)) (drop_map entry_in (128 * w) l)
    ∙ ap catalogue.held (take_map entry_in 128 (drop (128 * w) l)) ∙ entries_hold (in_wing w l)

-- a change of every sheet that leaves the lengths leaves what a wing holds
held_map : (f : Sheet → Sheet) → ((x : Sheet) → length_in (f x) ≡ length_in x) → (l : List Sheet) → held (map f l) ≡ held l
held_map f same [] = refl
held_map f same (x ∷ l) = omega (arith, same x, held_map f same l)

pub wing_map : (f : Sheet → Sheet) → ((x : Sheet) → length_in (f x) ≡ length_in x) → (l : List Sheet) (i : ℕ)
    → held_in (map f l) i ≡ held_in l i
wing_map f same l i =
    ap (λ (xs : List Sheet). held (take 128 xs)) (drop_map f (128 * wing_of i) l)
    ∙ ap held (take_map f 128 (drop (128 * wing_of i) l)) ∙ held_map f same (in_wing (wing_of i) l)

-- ---- what a wing holds is the same in both

module _ (n : ℕ) (l : List Sheet) (high : n ≤ 262144) (inside : (i : ℕ) → length_in (sheet_at l i) ≤ n) where
  short : (i : ℕ) → (entry_at (map entry_in l) i).length ≤ 4294967295
  short i = go (ltb i (length l)) refl
    where
      go : (t : Bool) → ltb i (length l) ≡ t → (entry_at (map entry_in l) i).length ≤ 4294967295
      go true e =
          let same = ap (λ (x : Entry). x.length) (entry_at_lem l i (ltb-true i (length l) e)) in
          omega (arith, same, inside i, high)
      go false e =
          let past : length (map entry_in l) ≤ i = omega (arith, length-map l entry_in, ltb-false i (length l) e) in
          let same = ap (λ (x : Entry). x.length) (get_or-eq_default (map entry_in l) zeros {n = i} past) in
          omega (arith, same)

  pub wing_same : (i : ℕ) → held_by (map entry_in l) i ≡ held_in l i
  wing_same i = held_is (map entry_in l) i short ∙ wing_lengths l (wing_of i)

-- ---- a sheet that has changed

held_drop : (j : ℕ) (l : List Sheet) → held (drop j l) ≤ held l
held_drop zero l = omega arith
held_drop (suc j) [] = omega arith
held_drop (suc j) (x ∷ l) = omega (arith, held_drop j l)

held_take : (j : ℕ) (l : List Sheet) → held (take j l) ≤ held l
held_take zero l = omega arith
held_take (suc j) [] = omega arith
held_take (suc j) (x ∷ l) = omega (arith, held_take j l)

-- a wing holds no more than all sheets
pub wing_part : (l : List Sheet) (i : ℕ) → held_in l i ≤ held l
wing_part l i = omega (arith, held_take 128 (drop (128 * wing_of i) l), held_drop (128 * wing_of i) l)

-- where a sheet has g blocks more at the most, all sheets have
held_more : (l : List Sheet) (i : ℕ) (x : Sheet) (g : ℕ) → length_in x ≤ length_in (sheet_at l i) + g → held (set l i x) ≤ held
    l + g
held_more l i x g h = go (ltb i (length l)) refl
  where
    go : (t : Bool) → ltb i (length l) ≡ t → held (set l i x) ≤ held l + g
    go true e = omega (arith, held_set l i x (ltb-true i (length l) e), h)
    go false e =
        let same = ap held (set_out l i x (ltb-false i (length l) e)) in
        omega (arith, same)

-- the sheets of a wing, where one of it has changed, and where another has
same_wing : (l : List Sheet) (w j : ℕ) (x : Sheet) → j < 128 → in_wing w (set l (128 * w + j) x) ≡ set (in_wing w l) j x
same_wing l w j x below =
    ap (λ (r : List Sheet). take 128 r) (drop-set-add (128 * w) l j x) ∙ take-set-lt 128 (drop (128 * w) l) j x below

before_wing : (l : List Sheet) (w i : ℕ) (x : Sheet) → i < 128 * w → in_wing w (set l i x) ≡ in_wing w l
before_wing l w i x before = ap (λ (r : List Sheet). take 128 r) (drop-set-lt (128 * w) l i x before)

past_wing : (l : List Sheet) (w j : ℕ) (x : Sheet) → 128 ≤ j → in_wing w (set l (128 * w + j) x) ≡ in_wing w l
past_wing l w j x past =
    ap (λ (r : List Sheet). take 128 r) (drop-set-add (128 * w) l j x) ∙ take-set-le 128 (drop (128 * w) l) j x past

pub wing_more : (l : List Sheet) (i j : ℕ) (x : Sheet) (g : ℕ) → wing_of j ≡ wing_of i → length_in x ≤ length_in (sheet_at l i)
    + g
    → held_in (set l i x) j ≤ held_in l j + g
wing_more l i j x g same h =
    let w : ℕ = wing_of i in
    let p : ℕ = i % 128 in
    let at : 128 * w + p ≡ i = omega arith in
    let below : p < 128 = omega arith in
    let here : sheet_at (in_wing w l) p ≡ sheet_at l i =
    get_or-take 128 (drop (128 * w) l) p Absent below ∙ get_or-drop (128 * w) l p Absent ∙ ap (sheet_at l) at in
    let becomes : in_wing w (set l i x) ≡ set (in_wing w l) p x =
    ap (λ (k : ℕ). in_wing w (set l k x)) (sym at) ∙ same_wing l w p x below in
    let most = held_more (in_wing w l) p x g (subst (λ (y : Sheet). length_in x ≤ length_in y + g) (sym here) h) in
    subst (λ (v : ℕ). held (in_wing v (set l i x)) ≤ held (in_wing v l) + g) (sym same)
    (subst (λ (r : List Sheet). held r ≤ held (in_wing w l) + g) (sym becomes) most)

pub wing_other : (l : List Sheet) (i j : ℕ) (x : Sheet) → (wing_of j ≡ wing_of i → ⊥) → held_in (set l i x) j ≡ held_in l j
wing_other l i j x differ = ap held (go (ltb i (128 * wing_of j)) refl)
  where
    go : (t : Bool) → ltb i (128 * wing_of j) ≡ t → in_wing (wing_of j) (set l i x) ≡ in_wing (wing_of j) l
    go true e = before_wing l (wing_of j) i x (ltb-true i (128 * wing_of j) e)
    go false e =
        let from = ltb-false i (128 * wing_of j) e in
        let p : ℕ = i - 128 * (j / 128) in
        let at : 128 * (j / 128) + p ≡ i = omega (arith, from) in
        let past : 128 ≤ p = omega (arith, from, differ) in
        ap (λ (k : ℕ). in_wing (wing_of j) (set l k x)) (sym at) ∙ past_wing l (wing_of j) p x past
