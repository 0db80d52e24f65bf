-- How many sheets cover a block, how many blocks the sheets hold, and that free blocks and held blocks come to n.
-- Assumes nothing.
use Prim.Native.Nat.{ℕ, zero, suc, ◌+◌, ◌≤◌, ◌<◌, min}
use mathlib.Core.Path.{◌≡◌, refl, ap}
use mathlib.Core.Logic.{◌≢◌}
use mathlib.Core.Bool.{Bool, true, false, cond, ◌&&◌}
use mathlib.Core.List.{List, [], ◌∷◌}
use native.Mathlib.Nat.{add-zero, not-suc-le-zero, le_of_suc-le-suc}
use native.Mathlib.Omega.{arith}
use lib.Dec.{eqb, leb, ltb}
use lib.ListN.{length, set}
use borrow.Author.Tests.{ltb-true, ltb-false, leb-true, le-leb, lt-ltb, eqb-true, eqb-false}
use Rattle.map_blocks.specs.Maps.{in_run}
use Rattle.laws.proofs.Bools.{and_left, and_right, and_both, not_true, clash}
use Rattle.survey.specs.Survey.{blocks, free_of}
use Rattle.ledger.specs.Ledger.{Sheet, Absent, start_in, length_in, sheet_at, covers, cover, free_in, spare_in, held}

-- ---- a run

pub in_run_lem : (s k b : ℕ) → in_run s k b ≡ true → (s ≤ b) × (b < s + k)
in_run_lem s k b h = (leb-true s b (and_left _ _ h), ltb-true b (s + k) (and_right (leb s b) _ h))

pub run_in : (s k b : ℕ) → s ≤ b → b < s + k → in_run s k b ≡ true
run_in s k b p q = and_both _ _ (le-leb s b p) (lt-ltb b (s + k) q)

pub run_out : (s k b : ℕ) → ((s ≤ b) × (b < s + k) → ⊥) → in_run s k b ≡ false
run_out s k b h = not_true _ (λ t. h (in_run_lem s k b t))

-- ---- the blocks that sheets cover

pub covers_in : (x : Sheet) (b : ℕ) → start_in x ≤ b → b < start_in x + length_in x → covers x b ≡ 1
covers_in x b p q = ap {B = ℕ} (λ (t : Bool). cond t 1 0) (run_in (start_in x) (length_in x) b p q)

pub covers_out : (x : Sheet) (b : ℕ) → ((start_in x ≤ b) × (b < start_in x + length_in x) → ⊥) → covers x b ≡ 0
covers_out x b h = ap {B = ℕ} (λ (t : Bool). cond t 1 0) (run_out (start_in x) (length_in x) b h)

pub covers_absent : (b : ℕ) → covers Absent b ≡ 0
covers_absent b = covers_out Absent b (λ h. omega (arith, h.0, h.1))

pub cover_set : (l : List Sheet) (i : ℕ) (x : Sheet) (b : ℕ) → i < length l
    → cover (set l i x) b + covers (sheet_at l i) b ≡ cover l b + covers x b
cover_set [] i x b h = absurd (not-suc-le-zero h)
cover_set (y ∷ l) zero x b h = omega arith
cover_set (y ∷ l) (suc i) x b h = omega (arith, cover_set l i x b (le_of_suc-le-suc h))

pub cover_at : (l : List Sheet) (i b : ℕ) → covers (sheet_at l i) b ≤ cover l b
cover_at [] i b = omega (arith, covers_absent b)
cover_at (y ∷ l) zero b = omega arith
cover_at (y ∷ l) (suc i) b = omega (arith, cover_at l i b)

pub cover_two : (l : List Sheet) (i j b : ℕ) → i ≢ j → covers (sheet_at l i) b + covers (sheet_at l j) b ≤ cover l b
cover_two [] i j b h = omega (arith, covers_absent b)
cover_two (y ∷ l) zero zero b h = absurd (h refl)
cover_two (y ∷ l) zero (suc j) b h = omega (arith, cover_at l j b)
cover_two (y ∷ l) (suc i) zero b h = omega (arith, cover_at l i b)
cover_two (y ∷ l) (suc i) (suc j) b h = omega (arith, cover_two l i j b (λ e. h (ap suc e)))

-- ---- the blocks that sheets hold

pub held_set : (l : List Sheet) (i : ℕ) (x : Sheet) → i < length l
    → held (set l i x) + length_in (sheet_at l i) ≡ held l + length_in x
held_set [] i x h = absurd (not-suc-le-zero h)
held_set (y ∷ l) zero x h = omega arith
held_set (y ∷ l) (suc i) x h = omega (arith, held_set l i x (le_of_suc-le-suc h))

pub length_held : (l : List Sheet) (i : ℕ) → length_in (sheet_at l i) ≤ held l
length_held [] i = omega arith
length_held (y ∷ l) zero = omega arith
length_held (y ∷ l) (suc i) = omega (arith, length_held l i)

-- ---- free and held

-- the sum of f over the m numbers from s on
abbrev sum : (ℕ → ℕ) → ℕ → ℕ → ℕ
sum f s zero = 0
sum f s (suc m) = f s + sum f (suc s) m

sum_add : (f g : ℕ → ℕ) (s m : ℕ) → sum (λ b. f b + g b) s m ≡ sum f s m + sum g s m
sum_add f g s zero = refl
sum_add f g s (suc m) = omega (arith, sum_add f g (suc s) m)

sum_none : (s m : ℕ) → sum (λ b. 0) s m ≡ 0
sum_none s zero = refl
sum_none s (suc m) = omega (arith, sum_none (suc s) m)

run_step : (a k s : ℕ) (t : Bool) → in_run a k s ≡ t → cond t 1 0 + min s (a + k) + min (suc s) a ≡ min (suc s) (a + k)
    + min s a
run_step a k s true e = let h = in_run_lem a k s e in omega arith
run_step a k s false e = go (ltb s a) refl
  where
    go : (t : Bool) → ltb s a ≡ t → 0 + min s (a + k) + min (suc s) a ≡ min (suc s) (a + k) + min s a
    go true q = omega (arith, ltb-true s a q)
    go false q = past (ltb s (a + k)) refl
      where
        past : (t : Bool) → ltb s (a + k) ≡ t → 0 + min s (a + k) + min (suc s) a ≡ min (suc s) (a + k) + min s a
        past true r = absurd (clash (in_run a k s) (run_in a k s (ltb-false s a q) (ltb-true s (a + k) r)) e)
        past false r = omega (arith, ltb-false s a q, ltb-false s (a + k) r)

-- the blocks of a run among the m from s on
sum_run : (a k s m : ℕ) → sum (λ b. cond (in_run a k b) 1 0) s m + min s (a + k) + min (s + m) a ≡ min (s + m) (a + k) + min s a
sum_run a k s zero = rw (add-zero s) (omega arith)
sum_run a k s (suc m) =
    let shift : s + suc m ≡ suc s + m = omega arith in
    rw shift
    (joined (cond (in_run a k s) 1 0) (sum (λ b. cond (in_run a k b) 1 0) (suc s) m) (min s (a + k)) (min (suc s) (a + k))
    (min s a) (min (suc s) a) (min (suc s + m) a)
    (min (suc s + m) (a + k)) (run_step a k s (in_run a k s) refl) (sum_run a k (suc s) m))
  where
    joined : (t u x x' y y' z w : ℕ) → t + x + y' ≡ x' + y → u + x' + z ≡ w + y' → t + u + x + z ≡ w + y
    joined t u x x' y y' z w p q = omega arith

sum_cover : (n : ℕ) (l : List Sheet) → ((i : ℕ) → start_in (sheet_at l i) + length_in (sheet_at l i) ≤ n)
    → sum (cover l) 0 n ≡ held l
sum_cover n [] h = sum_none 0 n
sum_cover n (x ∷ l) h =
    omega (arith, sum_add (covers x) (cover l) 0 n, sum_run (start_in x) (length_in x) 0 n, h 0, sum_cover n l (λ i. h (suc i)))

one_or_none : (f : ℕ) (t : Bool) → f ≤ 1 → eqb f 0 ≡ t → cond t 1 0 + f ≡ 1
one_or_none f true h e = omega (arith, eqb-true f 0 e)
one_or_none f false h e = omega (arith, eqb-false f 0 e)

count_sum : (n : ℕ) (l : List Sheet) → ((b : ℕ) → cover l b ≤ 1) → (s m : ℕ) → s + m ≤ n
    → free_of (blocks (free_in n l) s m) + sum (cover l) s m ≡ m
unfolding free_of blocks
count_sum n l h s zero le = refl
count_sum n l h s (suc m) le =
    let here : free_in n l s ≡ eqb (cover l s) 0 = ap (λ (t : Bool). t && eqb (cover l s) 0) (lt-ltb s n (omega arith)) in
    omega (
      arith,
      count_sum n l h (suc s) m (omega arith),
      ap {B = ℕ} (λ (t : Bool). cond t 1 0) here,
      one_or_none (cover l s) (eqb (cover l s) 0) (h s) refl,
    )

-- where no block is covered twice and no sheet leaves the card
pub spare_and_held : (n : ℕ) (l : List Sheet) → ((b : ℕ) → cover l b ≤ 1)
    → ((i : ℕ) → start_in (sheet_at l i) + length_in (sheet_at l i) ≤ n)
    → spare_in n l + held l ≡ n
spare_and_held n l once inside = omega (arith, count_sum n l once 0 n (omega arith), sum_cover n l inside)
