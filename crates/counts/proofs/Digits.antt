-- All digits of a 32-bit number tested at once.
-- Assumes nothing.
use mathlib.Core.Path.{◌≡◌, refl, sym, ap, ap₂, subst, ◌∙◌}
use mathlib.Core.Logic.{⊎_elim}
use mathlib.Core.Bool.{Bool, true, false, ◌&&◌}
use Prim.Native.Nat.{ℕ, zero, suc, ◌/◌, ◌%◌, ◌≤◌, ◌<◌}
use native.Mathlib.Nat.{mod-lt}
use native.Mathlib.Omega.{arith}
use lib.Bits.{bit_and, bit_or, and_shr, or_shr, and_mod, or_mod, and_zero_r}
use lib.Dec.{eqb, lit<}
use borrow.Author.Tests.{eqb-true, eq-eqb}
use Rattle.laws.proofs.Bools.{and_left, and_right, and_both, both_ways, order}
use Rattle.counts.specs.Counts.{is_pair, digits}

-- the test, with a mask
unfoldable tested : ℕ → ℕ → ℕ
tested n mask = bit_and (bit_and (n / 4) (bit_or (n / 2) n)) mask

-- the low byte of the test, by the ten lowest bits of n; it is 0 exactly if both digits of n's low byte are 0 to 9: computed
low : ℕ → ℕ
low m = bit_and (bit_and (m / 4) (bit_or (m / 2 % 256) (m % 256))) 34

same : Bool → Bool → Bool
same true b = b
same false true = false
same false false = true

right : ℕ → Bool
right zero = true
right (suc m) = same (eqb (low m) 0) (is_pair (m % 256)) && right m

right_all : right 1024 ≡ true
unfolding right same low is_pair
right_all = refl

same_equal : (a b : Bool) → same a b ≡ true → a ≡ b
unfolding same
same_equal true b e = sym e
same_equal false true e = e
same_equal false false e = refl

right_at : (n m : ℕ) → right n ≡ true → m < n → eqb (low m) 0 ≡ is_pair (m % 256)
unfolding right
right_at zero m e h = absurd (omega arith)
right_at (suc n) m e h =
    ⊎_elim (λ (p : m < n). right_at n m (and_right (same (eqb (low n) 0) (is_pair (n % 256))) (right n) e) p)
    (λ (p : n ≤ m).
    let is : n ≡ m = omega arith in
    subst (λ (k : ℕ). eqb (low k) 0 ≡ is_pair (k % 256)) is
    (same_equal (eqb (low n) 0) (is_pair (n % 256)) (and_left (same (eqb (low n) 0) (is_pair (n % 256))) (right n) e)))
    (order m n)

-- the test of n is that of its low byte and that of the rest
module _ (n mask : ℕ) (ends : mask % 256 ≡ 34) where
  low_part : tested n mask % 256 ≡ low (n % 1024)
  unfolding tested low
  low_part =
      let e4 : n / 4 % 256 ≡ n % 1024 / 4 = omega arith in
      let e2 : n / 2 % 256 ≡ n % 1024 / 2 % 256 = omega arith in
      let e1 : n % 256 ≡ n % 1024 % 256 = omega arith in
      and_mod (bit_and (n / 4) (bit_or (n / 2) n)) mask 8
      ∙ ap₂ bit_and (and_mod (n / 4) (bit_or (n / 2) n) 8 ∙ ap₂ bit_and e4 (or_mod (n / 2) n 8 ∙ ap₂ bit_or e2 e1)) ends

  high_part : tested n mask / 256 ≡ tested (n / 256) (mask / 256)
  unfolding tested
  high_part =
      let e4 : n / 4 / 256 ≡ n / 256 / 4 = omega arith in
      let e2 : n / 2 / 256 ≡ n / 256 / 2 = omega arith in
      and_shr (bit_and (n / 4) (bit_or (n / 2) n)) mask 8
      ∙ ap (λ (x : ℕ). bit_and x (mask / 256))
      (and_shr (n / 4) (bit_or (n / 2) n) 8
      ∙ ap₂ bit_and e4 (or_shr (n / 2) n 8 ∙ ap (λ (x : ℕ). bit_or x (n / 256)) e2))

  byte_more : eqb (tested n mask) 0 ≡ is_pair (n % 256) && eqb (tested (n / 256) (mask / 256)) 0
  byte_more =
      let within : n % 1024 < 1024 = mod-lt n (lit< tt) in
      let byte : n % 1024 % 256 ≡ n % 256 = omega arith in
      split (tested n mask)
      ∙ ap₂ ◌&&◌
      (ap (λ (x : ℕ). eqb x 0) low_part ∙ right_at 1024 (n % 1024) right_all within ∙ ap is_pair byte)
      (ap (λ (x : ℕ). eqb x 0) high_part)
    where
      split : (x : ℕ) → eqb x 0 ≡ eqb (x % 256) 0 && eqb (x / 256) 0
      split x =
          both_ways (eqb x 0) (eqb (x % 256) 0 && eqb (x / 256) 0)
          (λ e.
          let z : x ≡ 0 = eqb-true x 0 e in
          and_both (eqb (x % 256) 0) (eqb (x / 256) 0) (eq-eqb (x % 256) 0 (omega arith)) (eq-eqb (x / 256) 0 (omega arith)))
          (λ e.
          let lo : x % 256 ≡ 0 = eqb-true (x % 256) 0 (and_left (eqb (x % 256) 0) (eqb (x / 256) 0) e) in
          let hi : x / 256 ≡ 0 = eqb-true (x / 256) 0 (and_right (eqb (x % 256) 0) (eqb (x / 256) 0) e) in
          eq-eqb x 0 (omega arith))

nothing : (n : ℕ) → eqb (tested n 0) 0 ≡ true
unfolding tested
nothing n = eq-eqb (tested n 0) 0 (and_zero_r (bit_and (n / 4) (bit_or (n / 2) n)))

turned : (d c b a : Bool) → d && (c && (b && (a && true))) ≡ a && (b && (c && d))
turned true true true true = refl
turned true true true false = refl
turned true true false true = refl
turned true true false false = refl
turned true false true true = refl
turned true false true false = refl
turned true false false true = refl
turned true false false false = refl
turned false true true true = refl
turned false true true false = refl
turned false true false true = refl
turned false true false false = refl
turned false false true true = refl
turned false false true false = refl
turned false false false true = refl
turned false false false false = refl

pub all_tested : (n : ℕ) → n < 4294967296
    → eqb (bit_and (bit_and (n / 4) (bit_or (n / 2) n)) 572662306) 0
    ≡ digits (n / 16777216) (n / 65536 % 256) (n / 256 % 256) (n % 256)
unfolding tested digits
all_tested n h =
    let e2 : n / 256 / 256 % 256 ≡ n / 65536 % 256 = omega arith in
    let e3 : n / 256 / 256 / 256 % 256 ≡ n / 16777216 = omega arith in
    byte_more n 572662306 refl
    ∙ ap (λ (t : Bool). is_pair (n % 256) && t)
    (byte_more (n / 256) 2236962 refl
    ∙ ap (λ (t : Bool). is_pair (n / 256 % 256) && t)
    (byte_more (n / 256 / 256) 8738 refl
    ∙ ap₂ (λ (k : ℕ) (t : Bool). is_pair k && t) e2
    (byte_more (n / 256 / 256 / 256) 34 refl
    ∙ ap₂ (λ (k : ℕ) (t : Bool). is_pair k && t) e3 (nothing (n / 256 / 256 / 256 / 256)))))
    ∙ turned (is_pair (n % 256)) (is_pair (n / 256 % 256)) (is_pair (n / 65536 % 256)) (is_pair (n / 16777216))
