-- The ends of what a word holds: its first bit that is 1, and the ones that it ends in.
-- Assumes nothing.
use mathlib.Core.Path.{◌≡◌, refl, sym, ap, ◌∙◌}
use mathlib.Core.Bool.{true, false}
use Prim.Native.Nat.{ℕ, zero, suc, ◌+◌, ◌-◌, ◌*◌, ◌/◌, ◌%◌, ◌^◌, ◌≤◌, ◌<◌}
use native.Mathlib.Nat.{div-eq_of_lt, lt_of_lt_of_le, div-one, div-eq_of_lt-le}
use native.Mathlib.Numerals.{one-add}
use native.Mathlib.Omega.{arith}
use lib.Pow.{shr-shr, pow_mono}
use lib.Count.{count_leading_zeros, count_trailing_zeros, under, leading_top, trailing_le}
use borrow.Author.Tests.{not-false, not-true}
use Rattle.map_blocks.specs.Words.{bit}
use Rattle.map_search_word.specs.Scan.{Tail}
use Rattle.map_blocks.proofs.Bits.{of_dig, of_zero, low, bit_not}

-- ---- the first bit that is set

pub record First (w r : ℕ) : Type 0 where
  pub within : r < 64
  pub here : bit w r ≡ true
  pub before : (j : ℕ) → j < r → bit w j ≡ false

pub first_set : (w : ℕ) → 0 < w → w < 2 ^ 64 → First w (count_leading_zeros 64 w)
first_set w p b =
    let t = leading_top 64 w p b in
    let e : count_leading_zeros 64 w + suc t.0 ≡ 64 = t.1 in
    let lo : 2 ^ t.0 ≤ w = t.2 in
    let hi : w < 2 ^ suc t.0 = t.3 in
    record {
      within = omega arith;
      here = of_dig w (count_leading_zeros 64 w) (ap (λ (x : ℕ). x % 2)
          (low w t.0 (count_leading_zeros 64 w) (omega arith) ∙ top (2 ^ t.0) w (omega arith) (omega arith)));
      before =
          λ j l. of_zero w j
          (ap (λ (x : ℕ). x % 2) (low w (63 - j) j (omega arith)
          ∙ div-eq_of_lt (lt_of_lt_of_le hi (pow_mono (room t.0 (count_leading_zeros 64 w) j e l)))));
    }
  where
    room : (t z j : ℕ) → z + suc t ≡ 64 → j < z → suc t ≤ 63 - j
    room t z j e l = omega arith

    top : (P w : ℕ) → P ≤ w → w < 2 * P → w / P ≡ 1
    top P w a b = div-eq_of_lt-le P (omega arith) (omega arith)

-- ---- the ones at the end of a word

half_shift : (x i : ℕ) → x / 2 ^ suc i ≡ x / 2 / 2 ^ i
half_shift x i = sym (shr-shr x 1 i ∙ ap (λ (y : ℕ). x / 2 ^ y) (one-add i))

tz_zero : (k x i : ℕ) → i < count_trailing_zeros k x → x / 2 ^ i % 2 ≡ 0
unfolding count_trailing_zeros
tz_zero zero x i h = absurd (omega arith)
tz_zero (suc k) x i h = go (tz_zero k (x / 2)) (x % 2) refl i h
  where
    go : ((i : ℕ) → i < count_trailing_zeros k (x / 2) → x / 2 / 2 ^ i % 2 ≡ 0) → (d : ℕ) → x % 2 ≡ d → (i : ℕ)
        → i < under d (count_trailing_zeros k (x / 2)) → x / 2 ^ i % 2 ≡ 0
    go rec zero e zero h = ap (λ (y : ℕ). y % 2) (div-one x) ∙ e
    go rec zero e (suc i) h = ap (λ (y : ℕ). y % 2) (half_shift x i) ∙ rec i (omega arith)
    go rec (suc d) e i h = absurd (omega arith)

tz_one : (k x : ℕ) → count_trailing_zeros k x < k → x / 2 ^ count_trailing_zeros k x % 2 ≡ 1
unfolding count_trailing_zeros
tz_one zero x h = absurd (omega arith)
tz_one (suc k) x h = go (tz_one k (x / 2)) (x % 2) refl h
  where
    go : (count_trailing_zeros k (x / 2) < k → x / 2 / 2 ^ count_trailing_zeros k (x / 2) % 2 ≡ 1) → (d : ℕ) → x % 2 ≡ d
        → under d (count_trailing_zeros k (x / 2)) < suc k
        → x / 2 ^ under d (count_trailing_zeros k (x / 2)) % 2 ≡ 1
    go rec zero e h = ap (λ (y : ℕ). y % 2) (half_shift x (count_trailing_zeros k (x / 2))) ∙ rec (omega arith)
    go rec (suc d) e h = ap (λ (y : ℕ). y % 2) (div-one x) ∙ omega arith

-- the zeros at the end of the complement are the ones at the end of the word
pub tail_ones : (w : ℕ) → w < 2 ^ 64 → Tail w (count_trailing_zeros 64 ((2 ^ 64 - 1) - w))
tail_ones w b =
    let v : ℕ = (2 ^ 64 - 1) - w in
    let z : ℕ = count_trailing_zeros 64 v in
    record {
      within = trailing_le 64 v;
      held = λ j l h. flipped j l
          (of_zero v j (ap (λ (x : ℕ). x % 2) (low v (63 - j) j (omega arith)) ∙ tz_zero 64 v (63 - j) (omega arith)));
      stop = λ j e. flipped' j (omega arith) (of_dig v j
          (ap (λ (x : ℕ). x % 2) (low v z j (omega arith)) ∙ tz_one 64 v (omega arith)));
    }
  where
    flipped : (j : ℕ) → j < 64 → bit ((2 ^ 64 - 1) - w) j ≡ false → bit w j ≡ true
    flipped j l e = not-false (bit w j) (sym (bit_not w j b l) ∙ e)

    flipped' : (j : ℕ) → j < 64 → bit ((2 ^ 64 - 1) - w) j ≡ true → bit w j ≡ false
    flipped' j l e = not-true (bit w j) (sym (bit_not w j b l) ∙ e)
