-- The bits of a word, `bit w j`, counted from the most significant: a law for each operation on words.
-- Assumes nothing.
use mathlib.Core.Path.{◌≡◌, refl, sym, ap, ap₂, ◌∙◌, subst}
use mathlib.Core.Logic.{◌⊎◌, inl, inr, ⊎_elim}
use mathlib.Core.Bool.{Bool, true, false, not, ◌&&◌, ◌||◌}
use Prim.Native.Nat.{ℕ, zero, suc, ◌+◌, ◌-◌, ◌*◌, ◌/◌, ◌%◌, ◌^◌, ◌≤◌, ◌<◌, min, max}
use native.Mathlib.Nat.{add-zero, mul_assoc, mod-lt, mul-div-mul_right, mul-add-div_right, mul-add-mod_self_right, div-eq_of_lt}
use native.Mathlib.Nat.{mul-mod_left, mul-div_cancel, zero-lt-suc, div-add-mod', lt_of_lt_of_le, zero-mul, div-one}
use native.Mathlib.Numerals.{add-one, one-add}
use native.Mathlib.Omega.{arith}
use lib.Dec.{eqb, leb}
use lib.Arith.{digits_mod, digits_div, lt-one}
use lib.Pow.{pow_pos, pow-add, shr-shr, shr_lt, pow_mono, split, ones_lt}
use lib.Bits.{bit_and, bit_or, and_block, or_block, and_shr, or_shr, and_step, or_step}
use borrow.Author.Tests.{eqb-true, le-leb, lt-leb}
use Rattle.map_blocks.specs.Words.{bit}
use Rattle.laws.proofs.Bools.{clash, order}

-- ---- digits: 1 as a test

digit_cases : (x : ℕ) → x < 2 → (x ≡ 0) ⊎ (x ≡ 1)
digit_cases x h = ⊎_elim (λ l. inl (omega arith)) (λ g. inr (omega arith)) (order x 1)

one : ℕ → Bool
one x = eqb x 1

abbrev dig : ℕ → ℕ → ℕ
dig w j = w * 2 ^ j / 2 ^ 63 % 2

dig_lt : (w j : ℕ) → dig w j < 2
dig_lt w j = mod-lt (w * 2 ^ j / 2 ^ 63) (zero-lt-suc 1)

pub of_dig : (w j : ℕ) → dig w j ≡ 1 → bit w j ≡ true
unfolding bit
of_dig w j e = ap (λ (x : ℕ). eqb x 1) e

pub of_zero : (w j : ℕ) → dig w j ≡ 0 → bit w j ≡ false
unfolding bit
of_zero w j e = ap (λ (x : ℕ). eqb x 1) e

pub to_dig : (w j : ℕ) → bit w j ≡ true → dig w j ≡ 1
unfolding bit
to_dig w j e = eqb-true (dig w j) 1 e

pub to_zero : (w j : ℕ) → bit w j ≡ false → dig w j ≡ 0
to_zero w j e = ⊎_elim (λ z. z) (λ o. absurd (clash (bit w j) (of_dig w j o) e)) (digit_cases (dig w j) (dig_lt w j))

-- the same digit, the same bit
pub same_dig : (v w i j : ℕ) → dig v i ≡ dig w j → bit v i ≡ bit w j
unfolding bit
same_dig v w i j e = ap (λ (x : ℕ). eqb x 1) e

-- ---- and, or

module _ (op f : ℕ → ℕ → ℕ) (o : op 0 0 ≡ 0)
    (block : (k a b r s : ℕ) → r < 2 ^ k → s < 2 ^ k → op (a * 2 ^ k + r) (b * 2 ^ k + s) ≡ op a b * 2 ^ k + op r s)
    (shr : (a b k : ℕ) → op a b / 2 ^ k ≡ op (a / 2 ^ k) (b / 2 ^ k))
    (next : (a b : ℕ) → op a b ≡ op (a / 2) (b / 2) * 2 + f (a % 2) (b % 2))
    (digit : (x y : ℕ) → x < 2 → y < 2 → f x y < 2) where
  op_low : (a b : ℕ) → op a b % 2 ≡ f (a % 2) (b % 2)
  op_low a b = ap (λ (x : ℕ). x % 2) (next a b)
      ∙ digits_mod (op (a / 2) (b / 2)) (digit (a % 2) (b % 2) (mod-lt a (zero-lt-suc 1)) (mod-lt b (zero-lt-suc 1)))

  op_shl : (a b k : ℕ) → op a b * 2 ^ k ≡ op (a * 2 ^ k) (b * 2 ^ k)
  op_shl a b k =
      sym (ap₂ op (sym (add-zero (a * 2 ^ k))) (sym (add-zero (b * 2 ^ k))) ∙ block k a b 0 0 (pow_pos k) (pow_pos k)
      ∙ ap (λ (x : ℕ). op a b * 2 ^ k + x) o ∙ add-zero (op a b * 2 ^ k))

  op_dig : (a b j : ℕ) → dig (op a b) j ≡ f (dig a j) (dig b j)
  op_dig a b j =
      ap (λ (x : ℕ). x / 2 ^ 63 % 2) (op_shl a b j) ∙ ap (λ (x : ℕ). x % 2) (shr (a * 2 ^ j) (b * 2 ^ j) 63)
      ∙ op_low (a * 2 ^ j / 2 ^ 63) (b * 2 ^ j / 2 ^ 63)

min_digit : (x y : ℕ) → x < 2 → y < 2 → min x y < 2
min_digit x y a b = omega arith

max_digit : (x y : ℕ) → x < 2 → y < 2 → max x y < 2
max_digit x y a b = omega arith

pub bit_and_lem : (a b j : ℕ) → bit (bit_and a b) j ≡ (bit a j && bit b j)
unfolding bit
bit_and_lem a b j =
    ap (λ (x : ℕ). eqb x 1) (op_dig bit_and min refl and_block and_shr and_step min_digit a b j)
    ∙ min-bool (dig a j) (dig b j) (digit_cases (dig a j) (dig_lt a j)) (digit_cases (dig b j) (dig_lt b j))
  where
    min-bool : (x y : ℕ) → (x ≡ 0) ⊎ (x ≡ 1) → (y ≡ 0) ⊎ (y ≡ 1) → eqb (min x y) 1 ≡ (eqb x 1 && eqb y 1)
    min-bool x y (inl p) (inl q) = simp (p, q)
    min-bool x y (inl p) (inr q) = simp (p, q)
    min-bool x y (inr p) (inl q) = simp (p, q)
    min-bool x y (inr p) (inr q) = simp (p, q)

pub bit_or_lem : (a b j : ℕ) → bit (bit_or a b) j ≡ (bit a j || bit b j)
unfolding bit
bit_or_lem a b j =
    ap (λ (x : ℕ). eqb x 1) (op_dig bit_or max refl or_block or_shr or_step max_digit a b j)
    ∙ max-bool (dig a j) (dig b j) (digit_cases (dig a j) (dig_lt a j)) (digit_cases (dig b j) (dig_lt b j))
  where
    max-bool : (x y : ℕ) → (x ≡ 0) ⊎ (x ≡ 1) → (y ≡ 0) ⊎ (y ≡ 1) → eqb (max x y) 1 ≡ (eqb x 1 || eqb y 1)
    max-bool x y (inl p) (inl q) = simp (p, q)
    max-bool x y (inl p) (inr q) = simp (p, q)
    max-bool x y (inr p) (inl q) = simp (p, q)
    max-bool x y (inr p) (inr q) = simp (p, q)

-- ---- shifts

-- bit j from the most significant end is digit i from the least, where i and j make 63
pub low : (w i j : ℕ) → i + j ≡ 63 → w * 2 ^ j / 2 ^ 63 ≡ w / 2 ^ i
low w i j e = ap (λ (x : ℕ). w * 2 ^ j / 2 ^ x) (sym e) ∙ ap (λ (x : ℕ). w * 2 ^ j / x) (pow-add 2 i j)
    ∙ mul-div-mul_right w (2 ^ i) (pow_pos j)

-- there is no bit 64
pub bit_past : (w j : ℕ) → 64 ≤ j → bit w j ≡ false
bit_past w j h = of_zero w j (ap (λ (x : ℕ). w * 2 ^ x / 2 ^ 63 % 2) (cut j h)
    ∙ ap (λ (x : ℕ). x / 2 ^ 63 % 2) (grouped w (j - 64))
    ∙ ap (λ (x : ℕ). x % 2) (mul-div_cancel (w * 2 ^ (j - 64) * 2) (pow_pos 63)) ∙ mul-mod_left (w * 2 ^ (j - 64)) 2)
  where
    cut : (j : ℕ) → 64 ≤ j → j ≡ (j - 64) + 64
    cut j h = omega arith

    grouped : (w e : ℕ) → w * 2 ^ (e + 64) ≡ w * 2 ^ e * 2 * 2 ^ 63
    grouped w e = ap (λ (x : ℕ). w * x) (pow-add 2 e 64) ∙ sym (mul_assoc w (2 ^ e) (2 ^ 64))
        ∙ sym (mul_assoc (w * 2 ^ e) 2 (2 ^ 63))

pub bit_shl : (w k j : ℕ) → bit ((w * 2 ^ k) % 2 ^ 64) j ≡ bit w (k + j)
bit_shl w k j = same_dig ((w * 2 ^ k) % 2 ^ 64) w j (k + j)
    (sym (dropped (w * 2 ^ k) j) ∙ ap (λ (x : ℕ). x / 2 ^ 63 % 2)
    (mul_assoc w (2 ^ k) (2 ^ j) ∙ ap (λ (x : ℕ). w * x) (sym (pow-add 2 k j))))
  where
    spread : (q r P : ℕ) → (q * 2 ^ 64 + r) * P ≡ (q * P * 2) * 2 ^ 63 + r * P
    spread q r P = omega arith

    dropped : (x j : ℕ) → x * 2 ^ j / 2 ^ 63 % 2 ≡ (x % 2 ^ 64) * 2 ^ j / 2 ^ 63 % 2
    dropped x j =
        ap (λ (y : ℕ). y * 2 ^ j / 2 ^ 63 % 2) (sym (div-add-mod' x (2 ^ 64)))
        ∙ ap (λ (y : ℕ). y / 2 ^ 63 % 2) (spread (x / 2 ^ 64) (x % 2 ^ 64) (2 ^ j))
        ∙ ap (λ (y : ℕ). y % 2) (mul-add-div_right (pow_pos 63) (x / 2 ^ 64 * 2 ^ j * 2) (x % 2 ^ 64 * 2 ^ j))
        ∙ mul-add-mod_self_right (x / 2 ^ 64 * 2 ^ j) 2 (x % 2 ^ 64 * 2 ^ j / 2 ^ 63)

-- after a shift right by p, bit p + j is what bit j was, and the first p bits are 0
pub bit_shr : (w p j : ℕ) → p + j < 64 → bit (w / 2 ^ p) (p + j) ≡ bit w j
bit_shr w p j h = same_dig (w / 2 ^ p) w (p + j) j
    (ap (λ (x : ℕ). x % 2) (low (w / 2 ^ p) (63 - (p + j)) (p + j) (omega arith) ∙ shr-shr w p (63 - (p + j))
    ∙ sym (low w (p + (63 - (p + j))) j (omega arith))))

pub bit_shr_none : (w p j : ℕ) → w < 2 ^ 64 → p ≤ 64 → j < p → bit (w / 2 ^ p) j ≡ false
bit_shr_none w p j b l h =
    of_zero (w / 2 ^ p) j
    (ap (λ (x : ℕ). x % 2) (low (w / 2 ^ p) (63 - j) j (omega arith) ∙ shr-shr w p (63 - j)
    ∙ div-eq_of_lt (lt_of_lt_of_le b (pow_mono (far p j l h)))))
  where
    far : (p j : ℕ) → p ≤ 64 → j < p → 64 ≤ p + (63 - j)
    far p j l h = omega arith

-- ---- the word of ones, and the complement

-- the digits of a complement: each of the m above the i lowest
not_shr : (w m i : ℕ) → w < 2 ^ (m + i) → ((2 ^ (m + i) - 1) - w) / 2 ^ i ≡ (2 ^ m - 1) - w / 2 ^ i
not_shr w m i h =
    ap (λ (x : ℕ). x / 2 ^ i) (ap (λ (x : ℕ). (x - 1) - w) (pow-add 2 m i)
    ∙ ap (λ (x : ℕ). (2 ^ m * 2 ^ i - 1) - x) (sym (split w i))
    ∙ parts (2 ^ m) (2 ^ i) (w / 2 ^ i) (w % 2 ^ i) ((2 ^ m - 1) - w / 2 ^ i) (above (2 ^ m) (w / 2 ^ i) (shr_lt m i h))
    (mod-lt w (pow_pos i)))
    ∙ digits_div ((2 ^ m - 1) - w / 2 ^ i) (below (2 ^ i) (w % 2 ^ i) (mod-lt w (pow_pos i)))
  where
    above : (M q : ℕ) → q < M → M ≡ ((M - 1) - q) + 1 + q
    above M q h = omega arith

    below : (P r : ℕ) → r < P → (P - 1) - r < P
    below P r h = omega arith

    grow : (M P q e : ℕ) → M ≡ e + 1 + q → M * P ≡ e * P + P + q * P
    grow M P q e h = ap (λ (x : ℕ). x * P) h ∙ omega arith

    parts : (M P q r e : ℕ) → M ≡ e + 1 + q → r < P → (M * P - 1) - (q * P + r) ≡ e * P + ((P - 1) - r)
    parts M P q r e h l = let g : M * P ≡ e * P + P + q * P = grow M P q e h in omega arith

-- a digit of the complement, and the digit
not_digit : (w m i : ℕ) → suc m + i ≡ 64 → w < 2 ^ 64 → ((2 ^ 64 - 1) - w) / 2 ^ i % 2 + w / 2 ^ i % 2 ≡ 1
not_digit w m i e b =
    ap (λ (x : ℕ). x % 2 + w / 2 ^ i % 2) (subst
    (λ (x : ℕ). w < 2 ^ x → ((2 ^ x - 1) - w) / 2 ^ i ≡ (2 ^ suc m - 1) - w / 2 ^ i) e (not_shr w (suc m) i) b)
    ∙ odd m (w / 2 ^ i) (shr_lt (suc m) i (subst (λ (x : ℕ). w < 2 ^ x) (sym e) b))
  where
    odd : (m q : ℕ) → q < 2 ^ suc m → ((2 ^ suc m - 1) - q) % 2 + q % 2 ≡ 1
    odd m q h = omega arith

pub bit_not : (w j : ℕ) → w < 2 ^ 64 → j < 64 → bit ((2 ^ 64 - 1) - w) j ≡ not (bit w j)
unfolding bit
bit_not w j b h =
    flip (dig ((2 ^ 64 - 1) - w) j) (dig w j) (digit_cases (dig w j) (dig_lt w j))
    (ap₂ (λ (x y : ℕ). x % 2 + y % 2) (low ((2 ^ 64 - 1) - w) (63 - j) j (omega arith)) (low w (63 - j) j (omega arith))
    ∙ not_digit w j (63 - j) (omega arith) b)
  where
    flip : (x y : ℕ) → (y ≡ 0) ⊎ (y ≡ 1) → x + y ≡ 1 → eqb x 1 ≡ not (eqb y 1)
    flip x y (inl q) e = let p : x ≡ 1 = omega arith in simp (p, q)
    flip x y (inr q) e = let p : x ≡ 0 = omega arith in simp (p, q)

pub bit_zero : (j : ℕ) → bit 0 j ≡ false
bit_zero j = of_zero 0 j (ap (λ (x : ℕ). x / 2 ^ 63 % 2) (zero-mul (2 ^ j)))

pub bit_ones : (j : ℕ) → j < 64 → bit (2 ^ 64 - 1) j ≡ true
bit_ones j h = bit_not 0 j (pow_pos 64) h ∙ ap not (bit_zero j)

-- the ones, shifted right by p
pub ones_shr : (p j : ℕ) → p ≤ 64 → j < 64 → bit ((2 ^ 64 - 1) / 2 ^ p) j ≡ leb p j
ones_shr p j h l =
    ⊎_elim (λ u. bit_shr_none (2 ^ 64 - 1) p j (ones_lt 64) h u ∙ sym (lt-leb p j u))
    (λ g. let e : p + (j - p) ≡ j = omega arith in
    subst (λ (x : ℕ). bit ((2 ^ 64 - 1) / 2 ^ p) x ≡ true) e
    (bit_shr (2 ^ 64 - 1) p (j - p) (omega arith) ∙ bit_ones (j - p) (omega arith)) ∙ sym (le-leb p j g)) (order j p)

-- ---- two words with the same bits are one

low_ext : (k a b : ℕ) → a < 2 ^ k → b < 2 ^ k → ((i : ℕ) → i < k → a / 2 ^ i % 2 ≡ b / 2 ^ i % 2) → a ≡ b
low_ext zero a b p q h = lt-one p ∙ sym (lt-one q)
low_ext (suc k) a b p q h =
    sym (div-add-mod' a 2)
    ∙ ap₂ (λ (x y : ℕ). x * 2 + y)
    (low_ext k (a / 2) (b / 2) (shr_lt k 1 (subst (λ (x : ℕ). a < 2 ^ x) (sym (add-one k)) p))
    (shr_lt k 1 (subst (λ (x : ℕ). b < 2 ^ x) (sym (add-one k)) q))
    (λ i l. ap (λ (x : ℕ). x % 2) (shifted a i) ∙ h (suc i) (omega arith) ∙ ap (λ (x : ℕ). x % 2) (sym (shifted b i))))
    (sym (ap (λ (x : ℕ). x % 2) (div-one a)) ∙ h 0 (omega arith) ∙ ap (λ (x : ℕ). x % 2) (div-one b))
    ∙ div-add-mod' b 2
  where
    shifted : (x i : ℕ) → x / 2 / 2 ^ i ≡ x / 2 ^ suc i
    shifted x i = shr-shr x 1 i ∙ ap (λ (y : ℕ). x / 2 ^ y) (one-add i)

pub word_ext : (a b : ℕ) → a < 2 ^ 64 → b < 2 ^ 64 → ((j : ℕ) → j < 64 → bit a j ≡ bit b j) → a ≡ b
word_ext a b p q h =
    low_ext 64 a b p q (λ i l.
    ap (λ (x : ℕ). x % 2) (sym (low a i (63 - i) (omega arith))) ∙ digits (63 - i) (h (63 - i) (omega arith))
    ∙ ap (λ (x : ℕ). x % 2) (low b i (63 - i) (omega arith)))
  where
    digits : (j : ℕ) → bit a j ≡ bit b j → dig a j ≡ dig b j
    digits j e =
        ⊎_elim (λ z. z ∙ sym (to_zero b j (sym e ∙ of_zero a j z))) (λ o. o ∙ sym (to_dig b j (sym e ∙ of_dig a j o)))
        (digit_cases (dig a j) (dig_lt a j))
