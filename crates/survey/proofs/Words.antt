-- The bits of a word are those of its blocks, and its ones are counted by `count_ones`.
-- Assumes nothing.
use mathlib.Core.Path.{◌≡◌, refl, sym, ap, ap₂, ◌∙◌}
use mathlib.Core.Bool.{Bool}
use mathlib.Core.List.{List, ◌∷◌}
use Prim.Native.Nat.{ℕ, zero, suc, ◌+◌, ◌/◌, ◌%◌, ◌^◌, ◌<◌}
use native.Mathlib.Nat.{mod-eq_of_lt, mod-lt, mod-one}
use native.Mathlib.Numerals.{one-add}
use native.Mathlib.Omega.{arith}
use lib.Dec.{eqb}
use lib.Pow.{pow_pos, mod-pow-add}
use lib.Count.{ones, ones_in, ones_cat}
use Rattle.survey_bytes.specs.Bytes.{bits_of}
use Rattle.survey.specs.Survey.{blocks, free_of}
use Rattle.map_blocks.specs.Words.{bit}
use Rattle.map_blocks.proofs.Bits.{low as bit-low}

free_bit : (b : ℕ) (xs : List Bool) → b < 2 → free_of (eqb b 1 ∷ xs) ≡ b + free_of xs
unfolding free_of
free_bit zero xs h = omega arith
free_bit (suc zero) xs h = omega arith
free_bit (suc (suc b)) xs h = absurd (omega arith)

ones_bit : (b : ℕ) → b < 2 → ones b ≡ b
unfolding ones ones_in
ones_bit zero h = refl
ones_bit (suc zero) h = refl
ones_bit (suc (suc b)) h = absurd (omega arith)

free_bits : (k n : ℕ) → free_of (bits_of k n) ≡ ones (n % 2 ^ k)
unfolding bits_of free_of ones ones_in
free_bits zero n = sym (ap ones (mod-one n))
free_bits (suc k) n =
    let b : n / 2 ^ k % 2 < 2 = omega arith in
    free_bit (n / 2 ^ k % 2) (bits_of k n) b
    ∙ ap (λ (m : ℕ). n / 2 ^ k % 2 + m) (free_bits k n)
    ∙ ap (λ (m : ℕ). m + ones (n % 2 ^ k)) (sym (ones_bit (n / 2 ^ k % 2) b))
    ∙ sym (ones_cat k (n / 2 ^ k % 2) (n % 2 ^ k) (mod-lt n (pow_pos k)))
    ∙ ap ones (sym (mod-pow-add n 1 k) ∙ ap (λ (m : ℕ). n % 2 ^ m) (one-add k))

pub free_word_lem : (w : ℕ) → w < 2 ^ 64 → ones w ≡ free_of (bits_of 64 w)
free_word_lem w h = sym (free_bits 64 w ∙ ap ones (mod-eq_of_lt h))

-- the bits of a word as its blocks
bits_from : (w k j : ℕ) → k + j ≡ 64 → bits_of k w ≡ blocks (bit w) j k
unfolding bits_of blocks bit
bits_from w zero j e = refl
bits_from w (suc k) j e =
    ap₂ (λ (x : Bool) (xs : List Bool). x ∷ xs) (ap (λ (x : ℕ). eqb (x % 2) 1) (sym (bit-low w k j (omega arith))))
    (bits_from w k (suc j) (omega arith))

pub word_blocks : (w : ℕ) → bits_of 64 w ≡ blocks (bit w) 0 64
word_blocks w = bits_from w 64 0 refl
