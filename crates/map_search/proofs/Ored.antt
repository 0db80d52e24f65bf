-- Words or-ed together: each is in the whole, and where that is 0, so is each.
-- Assumes nothing.
use mathlib.Core.Path.{◌≡◌, sym, ◌∙◌, subst}
use mathlib.Core.Logic.{⊎_elim}
use mathlib.Core.Bool.{true, false}
use Prim.Native.Nat.{ℕ, ◌<◌, ◌^◌}
use native.Mathlib.Omega.{arith}
use lib.Bits.{bit_or}
use Rattle.map_blocks.specs.Words.{bit, has_all}
use Rattle.laws.proofs.Bools.{not_true, clash, order, or_left, or_right}
use Rattle.map_blocks.proofs.Bits.{bit_or_lem, bit_past, bit_zero, word_ext}
use Rattle.map_blocks.proofs.Masks.{has_all_elim, has_all_intro}

pub or_first : (a b v : ℕ) → has_all a v ≡ true → has_all (bit_or a b) v ≡ true
or_first a b v h = has_all_intro (bit_or a b) v
    (λ j l e. bit_or_lem a b j ∙ or_left (bit a j) (bit b j) (has_all_elim a v h j l e))

pub or_second : (a b : ℕ) → has_all (bit_or a b) b ≡ true
or_second a b = has_all_intro (bit_or a b) b (λ j l e. bit_or_lem a b j ∙ or_right (bit a j) (bit b j) e)

pub no_bit : (a v : ℕ) → a ≡ 0 → has_all a v ≡ true → (j : ℕ) → bit v j ≡ false
no_bit a v z h j = ⊎_elim (λ l. not_true (bit v j)
    (λ e. clash (bit 0 j) (subst (λ (x : ℕ). bit x j ≡ true) z (has_all_elim a v h j l e)) (bit_zero j)))
    (λ l. bit_past v j l) (order j 64)

pub none_of : (a v : ℕ) → a ≡ 0 → has_all a v ≡ true → v < 2 ^ 64 → v ≡ 0
none_of a v z h small = word_ext v 0 small (omega arith) (λ j l. no_bit a v z h j ∙ sym (bit_zero j))
