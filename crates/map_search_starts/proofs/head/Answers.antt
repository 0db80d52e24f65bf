-- `map_search_starts::head` meets its contract: the first zero is the first one of the complement.
-- Assumes nothing.

use mathlib.Core.Path.{◌≡◌, sym, ap, ◌∙◌}
use mathlib.Core.Logic.{⊎_elim}
use Prim.Native.Nat.{ℕ, ◌-◌, ◌^◌, ◌≤◌, ◌<◌}
use native.Mathlib.Omega.{arith}
use lib.Count.{count_leading_zeros}
use borrow.Author.Tests.{not-false, not-true}
use Rattle.laws.proofs.Bools.{order}
use Rattle.map_blocks.specs.Words.{bit}
use Rattle.map_blocks.proofs.Bits.{bit_ones, bit_not}
use Rattle.map_search_word.proofs.Ends.{First, first_set}
use Rattle.map_search_starts.specs.Starts.{Head}
use Rattle.map_search_starts.proofs.head.Goals as goal

pub returns-then-n-eq-ONES : goal.returns-then-n-eq-ONES
returns-then-n-eq-ONES c = record {
  within = omega arith;
  held = λ j l. ap (λ (x : ℕ). bit x j) c.if-n-eq-ONES.true ∙ bit_ones j l;
  stop = λ l. absurd (omega arith);
}

pub returns : goal.returns
returns c = by c.args.n c.ranges.n.fits c.if-n-eq-ONES.false
  where
    by : (n : ℕ) → n < 2 ^ 64 → (n ≡ 2 ^ 64 - 1 → ⊥) → Head n (count_leading_zeros 64 ((2 ^ 64 - 1) - n))
    by n b h =
        let first : First ((2 ^ 64 - 1) - n) (count_leading_zeros 64 ((2 ^ 64 - 1) - n)) =
        first_set ((2 ^ 64 - 1) - n) (some n b h) (omega arith) in
        let l : count_leading_zeros 64 ((2 ^ 64 - 1) - n) < 64 = first.within in
        record {
          within = omega arith;
          held = λ j u. not-false (bit n j) (sym (bit_not n j b (omega arith)) ∙ first.before j u);
          stop = λ u. not-true (bit n _) (sym (bit_not n _ b u) ∙ first.here);
        }
      where
        some : (n : ℕ) → n < 2 ^ 64 → (n ≡ 2 ^ 64 - 1 → ⊥) → 0 < (2 ^ 64 - 1) - n
        some n b h = ⊎_elim (λ (u : 0 < (2 ^ 64 - 1) - n). u) (λ (u : (2 ^ 64 - 1) - n ≤ 0). absurd (h (omega arith)))
            (order 0 ((2 ^ 64 - 1) - n))
