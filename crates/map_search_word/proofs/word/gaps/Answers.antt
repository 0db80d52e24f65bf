-- `map_search_word::word::gaps` meets its contract: the rounds go on from runs of 1, or of 16.
-- Assumes nothing.

use mathlib.Core.Path.{sym, ◌∙◌}
use Prim.Native.Nat.{ℕ, ◌+◌}
use native.Mathlib.Omega.{arith}
use Rattle.map_blocks.specs.Words.{bit}
use Rattle.map_blocks.proofs.Bits.{bit_past, bit_zero}
use Rattle.map_blocks.proofs.Runs.{all_one, all_break}
use Rattle.map_search_word.proofs.word.gaps.Goals as goal

pub returns-then-k-gt64 : goal.returns-then-k-gt64
returns-then-k-gt64 c = let a = c.args in
    -- no run of more than 64 is in a word
    λ j. bit_zero j
    ∙ sym (all_break (bit a.w) j a.k (j + 64) (omega arith) (omega arith) (bit_past a.w (j + 64) (omega arith)))

pub returns-then-k-lt16 : goal.returns-then-k-lt16
returns-then-k-lt16 c = let w : ℕ = c.args.w in
    c.rounds.ensures w (λ j. sym (all_one (bit w) j))

pub returns : goal.returns
returns c = c.rounds-2.ensures c.args.w c.sixteens.ensures
