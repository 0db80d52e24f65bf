-- `map_search_word::word::sixteens` meets its contract: four rounds, from runs of 1 to runs of 16.
-- Assumes nothing.

use mathlib.Core.Path.{sym}
use Prim.Native.Nat.{ℕ}
use native.Mathlib.Omega.{arith}
use Rattle.map_blocks.specs.Words.{bit}
use Rattle.map_blocks.proofs.Runs.{all_one}
use Rattle.map_search_word.proofs.word.Doubling.{round}
use Rattle.map_search_word.proofs.word.sixteens.Goals as goal

pub returns : goal.returns
returns c = let w : ℕ = c.args.w in
    round w _ 8 8 (omega arith) (round w _ 4 4 (omega arith)
    (round w _ 2 2 (omega arith) (round w w 1 1 (omega arith) (λ j. sym (all_one (bit w) j)))))
