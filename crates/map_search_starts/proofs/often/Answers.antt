-- `map_search_starts::often` meets its contract.
-- Assumes nothing.

use mathlib.Core.Path.{sym, ◌∙◌}
use Prim.Native.Nat.{◌%◌}
use native.Mathlib.Omega.{arith}
use Rattle.map_blocks.proofs.Bits.{bit_ones}
use Rattle.map_search_starts.proofs.Steps.{same_bits}
use Rattle.map_search_starts.proofs.often.Goals as goal

pub returns-then-rest-eq0 : goal.returns-then-rest-eq0
returns-then-rest-eq0 c = let a = c.args in
    same_bits a.step a.below (sym c.requires.1 ∙ c.if-rest-eq0.true) c.requires.2

pub returns-else-rest-eq0 : goal.returns-else-rest-eq0
returns-else-rest-eq0 c = λ t on. bit_ones (t % 64) (omega arith)
