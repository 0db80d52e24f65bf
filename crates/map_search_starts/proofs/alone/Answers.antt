-- `map_search_starts::alone` meets its contract.
-- Assumes nothing.

use native.Mathlib.Omega.{arith}
use Rattle.map_blocks.proofs.Bits.{bit_ones}
use Rattle.map_search_starts.proofs.alone.Goals as goal

pub returns-then-k-eq1 : goal.returns-then-k-eq1
returns-then-k-eq1 c = (c.requires, λ l j u. bit_ones j u)

pub returns-else-k-eq1 : goal.returns-else-k-eq1
returns-else-k-eq1 c = (c.requires, λ l j u. absurd (c.if-k-eq1.false (omega arith)))
