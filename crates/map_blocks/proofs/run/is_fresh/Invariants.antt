-- `map_blocks::run::is_fresh` meets its contract. The loop's invariant: the words passed are those of a fresh map.
-- Assumes nothing.

use Rattle.map_blocks.proofs.run.Freshness.{Passed}
use Rattle.map_blocks.proofs.run.is_fresh.Given as goal

abbrev pub invariant-loop-i : goal.invariant-loop-i
invariant-loop-i l = Passed l.map l.n l.i
