-- `map_search::reach` meets its contract. The loop's invariant: the words before word i are all taken.
-- Assumes nothing.

use Prim.Native.Nat.{ℕ, ◌*◌, ◌<◌}
use Rattle.map_blocks.specs.Blocks.{free}
use Rattle.map_blocks.specs.Words.{in_window}
use Rattle.map_search_word.specs.Scan.{Carried}
use Rattle.map_search.proofs.reach.Given as goal

abbrev pub invariant-loop-i : goal.invariant-loop-i
invariant-loop-i l = (k : ℕ) → 0 < k → Carried (in_window (free l.map) l.from l.before) k (l.i * 64) 0
