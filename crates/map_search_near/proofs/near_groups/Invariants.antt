-- `map_search_near::near_groups` meets its contract. The loop's invariant: no run starts from c to `at`.
-- Assumes nothing.

use Prim.Native.Nat.{◌-◌, ◌*◌, ◌≤◌}
use Rattle.map_blocks.specs.Blocks.{free, on_step}
use Rattle.map_search_starts.specs.Starts.{NoRun}
use Rattle.map_search_near.proofs.near_groups.Given as goal

abbrev pub invariant-loop-at : goal.invariant-loop-at
invariant-loop-at l = (l.c ≤ l.at) × (l.at ≤ l.stop * 64) × NoRun (on_step l.sought.step) (free l.map) l.sought.k l.c l.at

abbrev pub decreases-loop-at : goal.decreases-loop-at
decreases-loop-at l = l.stop * 64 - l.at
