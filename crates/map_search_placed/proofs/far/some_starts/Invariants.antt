-- `map_search_placed::far::some_starts` meets its contract. The loop's invariant: s is a start, and no run starts from c to s.
-- Assumes nothing.

use mathlib.Core.Path.{◌≡◌}
use Prim.Native.Nat.{◌+◌, ◌-◌, ◌%◌, ◌≤◌}
use Rattle.map_blocks.specs.Blocks.{free, on_step}
use Rattle.map_search_starts.specs.Starts.{NoRun}
use Rattle.map_search_placed.proofs.far.some_starts.Given as goal

abbrev pub invariant-loop-s : goal.invariant-loop-s
invariant-loop-s l = (l.c ≤ l.s) × (l.s ≤ 524288) × (l.s % l.step ≡ 0) × NoRun (on_step l.step) (free l.map) l.k l.c l.s

abbrev pub decreases-loop-s : goal.decreases-loop-s
decreases-loop-s l = l.stop + 1 - l.s
