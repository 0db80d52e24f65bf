-- `map_search_placed::far::search_far` meets its contract. The loop's invariant: c is a start, and none before it is a fit.
-- Assumes nothing.

use mathlib.Core.Path.{◌≡◌}
use mathlib.Core.Bool.{false}
use Prim.Native.Nat.{ℕ, ◌+◌, ◌-◌, ◌%◌, ◌≤◌, ◌<◌}
use Rattle.map_blocks.specs.Blocks.{free, fit}
use Rattle.map_search_placed.proofs.far.search_far.Given as goal

abbrev pub invariant-loop-c : goal.invariant-loop-c
invariant-loop-c l = (l.from ≤ l.c) × (l.c ≤ 524288) × (l.c % l.step ≡ 0)
    × ((t : ℕ) → t < l.c → fit (free l.map) l.from l.before l.step l.k t ≡ false)

abbrev pub decreases-loop-c : goal.decreases-loop-c
decreases-loop-c l = l.last + 1 - l.c
