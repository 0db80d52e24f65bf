-- `map_search_placed::far::open_start` meets its contract. The loop's invariant: the starts from c to s are taken.
-- Assumes nothing.

use mathlib.Core.Path.{◌≡◌}
use mathlib.Core.Bool.{true, false}
use Prim.Native.Nat.{ℕ, ◌+◌, ◌-◌, ◌%◌, ◌≤◌, ◌<◌}
use Rattle.map_blocks.specs.Blocks.{free, on_step}
use Rattle.map_search_placed.proofs.far.open_start.Given as goal

abbrev pub invariant-loop-s : goal.invariant-loop-s
invariant-loop-s l = (l.c ≤ l.s) × (l.s ≤ l.stop + l.step) × (l.s % l.step ≡ 0)
    × ((t : ℕ) → l.c ≤ t → t < l.s → on_step l.step t ≡ true → free l.map t ≡ false)

abbrev pub decreases-loop-s : goal.decreases-loop-s
decreases-loop-s l = l.stop + 1 - l.s
