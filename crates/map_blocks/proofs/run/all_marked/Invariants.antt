-- `map_blocks::run::all_marked` meets its contract. The loop's invariant: the blocks passed are in the state asked for.
-- Assumes nothing.

use mathlib.Core.Path.{◌≡◌}
use mathlib.Core.Bool.{true}
use Prim.Native.Nat.{ℕ, ◌≤◌, ◌<◌, ◌+◌, ◌*◌}
use Rattle.map_blocks.specs.Maps.{in_state}
use Rattle.map_blocks.proofs.run.all_marked.Given as goal

abbrev pub invariant-loop-i : goal.invariant-loop-i
invariant-loop-i l = (t : ℕ) → l.start ≤ t → t < l.i * 64 → t < l.start + l.k → in_state l.map l.state t ≡ true
