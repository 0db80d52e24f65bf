-- `map_space::space` meets its contract. The loop's invariant: the blocks from `start` to word i are free.
-- Assumes nothing.

use mathlib.Core.Path.{◌≡◌}
use mathlib.Core.Bool.{true}
use Prim.Native.Nat.{ℕ, ◌*◌, ◌≤◌, ◌<◌}
use Rattle.map_blocks.specs.Blocks.{free}
use Rattle.map_space.proofs.space.Given as goal

abbrev pub invariant-loop-i : goal.invariant-loop-i
invariant-loop-i l = (t : ℕ) → l.start ≤ t → t < l.i * 64 → free l.map t ≡ true
