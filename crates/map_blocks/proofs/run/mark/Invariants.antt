-- `map_blocks::run::mark` meets its contract. The loop's invariant is `Rewritten`: the words passed are those of the marked
-- map.
-- Assumes nothing.

use mathlib.Core.Bool.{Bool, cond}
use mathlib.Core.List.{List}
use Prim.Native.Nat.{ℕ, ◌*◌}
use Rattle.map_blocks.specs.Blocks.{free}
use Rattle.map_blocks.specs.Maps.{in_run}
use Rattle.map_blocks.proofs.run.Rewrite.{Rewritten}
use Rattle.map_blocks.proofs.run.mark.Given as owed

-- which blocks are to be free
abbrev pub goal : List ℕ → ℕ → ℕ → Bool → ℕ → Bool
goal map start k to b = cond (in_run start k b) to (free map b)

abbrev pub invariant-loop-i : owed.invariant-loop-i
invariant-loop-i l = Rewritten (goal l.initial.map l.start l.k l.to) l.initial.map (l.i * 64) l.map
