-- `map_blocks::run::fresh` meets its contract. The loop's invariant is `Rewritten`: the words passed are those of a fresh map.
-- Assumes nothing.

use Prim.Native.Nat.{◌*◌}
use lib.Dec.{ltb}
use Rattle.map_blocks.proofs.run.Rewrite.{Rewritten}
use Rattle.map_blocks.proofs.run.fresh.Given as goal

abbrev pub invariant-loop-i : goal.invariant-loop-i
invariant-loop-i l = Rewritten (λ b. ltb b l.n) l.initial.map (l.i * 64) l.map
