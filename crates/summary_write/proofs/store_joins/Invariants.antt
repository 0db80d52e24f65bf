-- `summary_write::store_joins` meets its contract. The invariant: the groups g to i - 1 are stored.
-- Assumes nothing.

use mathlib.Core.Path.{◌≡◌}
use Prim.Native.Nat.{ℕ}
use lib.ListN.{length}
use Rattle.summary_groups.specs.declared.Group.{Group}
use Rattle.summary_write.specs.Climbs.{Joins, Stores}
use Rattle.summary_write.proofs.store_joins.Given as goal

abbrev pub invariant-loop-i : goal.invariant-loop-i
invariant-loop-i l = (length l.summary ≡ length l.initial.summary)
    × ((aim : ℕ → Group) → Joins aim l.initial.summary l.g l.stop l.half → Stores aim l.initial.summary l.summary l.g l.i)
