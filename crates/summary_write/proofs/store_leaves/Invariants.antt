-- `summary_write::store_leaves` meets its contract. The invariant: the groups of the words lo to i - 1 are stored.
-- Assumes nothing.

use mathlib.Core.Path.{◌≡◌}
use Prim.Native.Nat.{ℕ, ◌+◌, ◌*◌, ◌≤◌, ◌<◌}
use lib.ListN.{length}
use Rattle.summary_groups.specs.declared.Group.{Group}
use Rattle.summary_groups.specs.Groups.{group_of}
use Rattle.summary.specs.Summary.{usable}
use Rattle.summary_write.specs.Climbs.{Stores}
use Rattle.summary_write.proofs.store_leaves.Given as goal

abbrev pub invariant-loop-i : goal.invariant-loop-i
invariant-loop-i l = (length l.summary ≡ length l.initial.summary)
    × ((aim : ℕ → Group) → ((i : ℕ) → l.lo ≤ i → i < l.hi → group_of (usable l.map l.n) (64 * i) 64 ≡ aim (l.leaf + i))
    → Stores aim l.initial.summary l.summary (l.leaf + l.lo) (l.leaf + l.i))
