-- `summary_write::climb` meets its contract. The invariant: group g stands where the way up has come to.
-- Assumes nothing.

use mathlib.Core.Path.{◌≡◌}
use mathlib.Core.Bool.{Bool}
use mathlib.Core.List.{List}
use Prim.Native.Nat.{ℕ}
use lib.ListN.{length}
use Rattle.summary_write.specs.Climbs.{Rises, Stands}
use Rattle.summary_write.proofs.climb.Given as goal

abbrev pub invariant-loop-g : goal.invariant-loop-g
invariant-loop-g l = (length l.summary ≡ length l.initial.summary) × Stands l.summary l.half l.g
    × ((f : ℕ → Bool) (p lo hi : ℕ) (was : List ℕ) → Rises f p lo hi was l.initial.summary l.initial.half l.initial.g
    → Rises f p lo hi was l.summary l.half l.g)

abbrev pub decreases-loop-g : goal.decreases-loop-g
decreases-loop-g l = l.g
