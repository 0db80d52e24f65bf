-- `summary_write::rebuild_words` meets its contract. The invariant: groups g to stop - 1, two or more, are those of the level
-- that
-- have one of the words, and what has been stored is as aimed at.
-- Assumes nothing.

use mathlib.Core.Path.{◌≡◌}
use mathlib.Core.List.{List}
use Prim.Native.Nat.{ℕ, ◌+◌, ◌≤◌, ◌<◌}
use lib.ListN.{length}
use Rattle.summary_groups.specs.Groups.{power}
use Rattle.summary.specs.Summary.{usable}
use Rattle.summary_write.specs.Climbs.{At, Climbs}
use Rattle.summary_write.proofs.rebuild_words.Given as goal

abbrev pub invariant-loop-g : goal.invariant-loop-g
invariant-loop-g l = (l.g < 8192) × (l.half ≤ 4096) × (length l.summary ≡ length l.initial.summary) × (l.g + 1 < l.stop)
    × ((count : ℕ) × At (power (length l.map)) l.lo l.hi l.half count l.g l.stop)
    × ((s : List ℕ) → Climbs (usable l.map l.n) (power (length l.map)) l.lo l.hi s l.initial.summary l.initial.half l.initial.g
    l.initial.stop
    → Climbs (usable l.map l.n) (power (length l.map)) l.lo l.hi s l.summary l.half l.g l.stop)

abbrev pub decreases-loop-g : goal.decreases-loop-g
decreases-loop-g l = l.g
