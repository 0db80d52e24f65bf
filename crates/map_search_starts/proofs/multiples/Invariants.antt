-- `map_search_starts::multiples` meets its contract. The loop's invariant: m has the multiples below `done`, which is one
-- itself.
-- Assumes nothing.

use mathlib.Core.Path.{◌≡◌}
use Prim.Native.Nat.{◌-◌, ◌%◌, ◌^◌, ◌<◌}
use Rattle.map_search_starts.proofs.Steps.{Below}
use Rattle.map_search_starts.proofs.multiples.Given as goal

abbrev pub invariant-loop-done : goal.invariant-loop-done
invariant-loop-done l = (0 < l.done) × (l.done < 128) × (l.done % l.step ≡ 0) × (l.m < 2 ^ 64) × Below l.step l.done l.m

abbrev pub decreases-loop-done : goal.decreases-loop-done
decreases-loop-done l = 128 - l.done
