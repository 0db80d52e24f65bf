-- `summary_search::search_down` meets its contract. The loop's invariant: the turns from block `at` on give the answer.
-- Assumes nothing.

use Prim.Native.Nat.{◌-◌}
use Rattle.summary_search.proofs.Turns.{Turning}
use Rattle.summary_search.proofs.search_down.Given as goal

abbrev pub invariant-loop-at : goal.invariant-loop-at
invariant-loop-at l = Turning l.map l.summary l.from l.before l.step l.k l.at

abbrev pub decreases-loop-at : goal.decreases-loop-at
decreases-loop-at l = l.before - l.at
