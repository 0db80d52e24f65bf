-- `summary_search::seek_down` meets its contract. The loop's invariant: the search stands where it comes to its answer.
-- Assumes nothing.

use Rattle.summary_search.specs.Seeking.{Stands, to_go}
use Rattle.summary_search.proofs.seek_down.Given as goal

abbrev pub invariant-loop-next : goal.invariant-loop-next
invariant-loop-next l = Stands l.summary l.at l.k l.m l.stage

abbrev pub decreases-loop-next : goal.decreases-loop-next
decreases-loop-next l = to_go l.stage
