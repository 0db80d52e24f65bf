-- `in_range` meets its contract, case by case.
-- Assumes nothing.

use mathlib.Core.Path.{sym, ap}
use Rattle.counts.specs.Counts.{in_range}
use Rattle.counts.proofs.in_range.Goals as goal

pub returns-in-None : goal.returns-in-None
unfolding in_range
returns-in-None c = ap in_range (sym c.in-None.is)

pub returns-in-Some : goal.returns-in-Some
unfolding in_range
returns-in-Some c = ap in_range (sym c.in-Some.is)
