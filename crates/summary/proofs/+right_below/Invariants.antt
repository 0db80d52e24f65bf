-- The measure of the cycle of calls {right_below}: the group's size, which halves until one word.
-- Assumes nothing.
use Rattle.summary.proofs.+right_below.Given as goal

abbrev pub decreases-right_below : goal.decreases-right_below
decreases-right_below l = l.size
