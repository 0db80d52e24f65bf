-- The measure of the cycle of calls {build_group}: the group's size, which halves until one word.
-- Assumes nothing.
use Rattle.summary_write.proofs.+build_group.Given as goal

abbrev pub decreases-build_group : goal.decreases-build_group
decreases-build_group l = l.size
