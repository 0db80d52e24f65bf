-- `refusals::begin` meets its contract: row 1 for the summary, behind 21 and before the rows that are read without it.
-- Assumes nothing.

use Rattle.catalogue_standings.specs.Openings.{opened_of}
use Rattle.catalogue_standings.proofs.Tested.{fails}
use Rattle.refusals.proofs.begin.Goals as goal

pub returns-then-not-guide_fits : goal.returns-then-not-guide_fits
unfolding opened_of
returns-then-not-guide_fits c = simp (c.in_ok-permit.ensures, fails c.guide_fits.ensures c.if-not-guide_fits.true-raw)
