-- `year_of` meets its contract: four years have 1461 days.
-- Assumes nothing.

use Rattle.calendar.proofs.Inverse.{year_found}
use Rattle.calendar.proofs.days.year_of.Goals as goal

pub returns : goal.returns
returns c = year_found _ c.requires
