-- `month_of` meets its contract: by a formula for January and February, and one from March on.
-- Assumes nothing.

use Rattle.calendar.proofs.Inverse.{early_found, late_found}
use Rattle.calendar.proofs.days.month_of.Goals as goal

pub returns-then-rest-leap : goal.returns-then-rest-leap
returns-then-rest-leap c = early_found _ _ c.requires.0 c.if-rest-leap.true

pub returns : goal.returns
returns c = late_found _ _ c.requires.1 c.if-rest-leap.false
