-- `before_year` meets its contract, by the formula for the days before a year.
-- Assumes nothing.

use Rattle.calendar.proofs.Formulas.{year_days}
use Rattle.calendar.proofs.days.before_year.Goals as goal

pub returns : goal.returns
returns c = year_days _
