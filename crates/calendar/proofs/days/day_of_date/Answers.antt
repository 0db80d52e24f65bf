-- `day_of_date` meets its contract, by what `day_number` answers.
-- Assumes nothing.

use mathlib.Core.Path.{◌∙◌}
use Rattle.calendar.proofs.Formulas.{dated, undated}
use Rattle.calendar.proofs.Inverse.{date_found, no_day_found}
use Rattle.calendar.proofs.days.day_of_date.Goals as goal

pub returns-in-Some : goal.returns-in-Some
returns-in-Some c = let date = dated _ _ _ c.day_number.result c.day_number.ensures c.in-Some.days c.in-Some.is in
    date_found _ _ _ _ date.0 date.1

pub returns-in-None : goal.returns-in-None
returns-in-None c = c.no_day.ensures
    ∙ no_day_found _ _ _ (undated _ _ _ c.day_number.result c.day_number.ensures c.in-None.is)
