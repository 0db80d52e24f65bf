-- `month_length` meets its contract: February, and the other months by a formula.
-- Assumes nothing.

use Rattle.calendar.proofs.Formulas.{february, other_month}
use Rattle.calendar.proofs.month_length.Goals as goal

pub returns-then-month-eq2 : goal.returns-then-month-eq2
returns-then-month-eq2 c = february c.args.leap c.args.month c.requires.1 c.requires.2 c.if-month-eq2.true

pub returns : goal.returns
returns c = other_month c.args.leap c.args.month c.requires.1 c.requires.2
    c.if-month-eq2.false
