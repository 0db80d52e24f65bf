-- `before_month` meets its contract: by a formula for January and February, and one from March on.
-- Assumes nothing.

use native.Mathlib.Omega.{arith}
use Rattle.calendar.proofs.Formulas.{early_month, late_month}
use Rattle.calendar.proofs.before_month.Goals as goal

pub returns-then-month-le2 : goal.returns-then-month-le2
returns-then-month-le2 c = (
  early_month c.args.leap c.args.month c.requires.1 c.requires.2
      c.if-month-le2.true,
  omega arith,
)

pub returns : goal.returns
returns c = (
  late_month c.args.leap c.args.month c.requires.1 c.requires.2
      c.if-month-le2.false,
  omega arith,
)
