-- `day_of_number` meets its contract: year, month and day that it finds are a date with that number, and there is one alone.
-- Assumes nothing.

use mathlib.Core.Path.{ap, ◌∙◌}
use Prim.Native.Nat.{ℕ, ◌-◌}
use Rattle.calendar.proofs.Inverse.{within, day_found, past}
use Rattle.calendar.proofs.days.day_of_number.Goals as goal

pub month_of-month-requires : goal.month_of-month-requires
month_of-month-requires c = let years = c.year_of-year.ensures in (
  c.leap_day-leap.ensures.1,
  within _ _ _ _ years.0 years.3 c.before_year.ensures c.leap_day-leap.ensures.0,
)

pub returns-then-days-le-LAST_DAY : goal.returns-then-days-le-LAST_DAY
returns-then-days-le-LAST_DAY c = let years = c.year_of-year.ensures in
    day_found _ _ _ _ _ _ years.0 years.1 years.2 c.leap_day-leap.ensures.0
    (ap (λ (n : ℕ). c.args.days - n)
    c.before_year.ensures) c.month_of-month.ensures c.before_month-before.ensures.0

pub returns : goal.returns
returns c = c.no_day.ensures ∙ past _ c.if-days-le-LAST_DAY.false
