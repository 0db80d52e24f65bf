-- `day_number` meets its contract, and its sums fit 32 bits.
-- Assumes nothing.

use mathlib.Core.Path.{sym, ap, ◌∙◌}
use Prim.Native.Nat.{ℕ}
use native.Mathlib.Omega.{arith}
use Rattle.calendar.specs.Calendar.{before_month}
use Rattle.calendar.proofs.Formulas.{day_told, no_date}
use Rattle.calendar.proofs.Dates.{date_of_lem, day_most}
use Rattle.calendar.proofs.day_number.Goals as goal

pub overflow_sub-years : goal.overflow_sub-years
overflow_sub-years c = omega (arith, (date_of_lem _ _ _ (sym c.is_date.ensures ∙ c.if-is_date.true)).year_low)

pub before_month-before-requires : goal.before_month-before-requires
before_month-before-requires c = let date = date_of_lem _ _ _ (sym c.is_date.ensures ∙ c.if-is_date.true) in
    (c.leap_day-leap.ensures.1, date.month_low, date.month_high)

pub overflow_mul-result : goal.overflow_mul-result
overflow_mul-result c = omega (
  arith,
  (date_of_lem _ _ _ (sym c.is_date.ensures ∙ c.if-is_date.true)
      ).year_high,
)

pub overflow_add-result-then-is_date : goal.overflow_add-result-then-is_date
overflow_add-result-then-is_date c = omega (
  arith,
  (date_of_lem _ _ _ (sym c.is_date.ensures ∙ c.if-is_date.true)
      ).year_high,
)

pub overflow_add-result-then-is_date-2 : goal.overflow_add-result-then-is_date-2
overflow_add-result-then-is_date-2 c = omega (
  arith,
  (date_of_lem _ _ _ (sym c.is_date.ensures ∙ c.if-is_date.true)
      ).year_high,
  c.before_month-before.ensures.1,
)

pub overflow_sub-result : goal.overflow_sub-result
overflow_sub-result c = omega (
  arith,
  (date_of_lem _ _ _ (sym c.is_date.ensures ∙ c.if-is_date.true)
      ).day_low,
)

pub overflow_add-result-then-is_date-3 : goal.overflow_add-result-then-is_date-3
overflow_add-result-then-is_date-3 c = let date = date_of_lem _ _ _ (sym c.is_date.ensures ∙ c.if-is_date.true) in
    omega (arith, date.year_high, c.before_month-before.ensures.1, day_most _ _ _ date)

pub returns-then-is_date : goal.returns-then-is_date
returns-then-is_date c = day_told _ _ _ _ (sym c.is_date.ensures ∙ c.if-is_date.true)
    (c.before_month-before.ensures.0 ∙ ap (λ (leap : ℕ). before_month leap c.args.month)
    c.leap_day-leap.ensures.0)

pub returns : goal.returns
returns c = no_date _ _ _ (sym c.is_date.ensures ∙ c.if-is_date.false)
