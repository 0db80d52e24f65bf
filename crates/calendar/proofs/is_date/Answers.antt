-- `is_date` meets its contract, by the first test that fails.
-- Assumes nothing.

use mathlib.Core.Path.{sym, ◌∙◌}
use Rattle.std.proofs.lemmas.Bool.{false≢true}
use Rattle.calendar.proofs.Dates.{span_low, span_high, date_tested, no_month, no_year}
use Rattle.calendar.proofs.is_date.Goals as goal
use Rattle.calendar.proofs.is_date.Goals.{then-in_span, else-in_span}

pub month_length-requires : goal.month_length-requires
month_length-requires c = elim c.if-in_span.branch [
  | then-in_span w ↦
      let month = sym w.in_span-then-in_span.ensures ∙ sym w.value-is ∙ c.if-in_span-2.true in
      (c.leap_day.ensures.1, span_low 1 12 _ month, span_high 1 12 _ month)
  | else-in_span w ↦ absurd (false≢true (sym w.if-in_span.false ∙ sym w.value-is ∙ c.if-in_span-2.true))
]

pub returns-then-in_span-2 : goal.returns-then-in_span-2
returns-then-in_span-2 c = elim c.if-in_span.branch [
  | then-in_span w ↦
      date_tested _ c.args.month _ _ _ _
      (sym c.in_span.ensures ∙ w.if-in_span.true)
      (sym w.in_span-then-in_span.ensures ∙ sym w.value-is ∙ c.if-in_span-2.true)
      c.in_span-then-in_span-2.ensures c.month_length.ensures c.leap_day.ensures.0
  | else-in_span w ↦ absurd (false≢true (sym w.if-in_span.false ∙ sym w.value-is ∙ c.if-in_span-2.true))
]

pub returns-else-in_span-2 : goal.returns-else-in_span-2
returns-else-in_span-2 c = elim c.if-in_span.branch [
  | then-in_span w ↦
      c.if-in_span-2.false
      ∙ no_month _ _ c.args.day (sym c.in_span.ensures ∙ w.if-in_span.true)
      (sym w.in_span-then-in_span.ensures ∙ sym w.value-is ∙ c.if-in_span-2.false)
  | else-in_span w ↦ c.if-in_span-2.false ∙ no_year _ c.args.month c.args.day (sym c.in_span.ensures ∙ w.if-in_span.false)
]
