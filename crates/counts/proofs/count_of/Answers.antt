-- `count_of` meets its contract, at each of its answers.
-- Assumes nothing.

use mathlib.Core.Path.{sym, ◌∙◌}
use Rattle.counts.proofs.Tests.{number_told, absent_told, not_absent, digit_refused}
use Rattle.counts.proofs.count_of.Goals as goal

pub returns-then-all_digits : goal.returns-then-all_digits
returns-then-all_digits c = number_told _ _ _ _ _ (sym c.all_digits.ensures ∙ c.if-all_digits.true) c.hundredths_of.ensures

pub returns-then-n-eq-ABSENT : goal.returns-then-n-eq-ABSENT
returns-then-n-eq-ABSENT c = absent_told c.args.n c.if-n-eq-ABSENT.true

pub returns : goal.returns
returns c = digit_refused _ _ _ _ (not_absent c.args.n c.if-n-eq-ABSENT.false)
    (sym c.all_digits.ensures ∙ c.if-all_digits.false)
