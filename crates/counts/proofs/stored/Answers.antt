-- `stored` meets its contract, case by case.
-- Assumes nothing.

use mathlib.Core.Path.{sym, ap, ◌∙◌}
use native.Mathlib.Omega.{arith}
use Rattle.counts.specs.Counts.{form_of}
use Rattle.counts.proofs.Tests.{eight_digits, absent_form, number_form}
use Rattle.counts.proofs.stored.Goals as goal

pub byte_of-requires : goal.byte_of-requires
byte_of-requires c = omega (arith, eight_digits c.args.count _ c.requires c.in-Some.is)

pub returns-in-None : goal.returns-in-None
returns-in-None c = absent_form ∙ ap form_of (sym c.in-None.is)

pub returns-in-Some : goal.returns-in-Some
returns-in-Some c = number_form _ _ _ _ _
    c.byte_of.ensures
    c.byte_of-in-Some.ensures
    c.byte_of-in-Some-2.ensures
    c.byte_of-in-Some-3.ensures
    ∙ ap form_of (sym c.in-Some.is)
