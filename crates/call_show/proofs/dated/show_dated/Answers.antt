-- `call_show::dated::show_dated` meets its contract: the answer of the verdict.
-- Assumes nothing.

use mathlib.Core.Path.{◌∙◌}
use mathlib.Core.Bool.{false}
use mathlib.Core.List.{[]}
use Rattle.calendar.specs.Calendar.{date_of}
use Rattle.roles.specs.Roles as names
use Rattle.refusals.specs.Lent.{lent_for}
use Rattle.refusals.proofs.ShowDated.{answered}
use Rattle.call_show.proofs.dated.show_dated.Goals as goal

pub returns-in-Err : goal.returns-in-Err
returns-in-Err c =
    let a = c.args in (
      c.answer.ensures ∙ answered (lent_for a.asked names.show_dated false [] a.map.now a.card.now) a.place
          (date_of a.year a.month a.day) a.buffer.now c.in-Err.ensures.0,
      c.copied.ensures.1,
    )

pub returns-in-Ok : goal.returns-in-Ok
returns-in-Ok c =
    let a = c.args in
    let q = lent_for a.asked names.show_dated false [] a.map.now a.card.now in
    (answered q a.place (date_of a.year a.month a.day) a.buffer.now c.in-Ok.ensures.0, c.copied.ensures.1)
