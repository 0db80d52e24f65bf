-- `call_summary::build_summary` meets its contract: turned away by role, or the rows behind 21.
-- Assumes nothing.

use mathlib.Core.Bool.{Bool}
use mathlib.Core.Path.{sym, ap, ◌∙◌}
use Rattle.catalogue_standings.specs.Rows.{refused}
use Rattle.call_summary.specs.Answers.{build_answer, built_summary}
use Rattle.call_summary.proofs.Fits.{build-told, build-left, away}
use Rattle.call_summary.proofs.build_summary.Goals as goal

pub returns-then-turned_away : goal.returns-then-turned_away
returns-then-turned_away c = let a = c.args in
    let v = away a.n a.free a.map.now a.summary.now _
    (sym c.turned_away.ensures ∙ c.if-turned_away.true) in (
      c.answer.ensures ∙ build-told a.n a.free a.map.now a.summary.now _ (refused 21) v,
      build-left a.n a.free a.map.now a.summary.now _ (refused 21) v,
    )

pub returns : goal.returns
returns c = let built = c in
    let role = built in
    let a = role.args in
    let may = sym (sym role.turned_away.ensures ∙ role.if-turned_away.false) in (
      built.rebuild_summary.ensures.0
          ∙ ap (λ (t : Bool). build_answer t a.n a.free a.map.now a.summary.now) may,
      built.rebuild_summary.ensures.1
          ∙ ap (λ (t : Bool). built_summary t a.n a.free a.map.now a.summary.now) may,
    )
