-- `call_summary::check_summary` meets its contract.
-- Assumes nothing.
-- what is told of a test

use mathlib.Core.Path.{sym, ap, ◌∙◌}
use mathlib.Core.Bool.{Bool, cond}
use Rattle.catalogue_standings.specs.Rows.{accepted, refused}
use Rattle.catalogue_standings.specs.declared.Answer.{Answer}
use Rattle.catalogue_standings.specs.declared.Answer.TheVariants.{Own}
use Rattle.catalogue_standings.proofs.Tested.{fails, holds}
use Rattle.call_summary.proofs.Fits.{lengths, check-told, away, shut, passes}
use Rattle.call_summary.proofs.check_summary.Goals as goal

told : Bool → Answer
told t = Own (cond t 1 0)

pub returns-then-turned_away : goal.returns-then-turned_away
returns-then-turned_away c = let a = c.args in
    c.answer.ensures ∙ check-told a.n a.free a.map.now a.summary.now _ (refused 21)
    (away a.n a.free a.map.now a.summary.now _ (sym c.turned_away.ensures ∙ c.if-turned_away.true))

pub returns-then-not-summary_fits : goal.returns-then-not-summary_fits
returns-then-not-summary_fits c = let role = c in
    let a = role.args in
    c.answer-then-not-summary_fits.ensures ∙ check-told a.n a.free a.map.now a.summary.now _ (refused 1)
    (shut a.n a.free a.map.now a.summary.now _ (sym role.turned_away.ensures ∙ role.if-turned_away.false)
    (fails c.summary_fits.ensures c.if-not-summary_fits.true-raw))

pub check-requires : goal.check-requires
check-requires c = let a = c.args in
    lengths a.n a.free a.map.now a.summary.now (holds c.summary_fits.ensures c.if-not-summary_fits.false-raw)

pub returns-then-check : goal.returns-then-check
unfolding told
returns-then-check c = let fit = c in
    let role = fit in
    let a = role.args in
    ap told (sym c.if-check.true ∙ c.check.ensures)
    ∙ check-told a.n a.free a.map.now a.summary.now _ accepted
    (passes a.n a.free a.map.now a.summary.now _ (sym role.turned_away.ensures ∙ role.if-turned_away.false)
    (holds fit.summary_fits.ensures fit.if-not-summary_fits.false-raw))

pub returns : goal.returns
unfolding told
returns c = let fit = c in
    let role = fit in
    let a = role.args in
    ap told (sym c.if-check.false ∙ c.check.ensures)
    ∙ check-told a.n a.free a.map.now a.summary.now _ accepted
    (passes a.n a.free a.map.now a.summary.now _ (sym role.turned_away.ensures ∙ role.if-turned_away.false)
    (holds fit.summary_fits.ensures fit.if-not-summary_fits.false-raw))
