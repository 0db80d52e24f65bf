-- `verdict` meets its contract, row by row.
-- Assumes nothing.
use Rattle.std.proofs.Common.{sym, ◌∙◌}
use Rattle.roles.specs.Roles as names
use Rattle.roles.specs.Roles.{turned_away}
use Rattle.closing.proofs.Closes.{told_21, told-1, told-4, told-0, whole_tested}
use Rattle.closing.proofs.verdict.Goals as goal

pub returns-then-turned_away : goal.returns-then-turned_away
returns-then-turned_away c =
    let a = c.args in
    told_21 (turned_away a.role names.close) a.n a.free a.fits a.map.now a.catalogue.now a.card.now a.scratch.now
    (sym c.turned_away.ensures ∙ c.if-turned_away.true)

pub returns-then-not-close_fits : goal.returns-then-not-close_fits
returns-then-not-close_fits c =
    let a = c.args in
    told-1 (turned_away a.role names.close) a.n a.free a.fits a.map.now a.catalogue.now a.card.now a.scratch.now
    (sym c.turned_away.ensures ∙ c.if-turned_away.false) (sym c.close_fits.ensures ∙ c.if-not-close_fits.true)

pub returns-then-not-test_state : goal.returns-then-not-test_state
returns-then-not-test_state c =
    let a = c.args in
    let turned = turned_away a.role names.close in
    let t = sym c.turned_away.ensures ∙ c.if-turned_away.false in
    let f = sym c.close_fits.ensures ∙ c.if-not-close_fits.false in
    told-4 turned a.n a.free a.fits a.map.now a.catalogue.now a.card.now a.scratch.now t f
    (sym (whole_tested turned a.n a.free a.fits a.map.now a.catalogue.now a.card.now a.scratch.now t f _
    c.checked_sub.ensures) ∙ sym c.test_state.ensures.0 ∙ c.if-not-test_state.true)

pub returns : goal.returns
returns c =
    let a = c.args in
    let turned = turned_away a.role names.close in
    let t = sym c.turned_away.ensures ∙ c.if-turned_away.false in
    let f = sym c.close_fits.ensures ∙ c.if-not-close_fits.false in
    told-0 turned a.n a.free a.fits a.map.now a.catalogue.now a.card.now a.scratch.now t f
    (sym (whole_tested turned a.n a.free a.fits a.map.now a.catalogue.now a.card.now a.scratch.now t f _
    c.checked_sub.ensures) ∙ sym c.test_state.ensures.0 ∙ c.if-not-test_state.false)
