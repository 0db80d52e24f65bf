-- `call_show::place::showing` meets its contract: each way out by its row.
-- Assumes nothing.

use mathlib.Core.Path.{sym, ap, ◌∙◌}
use mathlib.Core.Bool.{false}
use mathlib.Core.List.{[]}
use Rattle.std.specs.Prelude.{Ok}
use Rattle.std.proofs.lemmas.Result.{err_from_is_err_and}
use Rattle.catalogue_standings.specs.Refusals.{number}
use Rattle.catalogue_standings.specs.Rows.{refused}
use Rattle.catalogue_standings.specs.declared.Refusal.{Refusal}
use Rattle.refusals.specs.Lent.{lent_for}
use Rattle.refusals.proofs.Showing.{showing_shut, showing_other, showing-past-end, showing-misfit, showing-passes}
use Rattle.call_show.proofs.place.showing.Goals as goal

pub returns-in_err-stands : goal.returns-in_err-stands
returns-in_err-stands c =
    let a = c.args in
    let q = lent_for a.asked a.call false [] a.map.now a.card.now in
    let p = err_from_is_err_and c.from_residual.result c.from_residual.ensures.1 in
    rw (p.1, p.2) (showing_shut q a.place a.buffer.now _ (sym c.enter.ensures ∙ c.in_err-stands.was))

pub returns-in_default : goal.returns-in_default
returns-in_default c =
    let a = c.args in
    let q = lent_for a.asked a.call false [] a.map.now a.card.now in
    showing_other q a.place a.buffer.now _ (sym c.enter.ensures ∙ c.in_ok-stands.was) c.in_default.not-Complete
    ∙ ap (λ (why : Refusal). refused (number why)) (sym c.row_of.ensures)

pub returns-then-blocks-place : goal.returns-then-blocks-place
returns-then-blocks-place c =
    let a = c.args in
    let q = lent_for a.asked a.call false [] a.map.now a.card.now in
    showing-past-end q a.place a.buffer.now _ _ (sym c.enter.ensures ∙ c.in_ok-stands.was ∙ ap Ok c.in-Complete.is)
    c.if-blocks-place.true

pub returns-then-buffer-ne-PAYLOAD : goal.returns-then-buffer-ne-PAYLOAD
returns-then-buffer-ne-PAYLOAD c =
    let a = c.args in
    let q = lent_for a.asked a.call false [] a.map.now a.card.now in
    showing-misfit q a.place a.buffer.now _ _ (sym c.enter.ensures ∙ c.in_ok-stands.was ∙ ap Ok c.in-Complete.is)
    c.if-blocks-place.false c.if-buffer-ne-PAYLOAD.true

pub returns : goal.returns
returns c =
    let a = c.args in
    let q = lent_for a.asked a.call false [] a.map.now a.card.now in
    showing-passes q a.place a.buffer.now _ _ (sym c.enter.ensures ∙ c.in_ok-stands.was ∙ ap Ok c.in-Complete.is)
    c.if-blocks-place.false c.if-buffer-ne-PAYLOAD.false
