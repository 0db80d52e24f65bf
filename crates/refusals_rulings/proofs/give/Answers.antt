-- `refusals_rulings::give` meets its contract: each way out by its row.
-- Assumes nothing.

use mathlib.Core.Path.{sym, ap, ◌∙◌}
use Rattle.std.specs.Prelude.{Ok}
use Rattle.std.proofs.lemmas.Result.{err_from_is_err_and}
use Rattle.catalogue_standings.specs.Refusals.{number}
use Rattle.catalogue_standings.specs.Rows.{refused}
use Rattle.catalogue_standings.specs.declared.Refusal.{Refusal}
use Rattle.refusals.specs.Lent.{lent_for}
use Rattle.refusals.proofs.Beginnings.{giving_shut, giving_other, giving_nothing, giving_passes}
use Rattle.refusals.proofs.Guides.{first_is}
use Rattle.refusals_rulings.proofs.give.Goals as goal

pub returns-in_err-stands : goal.returns-in_err-stands
returns-in_err-stands c =
    let a = c.args in
    let q = lent_for a.asked a.call a.guided a.summary.now a.map.now a.card.now in
    let p = err_from_is_err_and c.from_residual.result c.from_residual.ensures.1 in
    rw (p.1, p.2) (giving_shut q a.k _ (first_is q c.begin.ensures c.in_err-stands.was))

pub returns-in_default : goal.returns-in_default
returns-in_default c =
    let a = c.args in
    let q = lent_for a.asked a.call a.guided a.summary.now a.map.now a.card.now in
    giving_other q a.k _ (first_is q c.begin.ensures c.in_ok-stands.was) c.in_default.not-Absent
    ∙ ap (λ (why : Refusal). refused (number why)) (sym c.row_of.ensures)

pub returns-then-k-eq0 : goal.returns-then-k-eq0
returns-then-k-eq0 c =
    let a = c.args in
    let q = lent_for a.asked a.call a.guided a.summary.now a.map.now a.card.now in
    giving_nothing q a.k (first_is q c.begin.ensures (c.in_ok-stands.was ∙ ap Ok c.in-Absent.is)) c.if-k-eq0.true

pub returns : goal.returns
returns c =
    let a = c.args in
    let q = lent_for a.asked a.call a.guided a.summary.now a.map.now a.card.now in
    giving_passes q a.k (first_is q c.begin.ensures (c.in_ok-stands.was ∙ ap Ok c.in-Absent.is)) c.if-k-eq0.false
