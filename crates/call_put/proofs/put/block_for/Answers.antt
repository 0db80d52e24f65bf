-- `call_put::put::block_for` meets its contract: each way out by its row.
-- Assumes nothing.

use mathlib.Core.Path.{sym, ap, ◌∙◌}
use mathlib.Core.Bool.{false}
use mathlib.Core.List.{[]}
use native.Mathlib.Omega.{arith}
use Rattle.std.specs.Prelude.{Ok}
use Rattle.std.proofs.lemmas.Result.{err_from_is_err_and}
use Rattle.catalogue_standings.specs.Refusals.{number}
use Rattle.catalogue_standings.specs.Rows.{refused}
use Rattle.catalogue_standings.specs.declared.Refusal.{Refusal}
use Rattle.roles.specs.Roles as names
use Rattle.refusals.specs.Lent.{lent_for}
use Rattle.refusals.proofs.Put.{shut, other, past_end, misfit, passes, extent, number_fits, in-card}
use Rattle.call_put.proofs.put.block_for.Goals as goal

pub returns-in_err-stands : goal.returns-in_err-stands
returns-in_err-stands c =
    let a = c.args in
    let q = lent_for a.asked names.put false [] a.map.now a.card.now in
    let p = err_from_is_err_and c.from_residual.result c.from_residual.ensures.1 in
    rw (p.1, p.2) (shut q a.place a.payload.now _ c.enter.ensures c.in_err-stands.was, tt)

pub returns-in_default : goal.returns-in_default
returns-in_default c =
    let a = c.args in
    let q = lent_for a.asked names.put false [] a.map.now a.card.now in (
      other q a.place a.payload.now _ c.enter.ensures c.in_ok-stands.was c.in_default.not-Open
          ∙ ap (λ (why : Refusal). refused (number why)) (sym c.row_of.ensures),
      tt,
    )

pub returns-then-blocks-place : goal.returns-then-blocks-place
returns-then-blocks-place c =
    let a = c.args in
    let q = lent_for a.asked names.put false [] a.map.now a.card.now in (
      past_end q a.place a.payload.now _ _ c.enter.ensures (c.in_ok-stands.was ∙ ap Ok c.in-Open.is) c.if-blocks-place.true,
      tt,
    )

pub returns-then-payload-ne-PAYLOAD : goal.returns-then-payload-ne-PAYLOAD
returns-then-payload-ne-PAYLOAD c =
    let a = c.args in
    let q = lent_for a.asked names.put false [] a.map.now a.card.now in (
      misfit q a.place a.payload.now _ _ c.enter.ensures (c.in_ok-stands.was ∙ ap Ok c.in-Open.is) c.if-blocks-place.false
          c.if-payload-ne-PAYLOAD.true,
      tt,
    )

pub overflow_add-result : goal.overflow_add-result
overflow_add-result c =
    let a = c.args in
    let q = lent_for a.asked names.put false [] a.map.now a.card.now in
    let fits = number_fits q a.place a.payload.now c.in-Open.start c.in-Open.blocks c.enter.ensures
    (c.in_ok-stands.was ∙ ap Ok c.in-Open.is) c.if-blocks-place.false in
    omega (arith, fits)

pub returns : goal.returns
returns c =
    let a = c.args in
    let q = lent_for a.asked names.put false [] a.map.now a.card.now in
    let told = c.in_ok-stands.was ∙ ap Ok c.in-Open.is in
    let x = extent q a.place a.payload.now c.in-Open.start c.in-Open.blocks c.enter.ensures told in
    let inside = in-card q a.place a.payload.now c.in-Open.start c.in-Open.blocks c.enter.ensures told
    c.if-blocks-place.false in (
      passes q a.place a.payload.now c.in-Open.start c.in-Open.blocks c.enter.ensures told c.if-blocks-place.false
          c.if-payload-ne-PAYLOAD.false,
      (omega (arith, x.starts), omega (arith, inside), c.if-payload-ne-PAYLOAD.false),
    )
