-- `call_show::show::copied` meets its contract: one of the first rows refuses it, or the block of the place decides.
-- Assumes nothing.

use mathlib.Core.Path.{sym, subst, ◌∙◌}
use mathlib.Core.Bool.{false}
use mathlib.Core.List.{[]}
use native.Mathlib.Omega.{arith}
use Rattle.std.proofs.lemmas.Result.{err_from_is_err_and}
use Rattle.catalogue_standings.specs.Refusals.{Follows}
use Rattle.catalogue_standings.specs.Rows.{Verdict}
use Rattle.roles.specs.Roles as names
use Rattle.refusals.specs.Lent.{lent_for}
use Rattle.refusals.proofs.Show.{by_first, by_block, left, unchanged}
use Rattle.refusals.proofs.Showing.{number_fits, in-card, sized-buffer}
use Rattle.call_show.proofs.show.copied.Goals as goal

pub returns-in_err-showing : goal.returns-in_err-showing
returns-in_err-showing c =
    let a = c.args in
    let q = lent_for a.asked names.show false [] a.map.now a.card.now in
    let p = err_from_is_err_and c.from_residual.result c.from_residual.ensures.1 in
    let told = by_first q a.place a.buffer.now _ c.in_err-showing.ensures in
    rw (p.1, p.2) (told, unchanged q a.place a.buffer.now _ told)

pub overflow_add-asked : goal.overflow_add-asked
overflow_add-asked c =
    let a = c.args in
    let q = lent_for a.asked names.show false [] a.map.now a.card.now in
    omega (arith, number_fits q a.place a.buffer.now c.in_ok-showing.ensures)

pub show_block-requires : goal.show_block-requires
show_block-requires c =
    let a = c.args in
    let q = lent_for a.asked names.show false [] a.map.now a.card.now in
    let opens = c.in_ok-showing.ensures in
    (omega (arith, in-card q a.place a.buffer.now opens), sized-buffer q a.place a.buffer.now opens)

pub returns : goal.returns
returns c =
    let a = c.args in
    let q = lent_for a.asked names.show false [] a.map.now a.card.now in
    let told = by_block q a.place a.buffer.now c.in_ok-showing.ensures in (
      subst (λ (v : Verdict). Follows v c.show_block.result) (sym told) c.show_block.ensures.0,
      c.show_block.ensures.1 ∙ left q a.place a.buffer.now told,
    )
