-- `call_show::dated::copied` meets its contract: one of the first rows refuses it, or one of its date's, or the block of the
-- place decides.
-- Assumes nothing.

use mathlib.Core.Path.{sym, subst, ◌∙◌}
use mathlib.Core.Bool.{false}
use mathlib.Core.List.{[]}
use native.Mathlib.Omega.{arith}
use Rattle.std.proofs.lemmas.Result.{err_from_is_err_and}
use Rattle.catalogue_standings.specs.Refusals.{Follows}
use Rattle.catalogue_standings.specs.Rows.{Verdict}
use Rattle.roles.specs.Roles as names
use Rattle.refusals.specs.Lent.{lent_for}
use Rattle.calendar.specs.Calendar.{date_of}
use Rattle.refusals.proofs.ShowDated.{by_first, by-term, by_block, left, unchanged}
use Rattle.refusals.proofs.Showing.{number_fits, in-card, first-in-card, sized-buffer}
use Rattle.call_show.proofs.dated.copied.Goals as goal

pub returns-in_err-showing : goal.returns-in_err-showing
returns-in_err-showing c =
    let a = c.args in
    let q = lent_for a.asked names.show_dated false [] a.map.now a.card.now in
    let p = err_from_is_err_and c.from_residual.result c.from_residual.ensures.1 in
    let told = by_first q a.place (date_of a.year a.month a.day) a.buffer.now _ c.in_err-showing.ensures in
    rw (p.1, p.2) (told, unchanged q a.place (date_of a.year a.month a.day) a.buffer.now _ told)

pub on_term-requires : goal.on_term-requires
on_term-requires c =
    let a = c.args in
    first-in-card (lent_for a.asked names.show_dated false [] a.map.now a.card.now) a.place a.buffer.now c.in_ok-showing.ensures

pub returns-in_err-on_term : goal.returns-in_err-on_term
returns-in_err-on_term c =
    let a = c.args in
    let q = lent_for a.asked names.show_dated false [] a.map.now a.card.now in
    let p = err_from_is_err_and c.from_residual-in_err-on_term.result c.from_residual-in_err-on_term.ensures.1 in
    let told = by-term q a.place (date_of a.year a.month a.day) a.buffer.now c.in_ok-showing.ensures _
    c.in_err-on_term.ensures in
    rw (p.1, p.2) (told, unchanged q a.place (date_of a.year a.month a.day) a.buffer.now _ told)

pub overflow_add-start : goal.overflow_add-start
overflow_add-start c =
    let a = c.args in
    let q = lent_for a.asked names.show_dated false [] a.map.now a.card.now in
    omega (arith, number_fits q a.place a.buffer.now c.in_ok-showing.ensures)

pub show_block-requires : goal.show_block-requires
show_block-requires c =
    let a = c.args in
    let q = lent_for a.asked names.show_dated false [] a.map.now a.card.now in
    let opens = c.in_ok-showing.ensures in
    (omega (arith, in-card q a.place a.buffer.now opens), sized-buffer q a.place a.buffer.now opens)

pub returns : goal.returns
returns c =
    let a = c.args in
    let q = lent_for a.asked names.show_dated false [] a.map.now a.card.now in
    let date = date_of a.year a.month a.day in
    let told = by_block q a.place date a.buffer.now c.in_ok-showing.ensures c.in_ok-on_term.ensures in (
      subst (λ (v : Verdict). Follows v c.show_block.result) (sym told) c.show_block.ensures.0,
      c.show_block.ensures.1 ∙ left q a.place (date_of a.year a.month a.day) a.buffer.now told,
    )
