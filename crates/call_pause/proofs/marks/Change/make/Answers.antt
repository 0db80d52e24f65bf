-- `call_pause::marks::Change::make` meets its contract, by the law of calls that change a mark.
-- Assumes nothing.

use mathlib.Core.Path.{ap, ◌∙◌}
use mathlib.Core.Bool.{false}
use mathlib.Core.List.{[]}
use Prim.Native.Nat.{ℕ}
use Rattle.refusals.specs.Lent.{lent_for, no_card}
use Rattle.refusals.specs.declared.Admits.{Admits}
use Rattle.refusals.proofs.Lent.{first_at}
use Rattle.call_pause.specs.Changes.{change_of, name_of, by_row, admitted_of, mark_out}
use Rattle.call_pause.proofs.Changing.{changes}
use Rattle.call_pause.proofs.marks.Change.make.Goals as goal

pub returns : goal.returns
returns c =
    let a = c.args in
    let q = lent_for a.asked (name_of a.self) false [] a.map.now no_card in
    changes q (change_of a.self)
    (c.by_row-opened.ensures ∙ ap by_row (c.enter.ensures
    ∙ ap (λ (name : ℕ). first_at (lent_for a.asked name false [] a.map.now no_card)) c.call.ensures))
    (c.admit-verdict.ensures ∙ ap (λ (x : Admits). admitted_of x c.by_row-opened.result) c.admits.ensures)
    (c.with_mark.ensures ∙ ap (mark_out a.asked.free a.asked.entry c.admit-verdict.result) c.mark.ensures)
