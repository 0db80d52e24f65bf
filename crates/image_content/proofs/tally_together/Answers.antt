-- `tally_together` meets its contract. The loop's invariant: counting the entries left comes to counting all of them.
-- Assumes nothing.
use Rattle.std.proofs.Common.{◌∙◌, sym, ap, List, arith}
use Rattle.catalogue.specs.declared.Entry.{Entry}
use Rattle.image_soundness.specs.Windows.{tally_of}
use Rattle.image_content.proofs.EntriesFrom.{rest_all, rest_none, rest_next}
use Rattle.image_content.proofs.Passing.{none_counted, one_counted, one_stops}
use Rattle.image_content.proofs.tally_together.Goals as goal

pub loop-i-init : goal.loop-i-init
loop-i-init c = ap (λ (l : List Entry). tally_of l c.args.n c.args.blocks)
    (sym (rest_all c.args.image.now c.args.at c.args.count))

pub returns-in_err-left : goal.returns-in_err-left
returns-in_err-left c =
    let a = c.args in
    let next = rest_next a.image.now a.at a.count c.loop-i.i _ (omega arith) c.entry_here.ensures in
    c.from_residual.ensures ∙ sym (one_stops a.n _ _ c.loop-i.left _ next c.in_err-left.ensures) ∙ c.loop-i.invariant

pub loop-i-preserved : goal.loop-i-preserved
loop-i-preserved c =
    let a = c.args in
    let next = rest_next a.image.now a.at a.count c.loop-i.i _ (omega arith) c.entry_here.ensures in
    sym (one_counted a.n _ _ c.loop-i.left _ _ next c.in_ok-left.ensures) ∙ c.loop-i.invariant

pub returns : goal.returns
returns c =
    let a = c.args in
    sym (none_counted a.n _ c.loop-i.left (rest_none a.image.now a.at a.count c.loop-i.i (omega arith))) ∙ c.loop-i.invariant
