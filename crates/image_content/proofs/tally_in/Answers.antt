-- `tally_in` meets its contract. The loop's invariant: counting the entries left comes to counting all of them.
-- Assumes nothing.
use Rattle.std.proofs.Common.{◌∙◌, sym, ap, List, arith}
use Rattle.catalogue.specs.declared.Entry.{Entry}
use Rattle.image_frames.specs.Frames.{body_of}
use Rattle.image_soundness.specs.Windows.{tally_of}
use Rattle.image_content.proofs.EntriesFrom.{rest_none, rest_in, rest_across, together_room, together_first}
use Rattle.image_content.proofs.Passing.{none_counted, one_counted, one_stops, some_counted, some_stop}
use Rattle.image_content.proofs.tally_in.Goals as goal

pub loop-sheet-init : goal.loop-sheet-init
loop-sheet-init c = record {
  inside = omega arith;
  counts = ap (λ (l : List Entry). tally_of l c.args.n c.args.blocks) (sym (rest_in c.args.image.now c.args.c));
}

pub tally_together-requires : goal.tally_together-requires
tally_together-requires c =
    together_room c.args.image.now c.loop-sheet.sheet c.args.c _ (omega arith) (omega arith) c.together-count.ensures _
    c.place.ensures

pub returns-in_err-left : goal.returns-in_err-left
returns-in_err-left c =
    let at = c.loop-sheet in
    let a = c.args in
    let split = together_first a.image.now at.sheet a.c _ (omega arith) (omega arith) c.together-count.ensures _
    c.place.ensures in
    c.from_residual.ensures ∙ sym (some_stop a.n _ _ at.left _ split c.in_err-left.ensures) ∙ at.invariant.counts

pub returns-in_err-left-2 : goal.returns-in_err-left-2
returns-in_err-left-2 c =
    let at = c.loop-sheet in
    let a = c.args in
    let split = together_first a.image.now at.sheet a.c _ (omega arith) (omega arith) c.together-count.ensures _
    c.place.ensures in
    let next = rest_across a.image.now a.c _ _ (omega arith) c.entry_across.ensures in
    c.from_residual-in_err-left-2.ensures ∙ sym (one_stops a.n _ _ c.in_ok-left.left _ next c.in_err-left-2.ensures)
    ∙ sym (some_counted a.n _ _ at.left _ _ split c.in_ok-left.ensures) ∙ at.invariant.counts

pub loop-sheet-preserved : goal.loop-sheet-preserved
loop-sheet-preserved c =
    let at = c.loop-sheet in
    let a = c.args in
    let split = together_first a.image.now at.sheet a.c _ (omega arith) (omega arith) c.together-count.ensures _
    c.place.ensures in
    let next = rest_across a.image.now a.c _ _ (omega arith) c.entry_across.ensures in
    record {
      inside = omega arith;
      counts = sym (one_counted a.n _ _ c.in_ok-left.left _ _ next c.in_ok-left-2.ensures)
          ∙ sym (some_counted a.n _ _ at.left _ _ split c.in_ok-left.ensures) ∙ at.invariant.counts;
    }

pub returns-then-c-sheet : goal.returns-then-c-sheet
returns-then-c-sheet c =
    let at = c.loop-sheet in
    let a = c.args in
    let split = together_first a.image.now at.sheet a.c _ (omega arith) (omega arith) c.together-count.ensures _
    c.place.ensures in
    sym (none_counted a.n _ c.in_ok-left.left (rest_none (body_of a.image.now) 12 a.c _ (omega arith)))
    ∙ sym (some_counted a.n _ _ at.left _ _ split c.in_ok-left.ensures) ∙ at.invariant.counts

pub returns-after-loop-sheet : goal.returns-after-loop-sheet
returns-after-loop-sheet c =
    let at = c.loop-sheet in
    let a = c.args in
    sym (none_counted a.n _ at.left (rest_none (body_of a.image.now) 12 a.c at.sheet (omega arith))) ∙ at.invariant.counts
