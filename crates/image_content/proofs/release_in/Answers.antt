-- `release_in` meets its contract. The loop's invariant: releasing the parts left comes to releasing all of them.
-- Assumes nothing.
use Rattle.std.proofs.Common.{◌&&◌, Bool, ap, arith}
use Rattle.image_frames.specs.Frames.{body_of}
use Rattle.image.specs.Image.{entries_in}
use Rattle.image_content.proofs.EntriesFrom.{rest_none, rest_in, rest_across, together_room, together_first}
use Rattle.image_content.proofs.Passing.{left_from, left_end, one_released, some_released}
use Rattle.image_content.proofs.release_in.Goals as goal

pub loop-sheet-init : goal.loop-sheet-init
loop-sheet-init c = record { inside = omega arith; left = left_from _ _ _ _ (rest_in _ _) }

pub release_together-stand-requires : goal.release_together-stand-requires
release_together-stand-requires c =
    together_room c.args.image.now c.loop-sheet.sheet c.args.c _ (omega arith) (omega arith) c.together-count.ensures _
    c.place.ensures

pub returns-then-c-sheet : goal.returns-then-c-sheet
returns-then-c-sheet c =
    let at = c.loop-sheet in
    let a = c.args in
    let r = c.release_together-stand in
    let split = together_first a.image.now at.sheet a.c _ (omega arith) (omega arith) c.together-count.ensures _
    c.place.ensures in
    let l = some_released a.lo (entries_in a.image.now a.c) a.scratch.now _ at.stand at.scratch at.invariant.left _ _ _ _ split
    (ap (λ (b : Bool). at.stand && b) r.ensures.0) r.ensures.1 in
    left_end a.lo (entries_in a.image.now a.c) a.scratch.now _ _ _ l (rest_none (body_of a.image.now) 12 a.c _ (omega arith))

pub loop-sheet-preserved : goal.loop-sheet-preserved
loop-sheet-preserved c =
    let at = c.loop-sheet in
    let a = c.args in
    let r = c.release_together-stand in
    let split = together_first a.image.now at.sheet a.c _ (omega arith) (omega arith) c.together-count.ensures _
    c.place.ensures in
    let l = some_released a.lo (entries_in a.image.now a.c) a.scratch.now _ at.stand at.scratch at.invariant.left _ _ _ _ split
    (ap (λ (b : Bool). at.stand && b) r.ensures.0) r.ensures.1 in
    let next = rest_across a.image.now a.c _ _ (omega arith) c.entry_across.ensures in
    let p = c.release_part-stand in
    record {
      inside = omega arith;
      left = one_released a.lo (entries_in a.image.now a.c) a.scratch.now _ _ _ l _ _ _ _ next
          (ap (λ (b : Bool). (at.stand && r.result) && b) p.ensures.0) p.ensures.1;
    }

pub returns-after-loop-sheet : goal.returns-after-loop-sheet
returns-after-loop-sheet c =
    let at = c.loop-sheet in
    let a = c.args in
    left_end a.lo (entries_in a.image.now a.c) a.scratch.now _ at.stand at.scratch at.invariant.left
    (rest_none (body_of a.image.now) 12 a.c at.sheet (omega arith))
