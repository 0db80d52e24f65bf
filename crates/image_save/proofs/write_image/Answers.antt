-- `write_image` meets its contract: its parts, one after the other, are the image of the state.
-- Assumes nothing.
use Rattle.std.proofs.Common.{arith}
use Rattle.image_soundness.specs.Sound.{State}
use Rattle.image_save.proofs.Saves.{listed_none, listed_more, listed_all, head_length, head_written, room, image_written}
use Rattle.image_save.proofs.write_image.Goals as goal

pub loop-sheet-init : goal.loop-sheet-init
loop-sheet-init c =
    let a = c.args in
    let r = c.requires in
    let s : State = record { blocks = a.n; spare = a.free; entries = a.catalogue.now; map = a.map.now } in
    listed_none a.image.now _ a.catalogue.now (head_length s a.image.now r.0 r.1 r.2 r.3) (room s a.image.now r.0 r.1 r.2 r.3) _
    (head_written s a.image.now r.0 r.1 r.2 r.3 _ _ _ c.put_number.ensures c.put_number-2.ensures c.put_number-3.ensures)

pub loop-sheet-preserved : goal.loop-sheet-preserved
loop-sheet-preserved c =
    let a = c.args in
    let r = c.requires in
    let s : State = record { blocks = a.n; spare = a.free; entries = a.catalogue.now; map = a.map.now } in
    listed_more a.image.now _ a.catalogue.now (head_length s a.image.now r.0 r.1 r.2 r.3) (room s a.image.now r.0 r.1 r.2 r.3)
    c.loop-sheet.sheet c.loop-sheet.image _ (omega arith) c.write_entry.ensures c.loop-sheet.invariant

pub returns : goal.returns
returns c =
    let a = c.args in
    let r = c.requires in
    let s : State = record { blocks = a.n; spare = a.free; entries = a.catalogue.now; map = a.map.now } in
    let w = listed_all a.image.now _ a.catalogue.now (head_length s a.image.now r.0 r.1 r.2 r.3)
    (room s a.image.now r.0 r.1 r.2 r.3) c.loop-sheet.sheet c.loop-sheet.image (omega arith) c.loop-sheet.invariant in
    image_written s a.image.now r.0 r.1 r.2 r.3 c.loop-sheet.image _ _ _ w (omega arith) (omega arith) c.write_words.ensures
    c.put_zeros.ensures c.seal_all.ensures
