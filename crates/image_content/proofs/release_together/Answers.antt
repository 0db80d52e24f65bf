-- `release_together` meets its contract. The loop's invariant: releasing the parts left comes to releasing all of them.
-- Assumes nothing.
use Rattle.std.proofs.Common.{arith}
use Rattle.image_content.proofs.EntriesFrom.{rest_all, rest_none, rest_next}
use Rattle.image_content.proofs.Passing.{left_from, left_end, one_released}
use Rattle.image_content.proofs.release_together.Goals as goal

pub loop-i-init : goal.loop-i-init
loop-i-init c = left_from _ _ _ _ (rest_all _ _ _)

pub loop-i-preserved : goal.loop-i-preserved
loop-i-preserved c =
    let a = c.args in
    let r = c.release_near-stand in
    let next = rest_next a.image.now a.at a.count c.loop-i.i _ (omega arith) c.entry_here.ensures in
    one_released a.lo _ a.scratch.now _ c.loop-i.stand c.loop-i.scratch c.loop-i.invariant _ _ r.result _ next r.ensures.0
    r.ensures.1

pub returns : goal.returns
returns c =
    let a = c.args in
    left_end a.lo _ a.scratch.now _ c.loop-i.stand c.loop-i.scratch c.loop-i.invariant
    (rest_none a.image.now a.at a.count c.loop-i.i (omega arith))
