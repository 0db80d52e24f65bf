-- `release_parts`: a turn releases the part of one entry more.
-- Assumes nothing.
use Rattle.std.proofs.Common.{◌∙◌, arith}
use Rattle.image_soundness.proofs.Rounds.{stand_step, left_step, stand_end, left_end}
use Rattle.image_windows.proofs.release_parts.Goals as goal

pub loop-entry-preserved : goal.loop-entry-preserved
loop-entry-preserved c =
    let at = c.loop-entry in
    let es = c.args.catalogue.now in
    let r = c.release_near-stand in
    record {
      stand = stand_step es at.entry-index c.args.lo at.scratch at.stand r.result _ (omega arith) r.ensures.0 r.ensures.1
          ∙ at.invariant.stand;
      left = left_step es at.entry-index c.args.lo at.scratch at.stand r.result _ (omega arith) r.ensures.0 r.ensures.1
          ∙ at.invariant.left;
    }

pub returns : goal.returns
returns c =
    let at = c.loop-entry in
    let es = c.args.catalogue.now in (
      stand_end es at.entry-index c.args.lo at.scratch at.stand (omega arith) ∙ at.invariant.stand,
      left_end es at.entry-index c.args.lo at.scratch (omega arith) ∙ at.invariant.left,
    )
