-- `put_zeros` meets its contract. The loop's invariant: zeros were written from number k up to i.
-- Assumes nothing.

use native.Mathlib.Omega.{arith}
use Rattle.image_frames.proofs.Stored.{zeros_none, zeros_more}
use Rattle.image_frames.proofs.put_zeros.Goals as goal

pub loop-i-init : goal.loop-i-init
loop-i-init c = zeros_none _ _

pub loop-i-preserved : goal.loop-i-preserved
loop-i-preserved c = let loop = c.loop-i in
    zeros_more c.args.image.now c.args.k loop.image _ loop.i (omega arith) (omega arith) c.put_number.ensures loop.invariant
