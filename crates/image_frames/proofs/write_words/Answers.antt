-- `write_words` meets its contract. The loop's invariant: the first i words were written from number k on.
-- Assumes nothing.

use native.Mathlib.Omega.{arith}
use Rattle.image_frames.proofs.Stored.{words_none, words_more}
use Rattle.image_frames.proofs.write_words.Goals as goal

pub loop-i-init : goal.loop-i-init
loop-i-init c = words_none _ _ c.args.words.now

pub loop-i-preserved : goal.loop-i-preserved
loop-i-preserved c = let loop = c.loop-i in
    words_more c.args.image.now c.args.k c.args.words.now loop.image _ _ loop.i (omega arith) (omega arith)
    c.put_number.ensures c.put_number-in-loop-i.ensures loop.invariant
