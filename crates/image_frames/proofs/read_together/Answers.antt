-- `read_together` meets its contract. The loop's invariant is `Reading`: the words passed are those of the image.
-- Assumes nothing.

use mathlib.Core.Path.{◌≡◌}
use native.Mathlib.Omega.{arith}
use lib.ListN.{length}
use Rattle.image_frames.proofs.Stored.{reading_end}
use Rattle.image_frames.proofs.read_together.Goals as goal

pub returns : goal.returns
returns c = let loop = c.loop-i in
    let a = c.args in
    let long : length loop.words ≡ length a.words.now = loop.invariant.long in
    reading_end a.image.now a.at a.words.now loop.i loop.words (omega arith) loop.invariant
