-- `read_together` meets its contract. The loop's invariant is `Reading`: the words passed are those of the image.
-- Assumes nothing.

use Rattle.image_frames.proofs.Stored.{Reading}
use Rattle.image_frames.proofs.read_together.Given as goal

abbrev pub invariant-loop-i : goal.invariant-loop-i
invariant-loop-i l = Reading l.image l.at l.initial.words l.i l.words
