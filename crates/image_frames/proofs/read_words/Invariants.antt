-- `read_words` meets its contract. The loop's invariant is `Reading`: the words passed are those of the image.
-- Assumes nothing.

use Prim.Native.Nat.{◌≤◌, ◌-◌, ◌*◌}
use lib.ListN.{length}
use Rattle.image_frames.specs.Frames.{body_of}
use Rattle.image_frames.proofs.Stored.{Reading}
use Rattle.image_frames.proofs.read_words.Given as goal

abbrev pub invariant-loop-i : goal.invariant-loop-i
invariant-loop-i l = (l.i ≤ length l.initial.words) × Reading (body_of l.image) (4 * l.k) l.initial.words l.i l.words

abbrev pub decreases-loop-i : goal.decreases-loop-i
decreases-loop-i l = length l.initial.words - l.i
