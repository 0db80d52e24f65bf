-- `seal_all` meets its contract. The loop's invariant is `Sealing`: the blocks passed are sealed, the others as they were.
-- Assumes nothing.

use Rattle.image_frames.proofs.Framing.{Sealing}
use Rattle.image_frames.proofs.seal_all.Given as goal

abbrev pub invariant-loop-i : goal.invariant-loop-i
invariant-loop-i l = Sealing l.initial.image l.total l.i l.image
