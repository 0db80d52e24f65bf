-- `put_zeros` meets its contract. The loop's invariant: zeros were written from number k up to i.
-- Assumes nothing.

use Prim.Native.Nat.{◌-◌, ◌*◌}
use lib.ListN.{replicate}
use Rattle.image_frames.proofs.Stored.{Written}
use Rattle.image_frames.proofs.put_zeros.Given as goal

abbrev pub invariant-loop-i : goal.invariant-loop-i
invariant-loop-i l = Written l.initial.image l.k (replicate (4 * (l.i - l.k)) 0) l.image
