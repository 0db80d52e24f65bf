-- `read_frame` meets its contract.
-- Assumes nothing.

use native.Mathlib.Omega.{arith}
use Rattle.image_frames.proofs.Stored.{frame_none, frame_some}
use Rattle.image_frames.proofs.read_frame.Goals as goal

pub returns-then-image-k : goal.returns-then-image-k
returns-then-image-k c = (omega arith, frame_none _ _ _)

pub returns : goal.returns
returns c = let a = c.args in (
  omega arith,
  frame_some a.image.now a.k _ c.words_together-count.result a.words.now _
      c.place.ensures
      c.read_together.ensures (omega arith) (omega arith) (omega arith),
)
