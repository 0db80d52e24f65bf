-- `seal_all` meets its contract. The loop's invariant is `Sealing`: the blocks passed are sealed, the others as they were.
-- Assumes nothing.

use mathlib.Core.Path.{refl, sym, subst}
use mathlib.Core.List.{List}
use Prim.Native.Nat.{ℕ, ◌+◌, ◌/◌}
use native.Mathlib.Omega.{arith}
use lib.ListN.{length}
use Rattle.image_frames.proofs.Framing.{Sealing, sealing_more, sealing_end}
use Rattle.image_frames.proofs.seal_all.Goals as goal

pub loop-i-preserved : goal.loop-i-preserved
loop-i-preserved c = let loop = c.loop-i in
    let image = c.args.image.now in
    subst (λ (l : List ℕ). Sealing image (length image / 512) (loop.i + 1) l) (sym c.seal_frame.ensures)
    (sealing_more image (length image / 512) (omega arith) loop.i loop.image (omega arith) loop.invariant)

pub returns : goal.returns
returns c = let loop = c.loop-i in
    let image = c.args.image.now in
    sealing_end image (length image / 512) (omega arith) loop.i loop.image (omega arith) refl loop.invariant
