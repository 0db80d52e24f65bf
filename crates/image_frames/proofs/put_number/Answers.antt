-- `put_number` meets its contract: the part that is lent comes back with the number in it.
-- Assumes nothing.

use mathlib.Core.List.{List}
use mathlib.Core.Path.{◌≡◌, sym, ap, ap₂, ◌∙◌}
use Prim.Native.Nat.{ℕ, ◌-◌, ◌+◌}
use native.Mathlib.Omega.{arith}
use borrow.Rule.Slice.PartMut.{put_mid}
use Rattle.block_bytes.specs.Numbers.{bytes4}
use Rattle.image_frames.proofs.Numbered.{stored_in, stored_out}
use Rattle.block_bytes.specs.Replaced.{replaced}
use Rattle.image_frames.specs.Numbers.{place_of}
use Rattle.image_frames.proofs.put_number.Goals as goal

size : (a : ℕ) → a + 4 - a ≡ 4
size a = omega arith

put_back : (image : List ℕ) (k number start : ℕ) (ys : List ℕ) → start ≡ place_of k → ys ≡ bytes4 number
    → put_mid start (start + 4 - start) image ys ≡ replaced image (place_of k) (bytes4 number)
unfolding replaced bytes4
put_back image k number start ys s e =
    ap₂ (λ (x : ℕ) (y : List ℕ). put_mid start x image y) (size start) e
    ∙ ap (λ (x : ℕ). put_mid x 4 image (bytes4 number)) s

pub returns-then-k-image : goal.returns-then-k-image
returns-then-k-image c = let a = c.args in
    put_back a.image.now a.k a.number _ _ c.place-start.ensures
    c.put4.ensures
    ∙ sym (stored_in a.image.now a.k a.number (omega arith))

pub returns-else-k-image : goal.returns-else-k-image
returns-else-k-image c = let a = c.args in
    sym (stored_out a.image.now a.k a.number (omega arith))
