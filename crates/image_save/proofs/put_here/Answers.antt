-- `put_here` meets its contract: the part that is lent comes back with the number in it.
-- Assumes nothing.
use mathlib.Core.List.{List}
use mathlib.Core.Path.{◌≡◌, ap₂}
use Prim.Native.Nat.{ℕ, ◌-◌, ◌+◌}
use native.Mathlib.Omega.{arith}
use borrow.Rule.Slice.PartMut.{put_mid}
use Rattle.block_bytes.specs.Numbers.{bytes4}
use Rattle.block_bytes.specs.Replaced.{replaced}
use Rattle.image_save.proofs.put_here.Goals as goal

size : (a : ℕ) → a + 4 - a ≡ 4
size a = omega arith

put_back : (image : List ℕ) (at number : ℕ) (ys : List ℕ) → ys ≡ bytes4 number
    → put_mid at (at + 4 - at) image ys ≡ replaced image at (bytes4 number)
unfolding replaced bytes4
put_back image at number ys e = ap₂ (λ (x : ℕ) (y : List ℕ). put_mid at x image y) (size at) e

pub returns : goal.returns
returns c = put_back c.args.image.now c.args.at c.args.number _ c.put4.ensures
