-- `map_search_starts::ending` meets its contract, bit by bit.
-- Assumes nothing.

use mathlib.Core.Path.{◌≡◌, refl, sym, ap, ◌∙◌}
use mathlib.Core.Bool.{Bool, true, false, ◌&&◌}
use Prim.Native.Nat.{◌-◌}
use native.Mathlib.Omega.{arith}
use lib.Dec.{leb, ltb}
use borrow.Author.Tests.{lt-leb, lt-ltb}
use Rattle.map_blocks.proofs.Bits.{bit_zero, ones_shr}
use Rattle.map_search_starts.proofs.ending.Goals as goal

pub returns-then-t-eq0 : goal.returns-then-t-eq0
returns-then-t-eq0 c = λ j l. bit_zero j ∙ sym (ap (λ (x : Bool). x && ltb j 64) (lt-leb (64 - c.args.t) j (omega arith)))

pub returns : goal.returns
returns c = λ j l. ones_shr (64 - c.args.t) j (omega arith) l
    ∙ sym (last (leb (64 - c.args.t) j) (ltb j 64) (lt-ltb j 64 l))
  where
    last : (a b : Bool) → b ≡ true → (a && b) ≡ a
    last true b e = e
    last false b e = refl
