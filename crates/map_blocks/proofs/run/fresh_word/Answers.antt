-- `map_blocks::run::fresh_word` meets its contract, bit by bit.
-- Assumes nothing.

use mathlib.Core.Path.{sym, ap, ◌∙◌}
use mathlib.Core.Bool.{Bool, ◌&&◌}
use Prim.Native.Nat.{◌+◌}
use native.Mathlib.Omega.{arith}
use lib.Dec.{ltb}
use borrow.Author.Tests.{le-ltb, le-leb}
use Rattle.map_blocks.proofs.Bits.{bit_zero}
use Rattle.map_blocks.proofs.run.fresh_word.Goals as goal

pub returns-then-n-base : goal.returns-then-n-base
returns-then-n-base c = λ j l. bit_zero j ∙ sym (le-ltb (c.args.base + j) c.args.n (omega arith))

pub returns : goal.returns
returns c = λ j l.
    let a = c.args in
    c.part.ensures j l ∙ ap (λ (x : Bool). x && ltb (a.base + j) a.n) (le-leb 0 (a.base + j) (omega arith))
