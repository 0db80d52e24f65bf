-- `map_search_word::core_of` meets its contract: the bits from 64 - k to k - 1, or none.
-- Assumes nothing.

use mathlib.Core.Path.{◌≡◌, sym, ◌∙◌}
use mathlib.Core.Bool.{true, ◌&&◌}
use Prim.Native.Nat.{ℕ, ◌-◌, ◌<◌, ◌≤◌, min}
use native.Mathlib.Omega.{arith}
use lib.Dec.{leb, ltb}
use borrow.Author.Tests.{leb-true, ltb-true}
use Rattle.map_blocks.specs.Words.{bit}
use Rattle.map_blocks.proofs.Bits.{bit_zero}
use Rattle.laws.proofs.Bools.{and_left, and_right, clash}
use Rattle.map_search_word.proofs.core_of.Goals as goal

pub returns-then-k-lt48 : goal.returns-then-k-lt48
returns-then-k-lt48 c = λ j l e. absurd (clash (bit 0 j) e (bit_zero j))

pub returns : goal.returns
returns c = λ j l e.
    let inside : ℕ = c.min-inside.result in
    let is : inside ≡ min c.args.k 64 = c.min-inside.ensures in
    let both : (leb (64 - inside) j && ltb j inside) ≡ true = sym (c.span.ensures j l) ∙ e in
    let lo : 64 - inside ≤ j = leb-true (64 - inside) j (and_left (leb (64 - inside) j) (ltb j inside) both) in
    let hi : j < inside = ltb-true j inside (and_right (leb (64 - inside) j) (ltb j inside) both) in
    (omega arith, omega arith)
