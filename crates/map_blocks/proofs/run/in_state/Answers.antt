-- `map_blocks::run::in_state` meets its contract, bit by bit.
-- Assumes nothing.

use mathlib.Core.Path.{sym, ap, ◌∙◌}
use mathlib.Core.Bool.{Bool, not, cond}
use Prim.Native.Nat.{ℕ}
use Rattle.map_blocks.specs.Words.{bit}
use Rattle.map_blocks.proofs.Bits.{bit_not}
use Rattle.map_blocks.proofs.run.in_state.Goals as goal

pub returns-then-state : goal.returns-then-state
returns-then-state c = λ j l.
    let w : ℕ = c.args.w in
    ap (λ (t : Bool). cond t (bit w j) (not (bit w j))) (sym c.if-state.true)

pub returns-else-state : goal.returns-else-state
returns-else-state c = λ j l.
    let w : ℕ = c.args.w in
    bit_not w j c.ranges.w.fits l ∙ ap (λ (t : Bool). cond t (bit w j) (not (bit w j))) (sym c.if-state.false)
