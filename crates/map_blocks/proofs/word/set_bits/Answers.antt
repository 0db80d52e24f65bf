-- `map_blocks::word::set_bits` meets its contract, bit by bit.
-- Assumes nothing.

use mathlib.Core.Path.{◌≡◌, refl, sym, ap, ◌∙◌}
use mathlib.Core.Bool.{Bool, true, false, not, ◌&&◌, ◌||◌, cond}
use Prim.Native.Nat.{ℕ, ◌-◌, ◌^◌}
use Rattle.map_blocks.specs.Words.{bit}
use Rattle.map_blocks.proofs.Bits.{bit_and_lem, bit_or_lem, bit_not}
use Rattle.map_blocks.proofs.word.set_bits.Goals as goal

set_one : (w m : Bool) → (w || m) ≡ cond m true w
set_one true true = refl
set_one true false = refl
set_one false true = refl
set_one false false = refl

set-zero : (w m : Bool) → (w && not m) ≡ cond m false w
set-zero true true = refl
set-zero true false = refl
set-zero false true = refl
set-zero false false = refl

pub returns-then-to : goal.returns-then-to
returns-then-to c = λ j l.
    let w : ℕ = c.args.w in
    let m : ℕ = c.args.m in
    bit_or_lem w m j ∙ set_one (bit w j) (bit m j) ∙ ap (λ (t : Bool). cond (bit m j) t (bit w j)) (sym c.if-to.true)

pub returns-else-to : goal.returns-else-to
returns-else-to c = λ j l.
    let w : ℕ = c.args.w in
    let m : ℕ = c.args.m in
    bit_and_lem w ((2 ^ 64 - 1) - m) j ∙ ap (λ (t : Bool). bit w j && t) (bit_not m j c.ranges.m.fits l)
    ∙ set-zero (bit w j) (bit m j)
    ∙ ap (λ (t : Bool). cond (bit m j) t (bit w j)) (sym c.if-to.false)
