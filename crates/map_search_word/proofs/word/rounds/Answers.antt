-- `map_search_word::word::rounds` meets its contract. The loop's invariant: bit j of g says that the `done` bits from j on are
-- 1.
-- Assumes nothing.

use mathlib.Core.Path.{◌≡◌, sym, ap, ◌∙◌}
use Prim.Native.Nat.{ℕ}
use native.Mathlib.Omega.{arith}
use Rattle.map_blocks.specs.Blocks.{all}
use Rattle.map_blocks.specs.Words.{bit}
use Rattle.map_blocks.proofs.Bits.{bit_zero}
use Rattle.map_blocks.proofs.Runs.{all_part}
use Rattle.map_search_word.proofs.word.Doubling.{round}
use Rattle.map_search_word.proofs.word.rounds.Goals as goal

pub loop-done-init : goal.loop-done-init
loop-done-init c = (omega arith, omega arith, λ w says. says)

pub returns-then-g-eq0 : goal.returns-then-g-eq0
returns-then-g-eq0 c = λ w says j.
    bit_zero j
    ∙ sym (all_part (bit w) j c.args.k j c.loop-done.done (omega arith) (omega arith)
    (sym (c.loop-done.invariant.2 w says j) ∙ ap (λ (x : ℕ). bit x j) c.if-g-eq0.true ∙ bit_zero j))

pub loop-done-preserved : goal.loop-done-preserved
loop-done-preserved c = (omega arith, omega arith, λ w says. round w _ _ _ (omega arith) (c.loop-done.invariant.2 w says))

pub returns : goal.returns
returns c = let e : c.loop-done.done ≡ c.args.k = omega arith in
    λ w says j. c.loop-done.invariant.2 w says j ∙ ap (all (bit w) j) e
