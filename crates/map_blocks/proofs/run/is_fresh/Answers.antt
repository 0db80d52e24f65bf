-- `map_blocks::run::is_fresh` meets its contract. The loop's invariant: the words passed are those of a fresh map.
-- Assumes nothing.

use native.Mathlib.Omega.{arith}
use Rattle.map_blocks.proofs.run.Freshness.{passed_more, passed-not, passed_end}
use Rattle.map_blocks.proofs.run.is_fresh.Goals as goal

pub loop-i-init : goal.loop-i-init
loop-i-init c = λ b h. absurd (omega arith)

pub returns-then-word-fresh_word : goal.returns-then-word-fresh_word
returns-then-word-fresh_word c = let a = c.args in
    passed-not a.map.now a.n c.loop-i.i _ c.fresh_word.ensures (omega arith)
    (omega (arith, c.type_inv.map c.loop-i.i)) (omega arith) c.if-word-fresh_word.true

pub loop-i-preserved : goal.loop-i-preserved
loop-i-preserved c = let a = c.args in
    passed_more a.map.now a.n c.loop-i.i _ c.fresh_word.ensures c.loop-i.invariant c.if-word-fresh_word.false

pub returns : goal.returns
returns c = passed_end _ _ c.loop-i.i (omega arith) c.loop-i.invariant
