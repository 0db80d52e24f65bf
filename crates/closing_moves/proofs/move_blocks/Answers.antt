-- `move_blocks` meets its contract. The invariant: the first i of the blocks are moved, and all others are as they were.
-- Assumes nothing.

use mathlib.Core.Path.{ap, ◌∙◌}
use native.Mathlib.Omega.{arith}
use Rattle.closing_moves.specs.Moved.{moved}
use Rattle.closing_moves.proofs.Moved.{moved_nowhere, moved_none, moved_next}
use borrow.Author.Rules.{rules}
use Rattle.closing_moves.proofs.move_blocks.Goals as goal

pub returns-then-from-to : goal.returns-then-from-to
returns-then-from-to c = moved_nowhere _ _ _ _ c.if-from-to.true

pub loop-i-init : goal.loop-i-init
loop-i-init c = let a = c.args in (moved_none a.card.now a.to a.from, search rules)

pub loop-i-preserved : goal.loop-i-preserved
loop-i-preserved c = let a = c.args in (
  moved_next a.card.now c.loop-i.card _ a.to a.from c.loop-i.i (omega arith) (omega arith)
      c.loop-i.invariant.0 c.move_block.ensures,
  search rules,
)

pub returns : goal.returns
returns c = let a = c.args in
    c.loop-i.invariant.0 ∙ ap (moved a.card.now a.to a.from) (omega arith)
