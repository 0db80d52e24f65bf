-- `check` meets its contract, at each of its answers.
-- Assumes nothing.

use Rattle.block.proofs.Answers.{check_wrong, check_done}
use Rattle.block.proofs.check.Goals as goal

pub returns-then-block-ne-BLOCK : goal.returns-then-block-ne-BLOCK
returns-then-block-ne-BLOCK c = check_wrong c.args.block.now c.if-block-ne-BLOCK.true

pub returns-then-check_holds : goal.returns-then-check_holds
returns-then-check_holds c = check_done c.args.block.now _ _ c.if-block-ne-BLOCK.false
    c.check_holds.ensures (rw c.if-check_holds.true)

pub returns-else-check_holds : goal.returns-else-check_holds
returns-else-check_holds c = check_done c.args.block.now _ _ c.if-block-ne-BLOCK.false
    c.check_holds.ensures (rw c.if-check_holds.false)
