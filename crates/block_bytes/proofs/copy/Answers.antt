-- `copy` meets its contract. The invariant: the first i bytes are copied and the others are as they were.
-- Assumes nothing.
use mathlib.Core.Path.{◌∙◌}
use native.Mathlib.Omega.{arith}
use Rattle.block_bytes.proofs.Stores.{copy_more, copied}
use borrow.Author.Rules.{rules}
use Rattle.block_bytes.proofs.copy.Goals as goal

pub loop-i-preserved : goal.loop-i-preserved
loop-i-preserved c = (
  rw c.loop-i.invariant.0 (copy_more c.loop-i.i c.args.to.now c.args.from.now (omega arith) (omega arith)),
  search rules,
)

pub returns : goal.returns
returns c = c.loop-i.invariant.0 ∙ copied _ _ c.loop-i.i (omega arith) (omega arith)
