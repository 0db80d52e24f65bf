-- `is_blank` meets its contract. The invariant: what is gathered is 0 and the rest is blank exactly if the whole is blank.
-- Assumes nothing.
use mathlib.Core.Path.{◌∙◌}
use native.Mathlib.Omega.{arith}
use Rattle.block_seals.proofs.Blank.{gather_more, gathered}
use Rattle.block_seals.proofs.is_blank.Goals as goal

pub loop-i-preserved : goal.loop-i-preserved
loop-i-preserved c = gather_more c.args.block.now c.loop-i.i c.loop-i.all (omega arith) ∙ c.loop-i.invariant

pub returns : goal.returns
returns c = gathered c.args.block.now c.loop-i.i c.loop-i.all (omega arith) ∙ c.loop-i.invariant
