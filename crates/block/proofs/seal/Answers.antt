-- `seal` meets its contract, at each of its answers.
-- Assumes nothing.

use Rattle.block.proofs.Answers.{seal_wrong_payload, seal_wrong_block, seal_done}
use Rattle.block.proofs.seal.Goals as goal

pub returns-then-payload-ne-PAYLOAD : goal.returns-then-payload-ne-PAYLOAD
returns-then-payload-ne-PAYLOAD c = seal_wrong_payload c.args.sheet c.args.place c.args.payload.now c.args.block.now
    c.if-payload-ne-PAYLOAD.true

pub returns-then-block-ne-BLOCK : goal.returns-then-block-ne-BLOCK
returns-then-block-ne-BLOCK c = seal_wrong_block c.args.sheet c.args.place c.args.payload.now c.args.block.now
    c.if-payload-ne-PAYLOAD.false c.if-block-ne-BLOCK.true

pub returns : goal.returns
returns c = seal_done c.args.sheet c.args.place c.args.payload.now c.args.block.now _
    c.if-payload-ne-PAYLOAD.false c.if-block-ne-BLOCK.false c.write_sealed.ensures
