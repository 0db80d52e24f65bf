-- `write_block` meets its contract: the part of block b comes back with the sealed block in it.
-- Assumes nothing.

use Rattle.blocks_of_card.proofs.Card.{given_back}
use Rattle.blocks_of_card.proofs.write_block.Goals as goal

pub returns : goal.returns
returns c = given_back c.args.card.now c.args.b _ _ c.write_sealed.ensures
