-- `move_block` meets its contract: the part of block `to` comes back with the bytes of block `from` in it.
-- Assumes nothing.

use mathlib.Core.Path.{◌∙◌}
use Rattle.blocks_of_card.proofs.Card.{lent, given_back}
use Rattle.closing_moves.proofs.move_block.Goals as goal

pub returns : goal.returns
returns c = let a = c.args in
    given_back a.card.now a.to _ _ (c.copy-2.ensures ∙ c.copy.ensures ∙ lent a.card.now a.from)
