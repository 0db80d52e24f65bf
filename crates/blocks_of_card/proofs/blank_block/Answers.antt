-- `blank_block` meets its contract: the part that is lent is block b.
-- Assumes nothing.

use mathlib.Core.Path.{ap, ◌∙◌}
use Rattle.block_seals.specs.Sealed.{blank}
use Rattle.blocks_of_card.proofs.Card.{lent}
use Rattle.blocks_of_card.proofs.blank_block.Goals as goal

pub returns : goal.returns
returns c = c.is_blank.ensures ∙ ap blank (lent c.args.card.now c.args.b)
