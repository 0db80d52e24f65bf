-- `copy_payload` meets its contract: the part that is lent is the payload of block b.
-- Assumes nothing.

use mathlib.Core.Path.{◌∙◌}
use Rattle.blocks_of_card.proofs.Card.{lent_payload}
use Rattle.blocks_of_card.proofs.copy_payload.Goals as goal

pub returns : goal.returns
returns c = c.copy.ensures ∙ lent_payload c.args.card.now c.args.b
