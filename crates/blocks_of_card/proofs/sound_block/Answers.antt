-- `sound_block` meets its contract: the part that is lent is block b.
-- Assumes nothing.

use mathlib.Core.Path.{ap, ◌∙◌}
use Rattle.block_seals.specs.Sealed.{sound}
use Rattle.blocks_of_card.proofs.Card.{lent}
use Rattle.blocks_of_card.proofs.sound_block.Goals as goal

pub returns : goal.returns
returns c = c.is_sound.ensures ∙ ap (sound c.args.sheet c.args.place) (lent c.args.card.now c.args.b)
