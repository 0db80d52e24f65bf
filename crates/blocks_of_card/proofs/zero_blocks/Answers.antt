-- `zero_blocks` meets its contract: the part of the k blocks comes back as zeros.
-- Assumes nothing.

use borrow.Author.Rules.{rules}
use Rattle.blocks_of_card.proofs.Card.{filled}
use Rattle.blocks_of_card.proofs.zero_blocks.Goals as goal

pub returns : goal.returns
returns c = filled c.args.card.now _ c.args.b c.args.k c.requires (search rules)
