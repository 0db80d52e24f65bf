-- `move_extent` meets its contract.
-- Assumes nothing.

use Rattle.std.proofs.Common.{◌∙◌}
use Rattle.closing.proofs.Cards.{not_up, not-outside, moves}
use Rattle.closing.proofs.move_extent.Goals as goal

pub returns-then-extent-at : goal.returns-then-extent-at
returns-then-extent-at c = not_up _ _ _ c.if-extent-at.true

pub returns-then-card-extent : goal.returns-then-card-extent
returns-then-card-extent c = not-outside _ _ _ c.if-extent-at.false c.if-card-extent.true

pub returns : goal.returns
returns c = c.move_blocks.ensures ∙ moves _ _ _ c.if-extent-at.false c.if-card-extent.false
