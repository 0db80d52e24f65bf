-- `card::Shape::constants_hold` meets its contract: each constant computes to its number.
-- Assumes nothing.

use mathlib.Core.Path.{refl}
use Rattle.card.proofs.Shape.constants_hold.Goals as goal

pub returns-then-this-ne-BLOCK : goal.returns-then-this-ne-BLOCK
returns-then-this-ne-BLOCK c = absurd (c.if-this-ne-BLOCK.true refl)

pub returns-then-this-ne-PAYLOAD : goal.returns-then-this-ne-PAYLOAD
returns-then-this-ne-PAYLOAD c = absurd (c.if-this-ne-PAYLOAD.true refl)

pub returns-then-this-ne-BLOCKS : goal.returns-then-this-ne-BLOCKS
returns-then-this-ne-BLOCKS c = absurd (c.if-this-ne-BLOCKS.true refl)

pub returns : goal.returns
returns c = refl
