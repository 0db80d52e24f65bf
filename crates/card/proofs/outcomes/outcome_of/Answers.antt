-- `card::outcomes::outcome_of` meets its contract: the shape with the free count handed back, and the answer.
-- Assumes nothing.

use mathlib.Core.Path.{refl}
use Rattle.card.proofs.outcomes.outcome_of.Goals as goal

pub returns : goal.returns
returns c = refl
