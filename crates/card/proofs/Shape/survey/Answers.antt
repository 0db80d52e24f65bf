-- `card::Shape::survey` meets its contract: the answer of the crate call_search.
-- Assumes nothing.

use mathlib.Core.Path.{ap}
use Rattle.card.specs.Calls.{told}
use Rattle.card.proofs.Shape.survey.Goals as goal

pub returns : goal.returns
returns c = ap (told c.args.self) c.survey-answer.ensures
