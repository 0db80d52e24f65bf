-- `card::Shape::summary_check` meets its contract: the answer of the crate call_summary.
-- Assumes nothing.

use mathlib.Core.Path.{ap}
use Rattle.card.specs.Calls.{told}
use Rattle.card.proofs.Shape.summary_check.Goals as goal

pub returns : goal.returns
returns c = ap (told c.args.self) c.check_summary-answer.ensures
