-- `card::Shape::summary_build` meets its contract: the answer of the crate call_summary, and what it leaves.
-- Assumes nothing.

use mathlib.Core.Path.{ap}
use Rattle.card.specs.Calls.{told}
use Rattle.card.proofs.Shape.summary_build.Goals as goal

pub returns : goal.returns
returns c = (
  ap (told c.args.self)
      c.build_summary-answer.ensures.0,
  c.build_summary-answer.ensures.1,
)
