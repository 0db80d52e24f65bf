-- `survey_bytes::crossings` meets its contract.
-- Assumes nothing.

use native.Mathlib.Omega.{arith}
use Rattle.survey_bytes.proofs.Edges.{counted_crossings}
use Rattle.survey_bytes.proofs.crossings.Goals as goal

pub returns : goal.returns
returns c = counted_crossings 7 c.args.w (omega arith)
