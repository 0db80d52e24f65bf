-- `survey_words::runs_of_bytes` meets its contract.
-- Assumes nothing.

use Rattle.std.proofs.Common.{arith}
use Rattle.survey_words.proofs.Counting.{runs_more, runs_all}
use Rattle.survey_words.proofs.runs_of_bytes.Goals as goal

pub loop-byte-preserved : goal.loop-byte-preserved
loop-byte-preserved c = (
  omega arith,
  omega (
    arith,
    c.loop-byte.invariant.1,
    c.byte_runs-runs.ensures.0,
    runs_more c.loop-byte._byte c.loop-byte.rest c.loop-byte-test.true,
  ),
)

pub returns : goal.returns
returns c =
    let i = c.loop-byte.invariant in
    (omega (arith, i.1, runs_all c.loop-byte._byte c.loop-byte.rest (omega arith)), omega arith)
