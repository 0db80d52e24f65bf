-- `summary_groups::Runs::longer` meets its contract: the runs of `length` behind which runs of `more` start are longer by
-- these.
-- Assumes nothing.

use Rattle.std.proofs.Common.{arith}
use Rattle.summary_groups.proofs.Rounds.{reach_on, reach_same}
use Rattle.summary_groups.proofs.Runs.longer.Goals as goal

pub returns-then-starts-eq0 : goal.returns-then-starts-eq0
returns-then-starts-eq0 c =
    record {
      length_bound = omega arith;
      by_index = λ w r q. reach_same w _ _ _ _ r q c.if-starts-eq0.true;
    }

pub returns : goal.returns
returns c =
    record {
      length_bound = omega arith;
      by_index = λ w r q. reach_on w _ _ _ _ r q (omega (arith, c.if-starts-eq0.false));
    }
