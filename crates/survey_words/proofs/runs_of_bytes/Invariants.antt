-- `survey_words::runs_of_bytes` meets its contract. The loop's invariant: the runs so far and those of the bytes ahead are all.
-- Assumes nothing.

use Rattle.std.proofs.Common.{◌≡◌, ◌+◌, ◌-◌, ◌*◌, ◌≤◌}
use Rattle.survey_words.specs.Passing.{runs_in}
use Rattle.survey_words.proofs.runs_of_bytes.Given as goal

abbrev pub invariant-loop-byte : goal.invariant-loop-byte
invariant-loop-byte l = (l.runs ≤ 8 * l._byte) × (l.runs + runs_in (8 - l._byte) l.rest ≡ runs_in 8 l.w)
