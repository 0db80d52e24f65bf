-- `survey::last_part` meets its contract.
-- Assumes nothing.
-- no word holds any

use native.Mathlib.Omega.{arith}
use Rattle.survey.proofs.Passing.{part_before}
use Rattle.survey.proofs.last_part.Goals as goal

pub returns-then-n-eq0 : goal.returns-then-n-eq0
returns-then-n-eq0 c = λ p. absurd (omega arith)

pub returns : goal.returns
returns c = part_before _ _ (omega arith) c.part.ensures
