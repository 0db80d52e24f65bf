-- `survey_words::bytes_short` meets its contract.
-- Assumes nothing.

use native.Mathlib.Omega.{arith}
use lib.Bits.{and_le_r}
use borrow.Author.Tests.{eqb-true}
use Rattle.survey_words.proofs.Full.{short}
use Rattle.survey_words.proofs.bytes_short.Goals as goal

pub overflow_add-result : goal.overflow_add-result
overflow_add-result c = omega (arith, and_le_r c.args.w 9187201950435737471)

pub returns : goal.returns
returns c = λ e. short 8 c.args.w (eqb-true _ _ e)
