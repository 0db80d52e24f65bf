-- `survey_words::prepend_byte_apart` meets its contract: the head is worked out, and the table gives the other two numbers.
-- Assumes nothing.

use mathlib.Core.Path.{refl}
use Prim.Native.Nat.{◌%◌}
use native.Mathlib.Omega.{arith}
use Rattle.survey_words.proofs.Prepending.{summary_apart}
use Rattle.survey_words.proofs.prepend_byte_apart.Goals as goal

pub returns : goal.returns
returns c = let a = c.args in record {
  summary = summary_apart (a.w % 256) _ _ _ a.passed.head a.passed.longest a.passed.runs _ _
      c.byte_head.ensures.0 c.byte_longest-l.ensures c.byte_runs-n.ensures.0
      c.max.ensures refl;
  head_bound = (omega (arith, c.byte_head.ensures.1), omega (arith, c.byte_runs-n.ensures.1));
}
