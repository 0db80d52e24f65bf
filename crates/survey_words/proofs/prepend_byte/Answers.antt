-- `survey_words::prepend_byte` meets its contract: head and tail are worked out, and the table gives the other two numbers.
-- Assumes nothing.

use Prim.Native.Nat.{◌%◌}
use native.Mathlib.Omega.{arith}
use Rattle.survey_bytes.specs.Bytes.{bits_of}
use Rattle.survey_words.proofs.Joining.{tail_runs}
use Rattle.survey_words.proofs.Prepending.{summary}
use Rattle.survey_words.proofs.prepend_byte.Goals as goal

pub joined_runs-requires : goal.joined_runs-requires
joined_runs-requires c = (
  omega (arith, c.byte_tail-t.ensures.1),
  omega (arith, c.byte_runs-n.ensures.1),
  c.requires.0,
  c.requires.1,
  λ p. omega (
    arith,
    c.byte_runs-n.ensures.0,
    tail_runs (bits_of 8 (c.args.w % 256)) (omega (arith, c.byte_tail-t.ensures.0)),
  ),
)

pub returns : goal.returns
returns c = let a = c.args in record {
  summary = summary (a.w % 256) _ _ _ _ a.passed.head a.passed.longest a.passed.runs _ _ _ _
      c.byte_head.ensures.0 c.byte_tail-t.ensures.0 c.byte_longest-l.ensures
      c.byte_runs-n.ensures.0 c.joined_head.ensures.0
      c.max.ensures c.max-2.ensures c.joined_runs.ensures.0;
  head_bound_2 = (c.joined_head.ensures.1, c.joined_runs.ensures.1);
}
