-- `survey_words::prepend_word_joined` meets its contract: eight bytes, the lowest first, and their runs at once.
-- Assumes nothing.

use mathlib.Core.Path.{subst}
use native.Mathlib.Omega.{arith}
use Rattle.survey_words.specs.Passing.{Summary}
use Rattle.survey_words.proofs.Prepending.{recounted}
use Rattle.survey_words.proofs.Words.{word_bits}
use Rattle.survey_words.proofs.prepend_word_joined.Goals as goal

pub prepend_byte-p6-requires : goal.prepend_byte-p6-requires
prepend_byte-p6-requires c = (
  omega (
    arith,
    c.requires,
    c.prepend_byte-p5.ensures.head_bound_2,
    c.prepend_byte-p4.ensures.head_bound_2,
    c.prepend_byte-p3.ensures.head_bound_2,
    c.prepend_byte-p2.ensures.head_bound_2,
    c.prepend_byte-p1.ensures.head_bound_2,
    c.prepend_byte-p0.ensures.head_bound_2,
  ),
  omega (
    arith,
    c.requires,
    c.prepend_byte-p5.ensures.head_bound_2,
    c.prepend_byte-p4.ensures.head_bound_2,
    c.prepend_byte-p3.ensures.head_bound_2,
    c.prepend_byte-p2.ensures.head_bound_2,
    c.prepend_byte-p1.ensures.head_bound_2,
    c.prepend_byte-p0.ensures.head_bound_2,
  ),
)

pub prepend_byte-p7-requires : goal.prepend_byte-p7-requires
prepend_byte-p7-requires c = (
  omega (
    arith,
    c.requires,
    c.prepend_byte-p6.ensures.head_bound_2,
    c.prepend_byte-p5.ensures.head_bound_2,
    c.prepend_byte-p4.ensures.head_bound_2,
    c.prepend_byte-p3.ensures.head_bound_2,
    c.prepend_byte-p2.ensures.head_bound_2,
    c.prepend_byte-p1.ensures.head_bound_2,
    c.prepend_byte-p0.ensures.head_bound_2,
  ),
  omega (
    arith,
    c.requires,
    c.prepend_byte-p6.ensures.head_bound_2,
    c.prepend_byte-p5.ensures.head_bound_2,
    c.prepend_byte-p4.ensures.head_bound_2,
    c.prepend_byte-p3.ensures.head_bound_2,
    c.prepend_byte-p2.ensures.head_bound_2,
    c.prepend_byte-p1.ensures.head_bound_2,
    c.prepend_byte-p0.ensures.head_bound_2,
  ),
)

pub returns : goal.returns
returns c = record {
  summary = λ ys s.
      recounted _ _ _ _ _
      (subst (Summary _ _ _)
      (word_bits 8 c.args.w ys)
      (c.prepend_byte-p7.ensures.summary _ (c.prepend_byte-p6.ensures.summary _
      (c.prepend_byte-p5.ensures.summary _ (c.prepend_byte-p4.ensures.summary _
      (c.prepend_byte-p3.ensures.summary _
      (c.prepend_byte-p2.ensures.summary _
      (c.prepend_byte-p1.ensures.summary _
      (c.prepend_byte-p0.ensures.summary ys s)))))))))
      (c.word_runs-runs.ensures.value ys s.heads s.counts);
  head_bound_2 = omega (
    arith,
    c.prepend_byte-p7.ensures.head_bound_2,
    c.prepend_byte-p6.ensures.head_bound_2,
    c.prepend_byte-p5.ensures.head_bound_2,
    c.prepend_byte-p4.ensures.head_bound_2,
    c.prepend_byte-p3.ensures.head_bound_2,
    c.prepend_byte-p2.ensures.head_bound_2,
    c.prepend_byte-p1.ensures.head_bound_2,
    c.prepend_byte-p0.ensures.head_bound_2,
    c.word_runs-runs.ensures.upper_bound,
  );
}
