-- `survey_words::prepend_word_apart` meets its contract: eight bytes, the lowest first, of which only that one may meet what is
-- passed.
-- Assumes nothing.

use Rattle.std.proofs.Common.{arith}
use Rattle.survey_words.proofs.Apart.{all_apart, first_apart, next_apart, byte_apart}
use Rattle.survey_words.proofs.prepend_word_apart.Goals as goal

pub loop-byte-init : goal.loop-byte-init
loop-byte-init c =
    let told = c.prepend_last_byte-before.ensures in (
      omega (arith, told.head_bound_2),
      omega (arith, told.head_bound_2),
      c.requires.apart.1,
      λ ys s. first_apart c.args.w ys _ _ _ c.requires.apart (told.summary ys s),
    )

pub prepend_byte_apart-before-requires : goal.prepend_byte_apart-before-requires
prepend_byte_apart-before-requires c = omega (arith, c.loop-byte.invariant.1, c.requires.head_bound)

pub loop-byte-preserved : goal.loop-byte-preserved
loop-byte-preserved c =
    let told = c.prepend_byte_apart-before.ensures in (
      omega (arith, told.head_bound),
      omega (arith, told.head_bound, c.loop-byte.invariant.1),
      next_apart c.loop-byte._byte c.loop-byte.rest c.loop-byte-test.true c.loop-byte.invariant.2,
      λ ys s. byte_apart c.loop-byte._byte c.loop-byte.rest _ _ _ _ _ _ _ c.loop-byte-test.true c.loop-byte.invariant.2
          (c.loop-byte.invariant.3 ys s) told.summary,
    )

pub returns-clause-summary : goal.returns-clause-summary
returns-clause-summary c = λ ys s. all_apart c.loop-byte._byte _ _ _ _ _ (omega arith) (c.loop-byte.invariant.3 ys s)

pub returns-clause-head_bound_2 : goal.returns-clause-head_bound_2
returns-clause-head_bound_2 c =
    (omega (arith, c.loop-byte.invariant.0), omega (arith, c.loop-byte.invariant.1))
