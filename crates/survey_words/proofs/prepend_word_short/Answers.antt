-- `survey_words::prepend_word_short` meets its contract: the word's head and tail are those of its first and last byte.
-- Assumes nothing.

use native.Mathlib.Omega.{arith}
use Rattle.survey_words.proofs.Short.{summary_short}
use Rattle.survey_words.proofs.prepend_word_short.Goals as goal

pub overflow_add-byte_tail : goal.overflow_add-byte_tail
overflow_add-byte_tail c = omega (arith, c.byte_tail.ensures.1, c.requires.le_longest)

pub word_runs-requires : goal.word_runs-requires
word_runs-requires c = (c.requires.le_longest.1, c.requires.le_longest.2)

pub returns : goal.returns
returns c = let a = c.args in record {
  summary = summary_short a.w a.passed.head a.passed.longest a.passed.runs _ _ _ _ c.requires.short
      c.byte_head.ensures.0 c.byte_tail.ensures.0 c.requires.le_longest.0
      c.max.ensures c.word_runs.ensures.value;
  head_bound = (omega (arith, c.byte_head.ensures.1), omega (arith, c.word_runs.ensures.upper_bound));
}
