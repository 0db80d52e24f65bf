-- `survey::prepend_word` meets its contract, each way by the function it calls.
-- Assumes nothing.
-- a word with no free block

use mathlib.Core.Path.{sym, subst}
use mathlib.Core.List.{◌++◌}
use Prim.Native.Nat.{ℕ}
use native.Mathlib.Omega.{arith}
use Rattle.survey_bytes.specs.Bytes.{bits_of}
use Rattle.survey_words.specs.Passing.{Summary}
use Rattle.survey.proofs.Taken.{past_zero}
use Rattle.survey.proofs.prepend_word.Goals as goal

pub returns-then-w-eq0 : goal.returns-then-w-eq0
returns-then-w-eq0 c = let a = c.args in record {
  summary = λ ys s.
      subst (λ (w : ℕ). Summary 0 a.passed.longest a.passed.runs (bits_of 64 w ++ ys)) (sym c.if-w-eq0.true)
      (past_zero _ _ a.passed.head ys s);
  head_bound_2 = omega arith;
}

pub prepend_word_short-requires-clause-short : goal.prepend_word_short-requires-clause-short
prepend_word_short-requires-clause-short c = c.bytes_short.ensures c.if-bytes_short.true

pub prepend_word_apart-requires-clause-apart : goal.prepend_word_apart-requires-clause-apart
prepend_word_apart-requires-clause-apart c = c.bytes_apart.ensures c.if-bytes_apart.true
