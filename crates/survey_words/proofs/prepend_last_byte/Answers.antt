-- `survey_words::prepend_last_byte` meets its contract: a byte and the blocks passed meet where its last bit and their head do.
-- Assumes nothing.

use mathlib.Core.Path.{◌≡◌, subst}
use Prim.Native.Nat.{ℕ, ◌%◌}
use native.Mathlib.Nat.{mul-le-mul_left}
use native.Mathlib.Omega.{arith}
use Rattle.survey_bytes.specs.Runs.{head_of, meet}
use Rattle.survey_bytes.proofs.Meeting.{product_none}
use Rattle.survey_words.proofs.Apart.{byte_parts}
use Rattle.survey_words.proofs.prepend_last_byte.Goals as goal

pub overflow_mul-w : goal.overflow_mul-w
overflow_mul-w c = record { fits = omega (arith, mul-le-mul_left (c.args.w % 2) c.requires.0) }

pub returns-then-w-passed-eq0 : goal.returns-then-w-passed-eq0
returns-then-w-passed-eq0 c = let a = c.args in record {
  summary = λ ys s. c.prepend_byte_apart.ensures.summary ys s
      (byte_parts a.w (head_of ys) (subst (λ (h : ℕ). meet (a.w % 2) h ≡ 0) s.heads
      (product_none (a.w % 2) a.passed.head c.if-w-passed-eq0.true)));
  head_bound_2 = omega (arith, c.prepend_byte_apart.ensures.head_bound);
}
