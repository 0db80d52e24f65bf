-- `survey_words::prepend_word_apart` meets its contract. The loop's invariant: what is passed makes up the word with the bytes
-- ahead, of which the next does not meet it in a run.
-- Assumes nothing.

use Rattle.std.proofs.Common.{List, Bool, ◌++◌, ◌+◌, ◌-◌, ◌*◌, ◌≤◌}
use Rattle.survey_bytes.specs.Bytes.{bits_of, Apart}
use Rattle.survey_words.specs.Passing.{Summary}
use Rattle.survey_words.proofs.Apart.{UnderwayApart}
use Rattle.survey_words.proofs.prepend_word_apart.Given as goal

abbrev pub invariant-loop-byte : goal.invariant-loop-byte
invariant-loop-byte l = (l.before.head ≤ l.fn.passed.head + 255 * l._byte)
    × (l.before.runs ≤ l.fn.passed.runs + 255 * l._byte)
    × Apart (7 - l._byte) l.rest
    × ((ys : List Bool) → Summary l.fn.passed.head l.fn.passed.longest l.fn.passed.runs ys
    → UnderwayApart l._byte l.rest (bits_of 64 l.fn.w ++ ys) l.before.head l.before.longest l.before.runs)
