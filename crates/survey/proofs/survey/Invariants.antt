-- `survey::survey` meets its contract. The loop's invariant: the numbers summarize the blocks of the words passed, which are
-- the last ones.
-- Assumes nothing.

use mathlib.Core.Path.{◌≡◌}
use Prim.Native.Nat.{◌<◌, ◌≤◌, ◌-◌, ◌*◌, ◌^◌}
use Rattle.map_blocks.specs.Maps.{words_for}
use Rattle.map_blocks.specs.Blocks.{free}
use Rattle.survey_words.specs.Passing.{Summary}
use Rattle.survey.specs.Survey.{free_of}
use Rattle.survey.specs.Words.{Before}
use Rattle.survey.proofs.Passing.{rest}
use Rattle.survey.proofs.survey.Given as goal

abbrev pub invariant-loop-i : goal.invariant-loop-i
invariant-loop-i l = (l.i ≤ words_for l.n) × Summary l.passed.head l.passed.longest l.passed.runs
    (rest (free l.map) l.n (words_for l.n) l.i)
    × (l.free ≡ free_of (rest (free l.map) l.n (words_for l.n) l.i))
    × (l.passed.head ≤ 2040 * (words_for l.n - l.i)) × (l.passed.runs ≤ 2040 * (words_for l.n - l.i))
    × (l.free ≤ 64 * (words_for l.n - l.i))
    × Before l.n l.i l.mask × (l.mask < 2 ^ 64)
