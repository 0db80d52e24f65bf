-- `survey::survey` meets its contract. The loop's invariant: the numbers summarize the blocks of the words passed, which are
-- the last ones.
-- Assumes nothing.

use mathlib.Core.Path.{◌≡◌, refl, ap, subst, ◌∙◌}
use Prim.Native.Nat.{ℕ, ◌<◌, ◌-◌, ◌^◌}
use native.Mathlib.Omega.{arith}
use lib.Bits.{bit_and, and_le_r}
use lib.Count.{ones-le}
use lib.ListN.{get_or}
use Rattle.map_blocks.specs.Maps.{words_for}
use Rattle.map_blocks.specs.Blocks.{free}
use Rattle.survey_bytes.specs.Runs.{head_of, longest_of, runs_of}
use Rattle.survey_bytes.specs.Bytes.{bits_of, column}
use Rattle.survey_words.specs.Passing.{Summary}
use Rattle.survey.specs.Survey.{free_of}
use Rattle.survey.specs.Words.{Before}
use Rattle.survey.specs.declared.table.TheConstants.{TABLE}
use mathlib.Core.Bool.{Bool}
use Rattle.survey.proofs.Blocks.{free_append}
use Rattle.survey.proofs.Passing.{rest, rest_more, counted, nothing, ones_before}
use Rattle.survey.proofs.Rule.{right, ruled}
use Rattle.survey.proofs.Words.{free_word_lem}
use Rattle.map_blocks.proofs.Maps.{cut_word}
use Rattle.survey.proofs.survey.Goals as goal

pub loop-i-init : goal.loop-i-init
loop-i-init c =
    let a = c.args in
    let e : words_for a.n ≡ c.div_ceil-words.result = omega (arith, c.div_ceil-words.ensures) in
    let f : ℕ → Bool = free a.map.now in
    let start = nothing f a.n (words_for a.n) in (
      omega arith,
      subst (λ (i : ℕ). Summary 0 0 0 (rest f a.n (words_for a.n) i)) e start.0,
      subst (λ (i : ℕ). 0 ≡ free_of (rest f a.n (words_for a.n) i)) e start.1,
      omega arith,
      omega arith,
      omega arith,
      subst (λ (i : ℕ). Before a.n i c.last_part-mask.result) e c.last_part-mask.ensures,
      omega arith,
    )

pub overflow_add-free : goal.overflow_add-free
overflow_add-free c =
    let loop = c.loop-i in
    let word : ℕ = get_or c.args.map.now (loop.i - 1) 0 in
    let small : bit_and word loop.mask < 2 ^ 64 = omega (arith, and_le_r word loop.mask, loop.invariant.7) in
    omega (arith, ones-le 64 (bit_and word loop.mask) small)

pub new-table-requires : goal.new-table-requires
unfolding right bits_of head_of longest_of runs_of column
new-table-requires c = ruled TABLE refl tt

pub loop-i-preserved : goal.loop-i-preserved
loop-i-preserved c =
    let loop = c.loop-i in
    let a = c.args in
    let i : ℕ = loop.i in
    let w : ℕ = bit_and (get_or a.map.now (i - 1) 0) loop.mask in
    let small : w < 2 ^ 64 = omega (arith, and_le_r (get_or a.map.now (i - 1) 0) loop.mask, loop.invariant.7) in
    let step = rest_more (free a.map.now) a.n (words_for a.n) i w (omega arith) (omega arith)
    (cut_word a.map.now 0 a.n (i - 1) loop.mask (loop.invariant.6 (omega arith))) in (
      omega arith,
      subst (Summary _ _ _) step (c.prepend_word-passed.ensures.summary _ loop.invariant.1),
      omega (
        arith,
        loop.invariant.2,
        free_word_lem w small,
        free_append (bits_of 64 w) (rest (free a.map.now) a.n (words_for a.n) i),
        ap free_of step,
      ),
      omega (arith, c.prepend_word-passed.ensures.head_bound_2, loop.invariant.3),
      omega (arith, c.prepend_word-passed.ensures.head_bound_2, loop.invariant.4),
      omega (arith, ones-le 64 w small, loop.invariant.5),
      ones_before a.n (i - 1) (omega arith),
      omega arith,
    )

pub returns : goal.returns
returns c =
    let loop = c.loop-i in
    let a = c.args in
    let z : loop.i ≡ 0 = omega arith in
    counted (free a.map.now) a.n (words_for a.n) loop.free loop.passed.head loop.passed.longest
    loop.passed.runs (omega arith)
    (loop.invariant.2 ∙ ap (λ (i : ℕ). free_of (rest (free a.map.now) a.n (words_for a.n) i)) z)
    (subst (λ (i : ℕ). Summary loop.passed.head loop.passed.longest loop.passed.runs
    (rest (free a.map.now) a.n (words_for a.n) i)) z loop.invariant.1)
