-- `summary_search::search_down` meets its contract. The loop's invariant: the turns from block `at` on give the answer.
-- Assumes nothing.

use mathlib.Core.Path.{◌≡◌, sym, ◌∙◌, subst}
use Prim.Native.Nat.{ℕ, ◌+◌, ◌≤◌, ◌<◌}
use native.Mathlib.Omega.{arith}
use lib.ListN.{length, get_or}
use borrow.Author.Tests.{leb-true, leb-false}
use Rattle.summary_groups.specs.Groups.{power}
use Rattle.summary_groups.proofs.Places.{power_small, power_pos}
use Rattle.std.specs.declared.ops.ControlFlow.TheVariants.{Break}
use Rattle.summary_search.specs.SearchBy.{seek}
use Rattle.summary_search.proofs.Places.{lies_whole}
use Rattle.summary_search.proofs.Turns.{Turning, short_of, turning_first, turning_late, not-before, sought}
use Rattle.summary_search.proofs.Turns.{found_none, found-far, found_at, found_nothing}
use Rattle.summary_search.proofs.search_down.Goals.{After-seek_down, After-words_of, In-Break, Then-ends_before}
use Rattle.summary_search.proofs.search_down.Goals as goal

-- how many words group 0 has
words : (c : After-words_of)
    → c.words_of.result ≡ power (length c.args.map.now)
words c =
    let start = c in
    c.words_of.ensures (length start.args.map.now) start.requires.2

-- what the search down the groups gave
given : (c : After-seek_down) → c.words_of.result ≡ power (length c.args.map.now)
    → seek c.args.summary.now (power (length c.args.map.now)) c.loop-at.at c.args.k ≡ c.seek_down.result
given c w = sought _ _ _ _ _ _ w c.seek_down.ensures

-- a start
start_given : (c : In-Break)
    → seek c.args.summary.now (power (length c.args.map.now)) c.loop-at.at c.args.k ≡ Break c.in-Break.t
start_given c = given (goal.at.In-Break c).After-seek_down (words (goal.at.In-Break c).After-words_of) ∙ c.in-Break.is

-- the run that is looked for ends at or before `before`
fits : (c : Then-ends_before)
    → c.in-Break.t + c.args.k ≤ c.args.before
fits c = leb-true _ _ (sym c.ends_before.ensures ∙ c.if-ends_before.true)

pub bounds-summary-2 : goal.bounds-summary-2
bounds-summary-2 c = let start = c in
    omega (arith, power_pos (length start.args.map.now))

pub returns-then-summary-k : goal.returns-then-summary-k
returns-then-summary-k c = let a = c.args in
    let l : get_or a.summary.now 2 0 < a.k = omega (arith, c.if-summary-k.true) in
    sym (short_of a.map.now a.summary.now a.from a.before a.step a.k l)

pub overflow_cast-m : goal.overflow_cast-m
overflow_cast-m c = let start = c in
    omega (arith, words (goal.at.overflow_cast-m c).After-words_of, power_small (length start.args.map.now) start.requires.0)

pub overflow_mul-m : goal.overflow_mul-m
overflow_mul-m c = let start = c in
    omega (arith, words (goal.at.overflow_mul-m c).After-words_of, power_small (length start.args.map.now) start.requires.0)

pub loop-at-init : goal.loop-at-init
loop-at-init c = let a = c.args in
    let l : a.k ≤ get_or a.summary.now 2 0 = omega (arith, c.if-summary-k.false) in
    turning_first a.map.now a.summary.now a.from a.before a.step a.k l

pub seek_down-requires : goal.seek_down-requires
seek_down-requires c = (
  lies_whole (length c.args.map.now) _ _ c.requires.0 c.requires.2 (words (goal.at.seek_down-requires c).After-words_of),
  c.requires.3,
)

pub returns-in_default : goal.returns-in_default
returns-in_default c =
    found_none _ _ _ _ _ _ c.requires.0 c.requires.3 _ c.loop-at.invariant _
    (given (goal.at.returns-in_default c).After-seek_down (words (goal.at.returns-in_default c).After-words_of)
    ∙ c.in_default.is)
    c.loop-at-test.true

pub look_at-requires : goal.look_at-requires
look_at-requires c =
    (omega arith, c.requires.1, fits (goal.at.look_at-requires c).Then-ends_before, c.requires.3, c.requires.4)

pub returns-in-Some : goal.returns-in-Some
returns-in-Some c =
    found_at _ _ _ _ _ _ c.requires.0 c.requires.3 _ c.loop-at.invariant _
    (start_given (goal.at.returns-in-Some c).In-Break) (fits (goal.at.returns-in-Some c).Then-ends_before)
    c.loop-at-test.true _ (sym c.look_at.ensures ∙ c.in-Some.is)

-- the end of a stretch fits a number
pub overflow_add-at : goal.overflow_add-at
overflow_add-at c =
    omega (arith, fits (goal.at.overflow_add-at c).Then-ends_before, c.requires.0, c.requires.1, c.stretch_of.ensures)

pub overflow_add-at-in-None : goal.overflow_add-at-in-None
overflow_add-at-in-None c =
    let inside = fits (goal.at.overflow_add-at-in-None c).Then-ends_before in
    omega (arith, inside, c.requires.0, c.requires.1, c.stretch_of.ensures)

pub loop-at-smaller : goal.loop-at-smaller
loop-at-smaller c = omega (
  arith,
  c.loop-at-test.true,
  not-before c.args.map.now _ _ _ _ c.requires.3 (start_given (goal.at.loop-at-smaller c).In-Break),
)

pub loop-at-preserved : goal.loop-at-preserved
loop-at-preserved c =
    let a = c.args in
    subst (λ (x : ℕ). Turning a.map.now a.summary.now a.from a.before a.step a.k (c.in-Break.t + x + 1))
    (sym c.stretch_of.ensures)
    (found_nothing _ _ _ _ _ _ c.requires.0 c.requires.3 _ c.loop-at.invariant _
    (start_given (goal.at.loop-at-preserved c).In-Break) (fits (goal.at.loop-at-preserved c).Then-ends_before)
    c.loop-at-test.true (sym c.look_at.ensures ∙ c.in-None.is))

pub returns-else-ends_before : goal.returns-else-ends_before
returns-else-ends_before c =
    found-far _ _ _ _ _ _ c.requires.0 c.requires.3 _ c.loop-at.invariant _
    (start_given (goal.at.returns-else-ends_before c).In-Break) c.loop-at-test.true
    (leb-false _ _ (sym c.ends_before.ensures ∙ c.if-ends_before.false))

pub returns : goal.returns
returns c =
    turning_late _ _ _ _ _ _ c.requires.0 c.requires.3 _ c.loop-at.invariant c.loop-at-test.false
