-- `summary_write::rebuild_words` meets its contract. The invariant: groups g to stop - 1, two or more, are those of the level
-- that
-- have one of the words, and what has been stored is as aimed at.
-- Assumes nothing.

use mathlib.Core.Path.{◌≡◌, refl, ◌∙◌}
use Prim.Native.Nat.{ℕ, ◌+◌, ◌-◌, ◌/◌, ◌≤◌, ◌<◌}
use native.Mathlib.Omega.{arith}
use lib.ListN.{length}
use Rattle.summary_groups.specs.Groups.{power}
use Rattle.summary_groups.proofs.Places.{power_power, power_small, power_pos}
use Rattle.summary_write.specs.Climbs.{At}
use Rattle.summary_write.proofs.Climbs.{climbs_words, climbs-above, several_rise}
use Rattle.summary_write.proofs.Levels.{at_words, up, above_few, several}
use Rattle.summary_write.proofs.rebuild_words.Goals as goal

pub overflow_sub-leaf : goal.overflow_sub-leaf
overflow_sub-leaf c =
    let a = c.args in
    let w : ℕ = length a.map.now in
    let p : c.words_of-leaf.result ≡ power w = c.words_of-leaf.ensures w c.requires.0.long in
    let some : 0 < power w = power_pos w in
    let few : power w ≤ 4096 = power_small w c.requires.0.few in
    omega arith

pub store_leaves-requires : goal.store_leaves-requires
store_leaves-requires c =
    let a = c.args in
    let w : ℕ = length a.map.now in
    let p : c.words_of-leaf.result ≡ power w = c.words_of-leaf.ensures w c.requires.0.long in
    let some : 0 < power w = power_pos w in
    let few : power w ≤ 4096 = power_small w c.requires.0.few in
    (c.requires.0, omega arith, omega (arith, c.requires.2), omega (arith, c.requires.1))

pub overflow_add-g : goal.overflow_add-g
overflow_add-g c =
    let a = c.args in
    let w : ℕ = length a.map.now in
    let words = c.words_of-leaf in
    let p : words.result ≡ power w = words.ensures w c.requires.0.long in
    let some : 0 < power w = power_pos w in
    let few : power w ≤ 4096 = power_small w c.requires.0.few in
    omega (arith, c.requires.1, c.requires.2)

pub overflow_add-stop : goal.overflow_add-stop
overflow_add-stop c =
    let a = c.args in
    let w : ℕ = length a.map.now in
    let words = c.words_of-leaf in
    let p : words.result ≡ power w = words.ensures w c.requires.0.long in
    let some : 0 < power w = power_pos w in
    let few : power w ≤ 4096 = power_small w c.requires.0.few in
    omega (arith, c.requires.1, c.requires.2)

pub loop-g-init : goal.loop-g-init
loop-g-init c =
    let a = c.args in
    let w : ℕ = length a.map.now in
    let words = c.words_of-leaf in
    let p : words.result ≡ power w = words.ensures w c.requires.0.long in
    let some : 0 < power w = power_pos w in
    let few : power w ≤ 4096 = power_small w c.requires.0.few in (
      omega (arith, c.requires.1, c.requires.2),
      omega arith,
      refl,
      omega (arith, c.requires.1),
      (
        power w,
        at_words (power w) a.lo a.hi _ (power_power w) few (omega arith) (omega (arith, c.requires.1)) c.requires.2,
      ),
      λ s climb. climb,
    )

pub overflow_sub-g : goal.overflow_sub-g
overflow_sub-g c =
    let a = c.args in
    let w : ℕ = length a.map.now in
    let few : power w ≤ 4096 = power_small w c.requires.0.few in
    let loop = c.loop-g in
    let at : At (power w) a.lo a.hi loop.half loop.invariant.4.0 loop.g loop.stop = loop.invariant.4.1 in
    let some : 0 < loop.g = several _ _ _ _ _ _ _ at loop.invariant.3 in
    omega arith

pub overflow_add-g-in-loop-g : goal.overflow_add-g-in-loop-g
overflow_add-g-in-loop-g c = omega (arith, c.loop-g.invariant.0)

pub store_joins-requires : goal.store_joins-requires
store_joins-requires c =
    let a = c.args in
    let w : ℕ = length a.map.now in
    let few : power w ≤ 4096 = power_small w c.requires.0.few in
    let loop = c.loop-g in
    let at : At (power w) a.lo a.hi loop.half loop.invariant.4.0 loop.g loop.stop = loop.invariant.4.1 in
    let some : 0 < loop.g = several _ _ _ _ _ _ _ at loop.invariant.3 in
    let small = above_few _ _ _ _ _ _ _ (power_power w) few at some in
    let e : length loop.summary ≡ length a.summary.now = loop.invariant.2
    ∙ c.store_leaves.auto.summary in
    let test : (loop.g - 1) / 2 + 1 < loop.stop / 2 = c.loop-g-test.true in
    (omega (arith, small.0), omega (arith, small.1), omega (arith, small.0, c.requires.0.long), omega arith)

pub loop-g-smaller : goal.loop-g-smaller
loop-g-smaller c =
    let a = c.args in
    let w : ℕ = length a.map.now in
    let few : power w ≤ 4096 = power_small w c.requires.0.few in
    let loop = c.loop-g in
    let at : At (power w) a.lo a.hi loop.half loop.invariant.4.0 loop.g loop.stop = loop.invariant.4.1 in
    let some : 0 < loop.g = several _ _ _ _ _ _ _ at loop.invariant.3 in
    omega arith

pub loop-g-preserved : goal.loop-g-preserved
loop-g-preserved c =
    let a = c.args in
    let w : ℕ = length a.map.now in
    let few : power w ≤ 4096 = power_small w c.requires.0.few in
    let loop = c.loop-g in
    let at : At (power w) a.lo a.hi loop.half loop.invariant.4.0 loop.g loop.stop = loop.invariant.4.1 in
    let some : 0 < loop.g = several _ _ _ _ _ _ _ at loop.invariant.3 in
    let small = above_few _ _ _ _ _ _ _ (power_power w) few at some in
    let test : (loop.g - 1) / 2 + 1 < loop.stop / 2 = c.loop-g-test.true in (
      omega (arith, loop.invariant.0),
      omega (arith, small.1),
      c.store_joins.auto.summary ∙ loop.invariant.2,
      test,
      up _ _ _ _ _ _ _ (power_power w) few at some,
      λ s climb. climbs-above _ _ _ _ _ _ _ _ _ (power_power w) few (loop.invariant.5 s climb) some _
          c.store_joins.ensures (λ aim target rest one same. omega arith),
    )

pub climb-requires : goal.climb-requires
climb-requires c =
    let a = c.args in
    let w : ℕ = length a.map.now in
    let few : power w ≤ 4096 = power_small w c.requires.0.few in
    let loop = c.loop-g in
    let at : At (power w) a.lo a.hi loop.half loop.invariant.4.0 loop.g loop.stop = loop.invariant.4.1 in
    let some : 0 < loop.g = several _ _ _ _ _ _ _ at loop.invariant.3 in
    record {
      p = power w;
      power = power_power w;
      few = few;
      long = loop.invariant.2 ∙ c.store_leaves.auto.summary ∙ c.requires.0.long;
      lo = a.lo;
      hi = a.hi;
      count = loop.invariant.4.0;
      stop = loop.stop;
      at = at;
    }

pub returns : goal.returns
returns c =
    let a = c.args in
    let w : ℕ = length a.map.now in
    let words = c.words_of-leaf in
    let p : words.result ≡ power w = words.ensures w c.requires.0.long in
    let some : 0 < power w = power_pos w in
    let few : power w ≤ 4096 = power_small w c.requires.0.few in
    let loop = c.loop-g in
    let one : loop.stop / 2 ≤ (loop.g - 1) / 2 + 1 = omega (arith, c.loop-g-test.false) in
    c.climb.ensures _ _ _ _ _
    (several_rise _ _ _ _ _ _ _ _ _ (power_power w) few
    (loop.invariant.5 a.summary.now
    (climbs_words _ _ _ _ _ (power_power w) few (omega arith) (omega (arith, c.requires.1)) c.requires.2 _ _
    c.store_leaves.ensures
    (λ aim target rest o same. omega (arith, c.requires.1)))) one)
