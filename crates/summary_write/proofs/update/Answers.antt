-- `summary_write::update` meets its contract: with no block changed nothing is done, otherwise groups above the words that hold
-- one are built anew.
-- Assumes nothing.

use mathlib.Core.Path.{◌≡◌, subst}
use Prim.Native.Nat.{ℕ, ◌+◌, ◌/◌, ◌<◌, ◌≤◌}
use native.Mathlib.Omega.{arith}
use lib.ListN.{length}
use Rattle.summary_groups.specs.Groups.{power}
use Rattle.summary_groups.proofs.Places.{power_enough}
use Rattle.summary.specs.Summary.{usable}
use Rattle.summary.proofs.Updates.{updated_none, rebuilt}
use Rattle.summary_write.specs.Climbs.{Comes}
use Rattle.summary_write.proofs.update.Goals as goal

pub returns-then-count-eq0 : goal.returns-then-count-eq0
returns-then-count-eq0 c = updated_none _ _ _ _ _ c.requires.0.long c.if-count-eq0.true

pub rebuild_word-requires : goal.rebuild_word-requires
rebuild_word-requires c =
    let some : 0 < c.args.count = omega (arith, c.if-count-eq0.false) in
    let enough : length c.args.map.now ≤ power (length c.args.map.now) = power_enough _ in
    (c.requires.0, omega (arith, c.requires.1))

pub returns-then-lo-hi : goal.returns-then-lo-hi
returns-then-lo-hi c =
    let a = c.args in
    let some : 0 < a.count = omega (arith, c.if-count-eq0.false) in
    let e : a.start / 64 + 1 ≡ (a.start + a.count + 63) / 64 = c.if-lo-hi.true in
    rebuilt _ _ _ _ _ _ c.requires.0 some c.rebuild_word.auto.summary
    (subst (λ (hi : ℕ). Comes (usable a.map.now a.n) (power (length a.map.now)) (a.start / 64) hi
    a.summary.now c.rebuild_word.new.summary) e c.rebuild_word.ensures)

pub rebuild_words-requires : goal.rebuild_words-requires
rebuild_words-requires c =
    let a = c.args in
    let some : 0 < a.count = omega (arith, c.if-count-eq0.false) in
    let ne : a.start / 64 + 1 ≡ (a.start + a.count + 63) / 64 → ⊥ = c.if-lo-hi.false in
    let enough : length a.map.now ≤ power (length a.map.now) = power_enough _ in
    (c.requires.0, omega arith, omega (arith, c.requires.1))

pub returns : goal.returns
returns c =
    let some : 0 < c.args.count = omega (arith, c.if-count-eq0.false) in
    rebuilt _ _ _ _ _ _ c.requires.0 some c.rebuild_words.auto.summary c.rebuild_words.ensures
