-- `summary_write::rebuild_word` meets its contract: the group of the word stays as it was, or the way leads up from it.
-- Assumes nothing.

use mathlib.Core.Path.{◌≡◌, ◌∙◌}
use Prim.Native.Nat.{ℕ, ◌+◌, ◌-◌, ◌*◌, ◌≤◌, ◌<◌}
use native.Mathlib.Omega.{arith}
use lib.ListN.{length}
use Rattle.summary_groups.specs.Groups.{power}
use Rattle.summary_groups.proofs.Places.{power_power, power_small, power_pos}
use Rattle.summary.specs.Summary.{usable}
use Rattle.summary_write.proofs.Climbs.{word_stands, word_rises, word_no_more}
use Rattle.summary_write.proofs.rebuild_word.Goals as goal

pub overflow_sub-g : goal.overflow_sub-g
overflow_sub-g c =
    let a = c.args in
    let w : ℕ = length a.map.now in
    let p : c.words_of.result ≡ power w = c.words_of.ensures w c.requires.0.long in
    let some : 0 < power w = power_pos w in
    let few : power w ≤ 4096 = power_small w c.requires.0.few in
    omega arith

pub overflow_add-g : goal.overflow_add-g
overflow_add-g c =
    let a = c.args in
    let w : ℕ = length a.map.now in
    let p : c.words_of.result ≡ power w = c.words_of.ensures w c.requires.0.long in
    let some : 0 < power w = power_pos w in
    let few : power w ≤ 4096 = power_small w c.requires.0.few in
    omega (arith, c.requires.1)

pub restore_word-requires : goal.restore_word-requires
restore_word-requires c =
    let a = c.args in
    let w : ℕ = length a.map.now in
    let p : c.words_of.result ≡ power w = c.words_of.ensures w c.requires.0.long in
    let some : 0 < power w = power_pos w in
    let few : power w ≤ 4096 = power_small w c.requires.0.few in (
      omega (arith, c.requires.1),
      c.requires.0.fits,
      omega (arith, c.requires.1),
      omega (arith, c.requires.1, c.requires.0.long),
    )

pub returns-then-restore_word : goal.returns-then-restore_word
returns-then-restore_word c =
    let a = c.args in
    let w : ℕ = length a.map.now in
    let words = c.words_of in
    let p : words.result ≡ power w = words.ensures w c.requires.0.long in
    let some : 0 < power w = power_pos w in
    let few : power w ≤ 4096 = power_small w c.requires.0.few in
    let leaf : ℕ = c.words_of.result - 1 in
    let fits : 3 * (leaf + a.i) + 2 < length a.summary.now = omega (arith, c.requires.1, c.requires.0.long) in
    word_no_more (usable a.map.now a.n) (power w) a.i leaf (power_power w) few (omega arith) c.requires.1 _ _ fits
    c.restore_word.ensures.1 (c.restore_word.ensures.0.0
    c.if-restore_word.true)

pub climb-requires : goal.climb-requires
climb-requires c =
    let a = c.args in
    let w : ℕ = length a.map.now in
    let words = c.words_of in
    let p : words.result ≡ power w = words.ensures w c.requires.0.long in
    let some : 0 < power w = power_pos w in
    let few : power w ≤ 4096 = power_small w c.requires.0.few in
    let leaf : ℕ = c.words_of.result - 1 in
    word_stands (power w) a.i leaf (power_power w) few (omega arith) c.requires.1 _
    (c.restore_word.auto.summary ∙ c.requires.0.long)

pub returns : goal.returns
returns c =
    let a = c.args in
    let w : ℕ = length a.map.now in
    let words = c.words_of in
    let p : words.result ≡ power w = words.ensures w c.requires.0.long in
    let some : 0 < power w = power_pos w in
    let few : power w ≤ 4096 = power_small w c.requires.0.few in
    let leaf : ℕ = c.words_of.result - 1 in
    let fits : 3 * (leaf + a.i) + 2 < length a.summary.now = omega (arith, c.requires.1, c.requires.0.long) in
    c.climb.ensures _ _ _ _ _
    (word_rises (usable a.map.now a.n) (power w) a.i leaf (power_power w) few (omega arith) c.requires.1 _ _ fits
    c.restore_word.ensures.1
    (c.restore_word.ensures.0.1
    c.if-restore_word.false))
