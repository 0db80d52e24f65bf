-- `read_words` meets its contract. The loop's invariant is `Reading`: the words passed are those of the image.
-- Assumes nothing.

use mathlib.Core.Path.{◌≡◌, ◌∙◌}
use mathlib.Core.List.{List}
use Prim.Native.Nat.{ℕ, ◌≤◌, ◌+◌, ◌-◌, ◌*◌}
use native.Mathlib.Omega.{arith}
use lib.ListN.{length, drop, length-take}
use borrow.Rule.Slice.PartMut.{mid_of}
use Rattle.image_frames.specs.Frames.{body_of}
use Rattle.image_frames.proofs.Stored.{reading_more, reading_part, reading_end, word_halves}
use Rattle.image_frames.proofs.read_words.Goals as goal

mid-most : (i : ℕ) (words : List ℕ) → length (mid_of i (length words - i) words) ≤ length words - i
mid-most i words = omega (arith, length-take (length words - i) (drop i words))

pub returns-then-words-i : goal.returns-then-words-i
returns-then-words-i c = let loop = c.loop-i in
    let a = c.args in
    let f = c.read_frame-i in
    let most = mid-most loop.i loop.words in
    let long = loop.invariant.1.long in
    let read = reading_part (body_of a.image.now) (4 * a.k) a.words.now loop.i _ f.result loop.words
    f.new.words (omega arith) (omega arith) f.ensures.0 f.ensures.1 loop.invariant.1 in
    reading_end (body_of a.image.now) (4 * a.k) a.words.now _ _ (omega arith) read

pub loop-i-preserved : goal.loop-i-preserved
loop-i-preserved c = let loop = c.loop-i in
    let a = c.args in
    let f = c.read_frame-i in
    let most = mid-most loop.i loop.words in
    let long = loop.invariant.1.long in
    let read = reading_part (body_of a.image.now) (4 * a.k) a.words.now loop.i _ f.result loop.words
    f.new.words (omega arith) (omega arith) f.ensures.0 f.ensures.1 loop.invariant.1 in (
      omega arith,
      reading_more (body_of a.image.now) (4 * a.k) a.words.now (loop.i + f.result) _ _ (omega (arith, read.long))
          (c.word.ensures ∙ word_halves a.image.now a.k (loop.i + f.result)) read,
    )

pub returns : goal.returns
returns c = let loop = c.loop-i in
    let a = c.args in
    let long : length loop.words ≡ length a.words.now = loop.invariant.1.long in
    reading_end (body_of a.image.now) (4 * a.k) a.words.now loop.i loop.words (omega arith) loop.invariant.1
