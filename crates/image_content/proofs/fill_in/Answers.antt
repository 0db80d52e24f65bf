-- `fill_in` meets its contract.
-- Assumes nothing.
use Rattle.std.proofs.Common.{◌≡◌, replicate, length, rules, arith}
use Rattle.image_content.proofs.Filling.{window_read}
use Rattle.image_content.proofs.fill_in.Goals as goal

pub returns : goal.returns
returns c =
    let a = c.args in
    let w = c.words_for-words.ensures in
    let zeros : c.fill.new.self ≡ replicate (length a.scratch.now) 0 = search rules in
    window_read a.image.now a.n a.c c.min-a.result c.min-w.result a.lo a.scratch.now
    (omega (arith, w, c.min-a.ensures)) (omega (arith, w, c.min-w.ensures)) _ _ zeros c.read_words.ensures
