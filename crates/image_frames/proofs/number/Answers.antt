-- `number` meets its contract: a number stands where its place says.
-- Assumes nothing.

use mathlib.Core.Path.{ap, ◌∙◌}
use native.Mathlib.Omega.{arith}
use Rattle.block_bytes.specs.Numbers.{number_at}
use Rattle.image_frames.proofs.Numbered.{number_in_lem, number_out}
use Rattle.image_frames.proofs.number.Goals as goal

pub returns-then-k-image : goal.returns-then-k-image
returns-then-k-image c = let a = c.args in
    c.get4.ensures ∙ ap (number_at a.image.now) c.place.ensures
    ∙ number_in_lem a.image.now a.k (omega arith)

pub returns : goal.returns
returns c = let a = c.args in
    number_out a.image.now a.k (omega arith)
