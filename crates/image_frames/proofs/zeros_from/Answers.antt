-- `zeros_from` meets its contract: `all` tells of every number whether it is 0.
-- Assumes nothing.
use Rattle.std.proofs.Common.{◌∙◌, ◌-◌, ◌*◌, rules, tests, refl, eqb}
use Rattle.std.proofs.lemmas.Iterator.{YieldsList-from_range}
use Rattle.std.proofs.lemmas.Iterator.Search.{all_from_yields_List}
use Rattle.image_frames.specs.Frames.{total_of}
use Rattle.image_frames.specs.Numbers.{number_in}
use Rattle.image_frames.proofs.Ranges.{all_in_range}
use Rattle.image_frames.proofs.Stored.{zeros_told}
use Rattle.image_frames.proofs.zeros_from.Goals as goal

pub returns : goal.returns
returns c = let image = c.args.image.now in
    let k = c.args.k in
    let end = 124 * total_of image in
    all_from_yields_List (λ i. eqb (number_in image i) 0) _ _ c.all.result c.all.ensures.ran
    (YieldsList-from_range k end (end - k) refl refl) (λ x b q h. search (rules, tests))
    ∙ all_in_range (λ i. eqb (number_in image i) 0) k (end - k) ∙ zeros_told image k (end - k) refl
