-- `all_framed` meets its contract: `all` tells of every frame what `sound_block` tells of it.
-- Assumes nothing.
use Rattle.std.proofs.Common.{◌∙◌, rules, tests, refl, arith}
use Rattle.std.proofs.lemmas.Iterator.{YieldsList-from_range}
use Rattle.std.proofs.lemmas.Iterator.Search.{all_from_yields_List}
use Rattle.blocks_of_card.specs.Card.{block_of}
use Rattle.block_seals.specs.Sealed.{sound}
use Rattle.image_frames.specs.Frames.{total_of, framed}
use Rattle.image_frames.proofs.Ranges.{all_in_range}
use Rattle.image_frames.proofs.all_framed.Goals as goal

pub returns : goal.returns
unfolding framed
returns c = let image = c.args.image.now in
    let total = total_of image in
    all_from_yields_List (λ i. sound i total (block_of image i)) _ _ c.all.result c.all.ensures.ran
    (YieldsList-from_range 0 total total refl (omega arith)) (λ x b q k. search (rules, tests))
    ∙ all_in_range (λ i. sound i total (block_of image i)) 0 total
