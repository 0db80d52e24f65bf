-- `summary_write::build` meets its contract: group 0 is all words, and it and the groups below it are right.
-- Assumes nothing.

use mathlib.Core.Path.{◌∙◌}
use lib.ListN.{length}
use Rattle.summary.proofs.Own.{sited_whole, right_own}
use Rattle.summary_write.proofs.build.Goals as goal

pub build_group-requires : goal.build_group-requires
build_group-requires c =
    let lent = c.requires in
    (lent, sited_whole _ _ _ _ lent (c.words_of.ensures (length c.args.map.now) lent.long))

pub returns : goal.returns
returns c =
    let lent = c.requires in
    right_own _ _ _ (record { few = lent.few; fits = lent.fits; long = c.build_group.auto.summary ∙ lent.long })
    c.build_group.ensures.done
