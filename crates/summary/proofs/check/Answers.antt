-- `summary::check` meets its contract: the summary is the map's own exactly if every group below group 0 is right.
-- Assumes nothing.

use lib.ListN.{length}
use Rattle.summary.proofs.Own.{decided, sited_whole}
use Rattle.summary.proofs.check.Goals as goal

pub right_below-requires : goal.right_below-requires
right_below-requires c =
    let lent = c.requires in
    (lent, sited_whole _ _ _ _ lent (c.words_of.ensures (length c.args.map.now) lent.long))

pub returns : goal.returns
returns c = decided c.args.map.now c.args.n c.args.summary.now c.requires _ c.right_below.ensures
