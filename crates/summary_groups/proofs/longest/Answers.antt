-- `summary_groups::longest` meets its contract: after each step no run is longer by as much as the step would have added.
-- Assumes nothing.

use Rattle.std.proofs.Common.{ℕ}
use Rattle.summary_groups.proofs.Rounds.{behind, ones, reach_first, reach_last}
use Rattle.summary_groups.proofs.longest.Goals as goal

pub returns : goal.returns
returns c =
    let w : ℕ = c.args.w in
    let twos = behind w w 1 w 1 (ones w) (ones w) in
    let fours = behind w _ 2 _ 2 twos twos in
    let eights = behind w _ 4 _ 4 fours fours in
    let sixteens = behind w _ 8 _ 8 eights eights in
    reach_last w _ _
    (c.longer-6.ensures.by_index w
    (c.longer-5.ensures.by_index w
    (c.longer-4.ensures.by_index w
    (c.longer-3.ensures.by_index w
    (c.longer-2.ensures.by_index w
    (c.longer.ensures.by_index w (reach_first w c.requires c.ranges.w.fits)
    (behind w _ 16 _ 16 sixteens sixteens)) sixteens) eights) fours) twos) (ones w))
