-- `pair_of` meets its contract.
-- Assumes nothing.

use Rattle.counts.specs.Counts.{pair_of}
use borrow.Author.Rules.{rules}
use Rattle.counts.proofs.pair_of.Goals as goal

pub returns : goal.returns
unfolding pair_of
returns c = search rules
