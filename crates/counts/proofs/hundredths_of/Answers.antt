-- `hundredths_of` meets its contract, and its sums fit 32 bits.
-- Assumes nothing.

use Rattle.counts.proofs.Tests.{sum_told}
use Rattle.counts.proofs.hundredths_of.Goals as goal

pub returns : goal.returns
returns c = sum_told _ _ _ _ _ _ _ _
    c.pair_of.ensures.0
    c.pair_of-2.ensures.0
    c.pair_of-3.ensures.0
    c.pair_of-4.ensures.0
