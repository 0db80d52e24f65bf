-- `write_sealed` meets its contract: the first 504 bytes and the stores of A and B leave the sealed block.
-- Assumes nothing.

use Rattle.block_seals.proofs.Sealing.{seals}
use Rattle.block_seals.proofs.write_sealed.Goals as goal

pub returns : goal.returns
returns c = seals c.args.block.now _ _ _ c.args.payload.now c.args.sheet c.args.place _ _
    c.requires.0 c.requires.1
    c.write_front.ensures c.sums_of-s.ensures.0 c.sums_of-s.ensures.1 c.put4.ensures
    c.put4-2.ensures
