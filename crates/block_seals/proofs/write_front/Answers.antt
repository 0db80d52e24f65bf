-- `write_front` meets its contract: its three stores leave the first 504 bytes of the sealed block.
-- Assumes nothing.

use Rattle.block_seals.proofs.Sealing.{fronts}
use Rattle.block_seals.proofs.write_front.Goals as goal

pub returns : goal.returns
returns c = fronts c.args.first.now _ _ _ c.args.payload.now c.args.sheet c.args.place c.requires.0
    c.put4.ensures c.put4-2.ensures c.copy.ensures
