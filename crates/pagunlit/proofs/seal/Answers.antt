-- `pagunlit::seal` meets its contract: it is what `block::seal` ensures.
-- Assumes nothing.

use Rattle.pagunlit.proofs.seal.Goals as goal

pub returns : goal.returns
returns c = c.seal.ensures
