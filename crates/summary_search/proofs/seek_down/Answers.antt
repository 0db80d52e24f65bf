-- `summary_search::seek_down` meets its contract.
-- Assumes nothing.

use Rattle.summary_search.proofs.Ways.{first_ahead}
use Rattle.summary_search.proofs.seek_down.Goals as goal

pub loop-next-init : goal.loop-next-init
loop-next-init c = first_ahead _ _ _ _ c.requires.0 c.requires.1
