-- `summary::halves_agree` meets its contract.
-- Assumes nothing.

use Rattle.std.proofs.Common.{rules}
use Rattle.summary.specs.Walks.{halves_of}
use Rattle.summary.proofs.halves_agree.Goals as goal

pub returns : goal.returns
unfolding halves_of
returns c = search rules
