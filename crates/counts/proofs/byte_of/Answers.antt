-- `byte_of` meets its contract.
-- Assumes nothing.

use Rattle.counts.specs.Counts.{byte_of}
use borrow.Author.Rules.{rules}
use Rattle.counts.proofs.byte_of.Goals as goal

pub returns : goal.returns
unfolding byte_of
returns c = search rules
