-- `entries::entry_across` meets its contract.
-- Assumes nothing.

use Rattle.image_content.proofs.EntriesFrom.{entry_across}
use Rattle.image_content.proofs.entries.entry_across.Goals as goal

pub returns : goal.returns
returns c =
    entry_across c.args.image.now c.args.k _ _ _ c.number.ensures c.number-2.ensures c.number-3.ensures
