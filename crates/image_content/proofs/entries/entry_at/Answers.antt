-- `entries::entry_at` meets its contract.
-- Assumes nothing.

use mathlib.Core.Path.{◌∙◌}
use native.Mathlib.Omega.{arith}
use Rattle.image_content.proofs.EntriesFrom.{entry_together}
use Rattle.image_content.proofs.entries.entry_at.Goals as goal

pub returns-then-k : goal.returns-then-k
returns-then-k c =
    let a = c.args in
    c.entry_here.ensures ∙ entry_together a.image.now a.k _ c.place.ensures (omega arith) (omega arith)
