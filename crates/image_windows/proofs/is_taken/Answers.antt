-- `is_taken` meets its contract.
-- Assumes nothing.

use Rattle.std.proofs.Common.{◌∙◌}
use Rattle.image_soundness.proofs.Steps.{taken_short, taken_all}
use Rattle.image_windows.proofs.is_taken.Goals as goal

pub returns-then-scratch-s : goal.returns-then-scratch-s
returns-then-scratch-s c = taken_short _ _ _ c.if-scratch-s.true

pub returns : goal.returns
returns c = c.all_marked.ensures ∙ taken_all _ _ _ c.if-scratch-s.false
