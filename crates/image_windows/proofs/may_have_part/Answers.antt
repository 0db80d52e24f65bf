-- `may_have_part` meets its contract.
-- Assumes nothing.

use Rattle.std.proofs.Common.{sym, arith, ltb-false}
use Rattle.image_soundness.proofs.Steps.{lies_apart}
use Rattle.image_windows.proofs.may_have_part.Goals as goal

pub returns : goal.returns
returns c =
    let w = c.wrapping_sub_usize in
    λ e. sym (lies_apart _ _ w.result (omega arith) w.ensures.value (ltb-false _ _ e))
