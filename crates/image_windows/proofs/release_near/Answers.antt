-- `release_near` meets its contract.
-- Assumes nothing.

use Rattle.std.proofs.Common.{◌&&◌, Bool, sym, ap}
use Rattle.image_soundness.proofs.Parts.{step_past}
use Rattle.image_soundness.proofs.Steps.{second_holds}
use Rattle.image_windows.proofs.release_near.Goals as goal

pub returns-then-not-may_have_part : goal.returns-then-not-may_have_part
returns-then-not-may_have_part c =
    let p = step_past _ _ _ (c.may_have_part.ensures c.if-not-may_have_part.true) in
    (second_holds c.args.stand _ (sym p.0), p.1)

pub returns : goal.returns
returns c =
    let r = c.release_part.ensures in
    (ap (λ (b : Bool). c.args.stand && b) r.0, r.1)
