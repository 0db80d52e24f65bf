-- `release_part` meets its contract.
-- Assumes nothing.

use Rattle.std.proofs.Common.{◌∙◌, sym, arith}
use Rattle.image_soundness.proofs.Parts.{part_past, part-fails, part-releases}
use Rattle.image_soundness.proofs.Steps.{taken_fits}
use Rattle.image_windows.proofs.release_part.Goals as goal

pub returns-then-to-from : goal.returns-then-to-from
returns-then-to-from c = part_past _ _ _ _ _ c.max-from.ensures c.min-to.ensures c.if-to-from.true

pub returns-then-not-is_taken : goal.returns-then-not-is_taken
returns-then-not-is_taken c = part-fails _ _ _ _ _ c.max-from.ensures c.min-to.ensures c.if-to-from.false
    (sym c.is_taken.ensures ∙ c.if-not-is_taken.true)

pub mark-requires : goal.mark-requires
mark-requires c =
    let f = taken_fits _ _ _ (sym c.is_taken.ensures ∙ c.if-not-is_taken.false) in
    (omega (arith, c.min-to.ensures, c.max-from.ensures), f)

pub returns : goal.returns
returns c =
    let r = part-releases _ _ _ _ _ c.max-from.ensures c.min-to.ensures c.if-to-from.false
    (sym c.is_taken.ensures ∙ c.if-not-is_taken.false) in
    (r.0, c.mark.ensures ∙ r.1)
