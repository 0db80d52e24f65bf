-- `test_window` meets its contract.
-- Assumes nothing.
use Rattle.std.proofs.Common.{◌∙◌, length}
use Rattle.image_soundness.proofs.Steps.{first_fails, first_holds}
use Rattle.image_soundness.proofs.Windowed.{window_long, state_window_told}
use Rattle.image_windows.proofs.test_window.Goals as goal

pub returns-then-scratch-gt-SCRATCH : goal.returns-then-scratch-gt-SCRATCH
returns-then-scratch-gt-SCRATCH c =
    let a = c.args in
    window_long a.map.now a.catalogue.now (length a.scratch.now) a.n a.lo c.if-scratch-gt-SCRATCH.true

pub returns-then-stand : goal.returns-then-stand
returns-then-stand c =
    let a = c.args in
    let r = c.release_parts-stand.ensures in
    c.is_fresh.ensures ∙ first_holds _ _ c.if-stand.true
    ∙ state_window_told a.map.now a.catalogue.now (length a.scratch.now) a.n a.lo _ _ _
    c.if-scratch-gt-SCRATCH.false c.copy_from.ensures r.0 r.1

pub returns-else-stand : goal.returns-else-stand
returns-else-stand c =
    let a = c.args in
    let r = c.release_parts-stand.ensures in
    c.if-stand.false ∙ first_fails _ _ c.if-stand.false
    ∙ state_window_told a.map.now a.catalogue.now (length a.scratch.now) a.n a.lo _ _ _
    c.if-scratch-gt-SCRATCH.false c.copy_from.ensures r.0 r.1
