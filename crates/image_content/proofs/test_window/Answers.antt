-- `test_window` meets its contract.
-- Assumes nothing.
use Rattle.std.proofs.Common.{◌∙◌, length}
use Rattle.image.specs.Image.{entries_in, map_in}
use Rattle.image_soundness.proofs.Steps.{first_fails, first_holds}
use Rattle.image_soundness.proofs.Windowed.{state_window_told}
use Rattle.image_content.proofs.test_window.Goals as goal

pub returns-then-stand : goal.returns-then-stand
returns-then-stand c =
    let a = c.args in
    let r = c.release_in-stand.ensures in
    c.is_fresh.ensures ∙ first_holds _ _ c.if-stand.true
    ∙ state_window_told (map_in a.image.now a.n a.c) (entries_in a.image.now a.c) (length a.scratch.now) a.n a.lo _ _ _
    c.requires.4 c.fill_in.ensures r.0 r.1

pub returns-else-stand : goal.returns-else-stand
returns-else-stand c =
    let a = c.args in
    let r = c.release_in-stand.ensures in
    c.if-stand.false ∙ first_fails _ _ c.if-stand.false
    ∙ state_window_told (map_in a.image.now a.n a.c) (entries_in a.image.now a.c) (length a.scratch.now) a.n a.lo _ _ _
    c.requires.4 c.fill_in.ensures r.0 r.1
