-- `any_size::passes` meets its contract, test by test.
-- Assumes nothing.
use Rattle.std.proofs.Common.{◌∙◌, length}
use Rattle.image_soundness.proofs.Tested.{tested_long, tested_unlike, tested_windows}
use Rattle.image_windows.proofs.any_size.passes.Goals as goal

pub returns-then-scratch-gt-SCRATCH : goal.returns-then-scratch-gt-SCRATCH
returns-then-scratch-gt-SCRATCH c = tested_long _ _ _ _ _ c.if-scratch-gt-SCRATCH.true

pub returns-then-ne : goal.returns-then-ne
returns-then-ne c =
    let a = c.args in
    tested_unlike a.map.now a.catalogue.now (length a.scratch.now) a.n a.blocks c.if-scratch-gt-SCRATCH.false _
    c.tally_entries.ensures _ c.ne.ensures c.if-ne.true

pub returns : goal.returns
returns c =
    let a = c.args in
    c.test_windows.ensures ∙ tested_windows a.map.now a.catalogue.now (length a.scratch.now) a.n a.blocks
    c.if-scratch-gt-SCRATCH.false _ c.tally_entries.ensures _ c.ne.ensures c.if-ne.false
