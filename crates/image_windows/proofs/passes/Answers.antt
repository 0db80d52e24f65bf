-- `passes` meets its contract, test by test.
-- Assumes nothing.
use Rattle.std.proofs.Common.{◌∙◌, length}
use Rattle.image_soundness.proofs.Tested.{tested_none, state_tested_unlike, state_tested_windows}
use Rattle.image_windows.proofs.passes.Goals as goal

pub returns-in_default : goal.returns-in_default
returns-in_default c =
    let a = c.args in
    tested_none a.map.now a.catalogue.now (length a.scratch.now) a.n a.blocks c.in_default.is

pub returns-then-ne : goal.returns-then-ne
returns-then-ne c =
    let a = c.args in
    state_tested_unlike a.map.now a.catalogue.now (length a.scratch.now) a.n a.blocks _ c.in-Some.is _ c.tally_entries.ensures _
    c.ne.ensures c.if-ne.true

pub returns : goal.returns
returns c =
    let a = c.args in
    c.test_windows.ensures ∙ state_tested_windows a.map.now a.catalogue.now (length a.scratch.now) a.n a.blocks _ c.in-Some.is _
    c.tally_entries.ensures _ c.ne.ensures c.if-ne.false
