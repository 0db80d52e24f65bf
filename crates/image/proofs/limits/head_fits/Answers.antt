-- `limits::head_fits` meets its contract, test by test.
-- Assumes nothing.

use mathlib.Core.Path.{sym, ap, ◌∙◌}
use native.Mathlib.Omega.{arith}
use Rattle.catalogue_standings.proofs.Tested.{fails, holds}
use Rattle.catalogue_standings.specs.Limits.{shape_fits}
use Rattle.image.proofs.Fitting.{head_large, head_unshaped, head-uncounted, head-by-total, sheets_few}
use Rattle.image.proofs.limits.head_fits.Goals as goal

pub returns-then-n-gt-BLOCKS : goal.returns-then-n-gt-BLOCKS
returns-then-n-gt-BLOCKS c = head_large _ _ _ _ (omega arith)

pub returns-then-not-shape_fits : goal.returns-then-not-shape_fits
returns-then-not-shape_fits c =
    let a = c.args in
    head_unshaped a.n a.free a.c a.total
    (ap (shape_fits a.n a.free) (sym c.words_for.ensures)
    ∙ fails c.shape_fits.ensures c.if-not-shape_fits.true-raw)

pub returns-then-not-sheets_fit : goal.returns-then-not-sheets_fit
returns-then-not-sheets_fit c =
    let a = c.args in
    head-uncounted a.n a.free a.c a.total
    (ap (shape_fits a.n a.free) (sym c.words_for.ensures)
    ∙ holds c.shape_fits.ensures c.if-not-shape_fits.false-raw)
    (fails c.sheets_fit.ensures c.if-not-sheets_fit.true-raw)

pub frames_for-requires : goal.frames_for-requires
frames_for-requires c =
    let a = c.args in
    (omega arith, sheets_few a.n a.free a.c a.total (holds c.sheets_fit.ensures c.if-not-sheets_fit.false-raw))

pub returns : goal.returns
returns c =
    let a = c.args in
    head-by-total a.n a.free a.c a.total
    (ap (shape_fits a.n a.free) (sym c.words_for.ensures)
    ∙ holds c.shape_fits.ensures c.if-not-shape_fits.false-raw)
    (holds c.sheets_fit.ensures c.if-not-sheets_fit.false-raw) _ c.frames_for.ensures
