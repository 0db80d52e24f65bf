-- `verdict` meets its contract, row by row.
-- Assumes nothing.
use Rattle.std.proofs.Common.{sym, ◌∙◌, arith}
use Rattle.roles.specs.Roles as names
use Rattle.roles.specs.Roles.{turned_away}
use Rattle.image.proofs.Fitting.{save_fits_to}
use Rattle.image_save.proofs.SaveRows.{save_row_21, save-row-1, save-row-4, save-row-12, save-row-none, save_tested}
use Rattle.image_save.proofs.verdict.Goals as goal

pub returns-then-turned_away : goal.returns-then-turned_away
returns-then-turned_away c =
    let a = c.args in
    save_row_21 (turned_away a.role names.save) a.n a.free a.map.now a.catalogue.now a.scratch.now a.image.now
    (sym c.turned_away.ensures ∙ c.if-turned_away.true)

pub returns-then-not-save_fits : goal.returns-then-not-save_fits
returns-then-not-save_fits c =
    let a = c.args in
    save-row-1 (turned_away a.role names.save) a.n a.free a.map.now a.catalogue.now a.scratch.now a.image.now
    (sym c.turned_away.ensures ∙ c.if-turned_away.false) (sym c.save_fits.ensures ∙ c.if-not-save_fits.true)

pub returns-then-not-test_state : goal.returns-then-not-test_state
returns-then-not-test_state c =
    let a = c.args in
    let t = sym c.turned_away.ensures ∙ c.if-turned_away.false in
    let f = sym c.save_fits.ensures ∙ c.if-not-save_fits.false in
    save-row-4 (turned_away a.role names.save) a.n a.free a.map.now a.catalogue.now a.scratch.now a.image.now t f
    (sym (save_tested (turned_away a.role names.save) a.n a.free a.map.now a.catalogue.now a.scratch.now a.image.now t f _
    c.checked_sub.ensures) ∙ sym c.test_state.ensures.0 ∙ c.if-not-test_state.true)

pub frames_for-requires : goal.frames_for-requires
frames_for-requires c =
    let s = save_fits_to _ _ _ _ _ (sym c.save_fits.ensures ∙ c.if-not-save_fits.false) in
    (s.limits.limit, s.count.few)

pub overflow_mul-frames_for : goal.overflow_mul-frames_for
overflow_mul-frames_for c =
    let s = save_fits_to _ _ _ _ _ (sym c.save_fits.ensures ∙ c.if-not-save_fits.false) in
    omega (arith, s.limits.limit, s.count.few)

pub returns-then-image-frames_for : goal.returns-then-image-frames_for
returns-then-image-frames_for c =
    let a = c.args in
    let t = sym c.turned_away.ensures ∙ c.if-turned_away.false in
    let f = sym c.save_fits.ensures ∙ c.if-not-save_fits.false in
    save-row-12 (turned_away a.role names.save) a.n a.free a.map.now a.catalogue.now a.scratch.now a.image.now t f
    (sym (save_tested (turned_away a.role names.save) a.n a.free a.map.now a.catalogue.now a.scratch.now a.image.now t f _
    c.checked_sub.ensures) ∙ sym c.test_state.ensures.0 ∙ c.if-not-test_state.false)
    _ c.frames_for.ensures c.if-image-frames_for.true

pub returns : goal.returns
returns c =
    let a = c.args in
    let t = sym c.turned_away.ensures ∙ c.if-turned_away.false in
    let f = sym c.save_fits.ensures ∙ c.if-not-save_fits.false in
    save-row-none (turned_away a.role names.save) a.n a.free a.map.now a.catalogue.now a.scratch.now a.image.now t f
    (sym (save_tested (turned_away a.role names.save) a.n a.free a.map.now a.catalogue.now a.scratch.now a.image.now t f _
    c.checked_sub.ensures) ∙ sym c.test_state.ensures.0 ∙ c.if-not-test_state.false)
    _ c.frames_for.ensures c.if-image-frames_for.false
