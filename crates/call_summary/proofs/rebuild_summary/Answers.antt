-- `call_summary::rebuild_summary` meets its contract.
-- Assumes nothing.

use mathlib.Core.Bool.{false}
use mathlib.Core.Path.{refl, ◌∙◌}
use Rattle.catalogue_standings.specs.Rows.{accepted, refused}
use Rattle.catalogue_standings.proofs.Tested.{fails, holds}
use Rattle.call_summary.proofs.Fits.{lengths, build-told, build-left, shut, passes}
use Rattle.call_summary.proofs.rebuild_summary.Goals as goal

pub returns-then-not-summary_fits : goal.returns-then-not-summary_fits
returns-then-not-summary_fits c = let a = c.args in
    let v = shut a.n a.free a.map.now a.summary.now false refl
    (fails c.summary_fits.ensures c.if-not-summary_fits.true-raw) in (
      c.answer.ensures ∙ build-told a.n a.free a.map.now a.summary.now false (refused 1) v,
      build-left a.n a.free a.map.now a.summary.now false (refused 1) v,
    )

pub build-requires : goal.build-requires
build-requires c = let a = c.args in
    lengths a.n a.free a.map.now a.summary.now
    (holds c.summary_fits.ensures c.if-not-summary_fits.false-raw)

pub returns : goal.returns
returns c = let a = c.args in
    let v = passes a.n a.free a.map.now a.summary.now false refl
    (holds c.summary_fits.ensures
    c.if-not-summary_fits.false-raw) in (
      build-told a.n a.free a.map.now a.summary.now false accepted v,
      c.build.ensures
          ∙ build-left a.n a.free a.map.now a.summary.now false accepted v,
    )
