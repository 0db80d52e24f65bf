-- `call_summary::summary_fits` meets its contract.
-- Assumes nothing.

use mathlib.Core.Path.{refl, ap}
use Prim.Native.Nat.{ℕ}
use native.Mathlib.Omega.{arith}
use lib.Dec.{eqb}
use Rattle.catalogue_standings.proofs.Limits.{fits}
use Rattle.catalogue_standings.proofs.Tested.{fails, holds}
use Rattle.call_summary.specs.Answers.{summary_fits}
use Rattle.call_summary.proofs.summary_fits.Goals as goal

pub returns-then-not-shape_fits : goal.returns-then-not-shape_fits
unfolding summary_fits
returns-then-not-shape_fits c = rw (fails c.shape_fits.ensures c.if-not-shape_fits.true-raw) refl

pub summary_len-requires : goal.summary_len-requires
summary_len-requires c = let a = c.args in
    let f = fits a.n a.free a.maplen (holds c.shape_fits.ensures c.if-not-shape_fits.false-raw) in
    omega (arith, f.words, f.limit)

pub returns : goal.returns
unfolding summary_fits
returns c = rw (holds c.shape_fits.ensures c.if-not-shape_fits.false-raw)
    (ap (λ (x : ℕ). eqb c.args.summarylen x) c.summary_len.ensures)
