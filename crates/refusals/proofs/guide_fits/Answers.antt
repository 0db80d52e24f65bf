-- `refusals::guide_fits` meets its contract.
-- Assumes nothing.

use mathlib.Core.Path.{refl, ap}
use Prim.Native.Nat.{ℕ}
use lib.Dec.{eqb}
use borrow.Author.Tests.{lt-leb, le-leb, not-true, not-false}
use Rattle.refusals.proofs.guide_fits.Goals as goal

pub returns-then-not-guided : goal.returns-then-not-guided
returns-then-not-guided c = rw (not-true c.args.guided c.if-not-guided.true-raw) refl

pub returns-then-maplen-gt4096 : goal.returns-then-maplen-gt4096
returns-then-maplen-gt4096 c = let a = c.args in
    rw (not-false a.guided c.if-not-guided.false-raw, lt-leb a.maplen 4096 c.if-maplen-gt4096.true) refl

pub returns : goal.returns
returns c = let a = c.args in
    rw (not-false a.guided c.if-not-guided.false-raw, le-leb a.maplen 4096 c.if-maplen-gt4096.false)
    (ap (λ (x : ℕ). eqb a.summarylen x) c.summary_len.ensures)
