-- `refusals_rulings::run_ruling` meets its contract: each way out by its row.
-- Assumes nothing.

use mathlib.Core.Path.{◌≡◌, refl, ap, ◌∙◌}
use mathlib.Core.Bool.{Bool, true, false}
use Prim.Native.Nat.{ℕ}
use Rattle.map_blocks.specs.Blocks.{free}
use Rattle.catalogue_standings.specs.Refusals.{number}
use Rattle.catalogue_standings.specs.Rows.{Verdict, accepted, refused}
use Rattle.catalogue_standings.proofs.Tested.{fails, holds}
use Rattle.refusals.specs.Effects.{run_verdict}
use Rattle.refusals.proofs.Runs.{over_limit_lem, not_free, too_few, passes}
use Rattle.refusals_rulings.proofs.run_ruling.Goals as goal

-- what was tested is the contract's
module _ (number : ℕ) (f : ℕ → Bool) (n spare start k : ℕ) where
  tested : (over t : Bool) (v : Verdict) → over ≡ t → run_verdict number t f n spare start k ≡ v
      → run_verdict number over f n spare start k ≡ v
  tested over t v e h = ap (λ (o : Bool). run_verdict number o f n spare start k) e ∙ h

pub returns-then-over : goal.returns-then-over
returns-then-over c =
    let a = c.args in (
      tested (number a.taken) (free a.map.now) a.n a.free a.start a.k a.over true (refused 18) c.if-over.true
          (over_limit_lem (number a.taken) (free a.map.now) a.n a.free a.start a.k),
      tt,
    )

pub returns-then-not-run_is_free : goal.returns-then-not-run_is_free
returns-then-not-run_is_free c =
    let a = c.args in (
      tested (number a.taken) (free a.map.now) a.n a.free a.start a.k a.over false (refused (number a.taken)) c.if-over.false
          (not_free (number a.taken) (free a.map.now) a.n a.free a.start a.k
          (fails c.run_is_free.ensures c.if-not-run_is_free.true-raw)),
      tt,
    )

pub returns-then-free-k : goal.returns-then-free-k
returns-then-free-k c =
    let a = c.args in (
      tested (number a.taken) (free a.map.now) a.n a.free a.start a.k a.over false (refused 4) c.if-over.false
          (too_few (number a.taken) (free a.map.now) a.n a.free a.start a.k
          (holds c.run_is_free.ensures c.if-not-run_is_free.false-raw) c.if-free-k.true),
      tt,
    )

pub returns : goal.returns
returns c =
    let a = c.args in (
      tested (number a.taken) (free a.map.now) a.n a.free a.start a.k a.over false accepted c.if-over.false
          (passes (number a.taken) (free a.map.now) a.n a.free a.start a.k
          (holds c.run_is_free.ensures c.if-not-run_is_free.false-raw) c.if-free-k.false),
      refl,
    )
