-- The rows of a run that is asked for, in each case.
-- Assumes nothing.
use mathlib.Core.Path.{◌≡◌, refl, ap}
use mathlib.Core.Bool.{Bool, true, false, not}
use Prim.Native.Nat.{ℕ, ◌≤◌, ◌<◌}
use borrow.Author.Tests.{lt-ltb, le-ltb}
use Rattle.map_blocks.specs.Blocks.{fit}
use Rattle.catalogue_standings.specs.Rows.{accepted, refused}
use Rattle.catalogue_standings.proofs.Openings.{skip, stop, none_left}
use Rattle.refusals.specs.Effects.{run_verdict}

module _ (number : ℕ) (f : ℕ → Bool) (n spare start k : ℕ) where
  pub over_limit_lem : run_verdict number true f n spare start k ≡ refused 18
  unfolding run_verdict
  over_limit_lem = stop 18 _ _ refl

  pub not_free : fit f 0 n 1 k start ≡ false → run_verdict number false f n spare start k ≡ refused number
  unfolding run_verdict
  not_free e = skip 18 _ _ _ refl (stop number _ _ (ap not e))

  pub too_few : fit f 0 n 1 k start ≡ true → spare < k → run_verdict number false f n spare start k ≡ refused 4
  unfolding run_verdict
  too_few e l = skip 18 _ _ _ refl (skip number _ _ _ (ap not e) (stop 4 _ _ (lt-ltb spare k l)))

  pub passes : fit f 0 n 1 k start ≡ true → k ≤ spare → run_verdict number false f n spare start k ≡ accepted
  unfolding run_verdict
  passes e l = skip 18 _ _ _ refl (skip number _ _ _ (ap not e) (skip 4 _ _ _ (le-ltb spare k l) none_left))
