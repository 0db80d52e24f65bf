-- A refusal's number is not 0, so that 0 tells of an accepted call.
-- Assumes nothing.
use Rattle.std.specs.Prelude.{◌≡◌}
use Rattle.std.proofs.Common.{arith}
use Rattle.catalogue_standings.specs.Refusals.{number}
use Rattle.catalogue_standings.specs.declared.Refusal.{Refusal}
use Rattle.catalogue_standings.specs.declared.Refusal.TheVariants.{Misfit, NoSuchSheet, WrongLength, Damaged, IsAbsent}
use Rattle.catalogue_standings.specs.declared.Refusal.TheVariants.{IsPaused, IsOpen, IsComplete, NoFit, NotFreeBehind}
use Rattle.catalogue_standings.specs.declared.Refusal.TheVariants.{ImageLength, ImageFrame, ImageContent, WrongFigures}
use Rattle.catalogue_standings.specs.declared.Refusal.TheVariants.{RunTaken, OverShare, NoDate, OutsideTerm, TurnedAway}

pub not_zero : (r : Refusal) → number r ≡ 0 → ⊥
not_zero Misfit e = omega (arith, e)
not_zero NoSuchSheet e = omega (arith, e)
not_zero WrongLength e = omega (arith, e)
not_zero Damaged e = omega (arith, e)
not_zero IsAbsent e = omega (arith, e)
not_zero IsPaused e = omega (arith, e)
not_zero IsOpen e = omega (arith, e)
not_zero IsComplete e = omega (arith, e)
not_zero NoFit e = omega (arith, e)
not_zero NotFreeBehind e = omega (arith, e)
not_zero ImageLength e = omega (arith, e)
not_zero ImageFrame e = omega (arith, e)
not_zero ImageContent e = omega (arith, e)
not_zero WrongFigures e = omega (arith, e)
not_zero RunTaken e = omega (arith, e)
not_zero OverShare e = omega (arith, e)
not_zero NoDate e = omega (arith, e)
not_zero OutsideTerm e = omega (arith, e)
not_zero TurnedAway e = omega (arith, e)
