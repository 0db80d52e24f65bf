-- What is found so far and what is still to be looked at give the nearest.
use Rattle.std.proofs.Common.{◌≡◌, ◌<◌, drop}
use Rattle.std.specs.Prelude.{None, IfSome}
use Rattle.closing.specs.Rounds.{found_of, nearest_from}
use Rattle.closing.proofs.Rounded.{Before}
use Rattle.closing.proofs.nearest.Given as goal

abbrev pub invariant-loop-sheet : goal.invariant-loop-sheet
invariant-loop-sheet l =
    (nearest_from l.at l.sheet (drop l.sheet l.catalogue) (found_of l.catalogue l.nearest)
    ≡ nearest_from l.at 0 l.catalogue None)
    × IfSome l.nearest (λ i. i < l.sheet)
    × Before (found_of l.catalogue l.nearest) l.before
