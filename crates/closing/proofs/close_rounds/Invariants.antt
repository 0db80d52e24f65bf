-- After some rounds, catalogue, card and the end of those that have moved are what as many rounds leave.
use Rattle.std.proofs.Common.{◌≡◌}
use Rattle.closing.specs.Rounds.{rounds, stand}
use Rattle.closing.proofs.close_rounds.Given as goal

abbrev pub invariant-loop : goal.invariant-loop
invariant-loop l = rounds l.counter (stand l.initial.catalogue l.initial.card 0) ≡ stand l.catalogue l.card l.at
