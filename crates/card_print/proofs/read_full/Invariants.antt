-- What is read stays within the bytes, and each turn that goes on reads something.
use Rattle.std.proofs.Common.{◌-◌, ◌≤◌, length}
use Rattle.card_print.proofs.read_full.Given as goal

abbrev pub invariant-loop-at : goal.invariant-loop-at
invariant-loop-at l = l.at ≤ length l.bytes

abbrev pub decreases-loop-at : goal.decreases-loop-at
decreases-loop-at l = length l.bytes - l.at
