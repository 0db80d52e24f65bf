-- `lengths` meets its contract. The invariant: the sum so far and that of the entries left are the whole, and each entry passed
-- added 2^32 at the most.
-- Assumes nothing.
use Rattle.std.proofs.Common.{◌≡◌, ◌+◌, ◌≤◌, ◌*◌, length}
use Rattle.std.specs.List.{sum_by}
use Rattle.catalogue.specs.declared.Entry.{Entry}
use Rattle.catalogue_wings.proofs.lengths.Given as goal

abbrev pub invariant-loop-rest : goal.invariant-loop-rest
invariant-loop-rest l = (l.sum + sum_by (λ (e : Entry). e.length) l.rest ≡ sum_by (λ (e : Entry). e.length) l.entries)
    × (l.sum + length l.rest * 4294967296 ≤ 128 * 4294967296)

abbrev pub decreases-loop-rest : goal.decreases-loop-rest
decreases-loop-rest l = length l.rest
