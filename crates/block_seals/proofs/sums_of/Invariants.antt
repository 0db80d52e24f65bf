-- `sums_of` meets its contract. The invariant: going on over the rest from the A and B so far, reduced, gives the sums of the
-- whole.
-- Assumes nothing.

use mathlib.Core.Path.{◌≡◌}
use Prim.Native.Nat.{◌≤◌, ◌*◌, ◌+◌, ◌%◌}
use lib.ListN.{drop}
use Rattle.block_seals.specs.Sealed.{sums}
use Rattle.block_seals.proofs.sums_of.Given as goal

abbrev pub invariant-loop-i : goal.invariant-loop-i
invariant-loop-i l = (l.i ≤ 504)
    × (l.i % 2 ≡ 0)
    × (sums ((1 + l.even + l.odd) % 65521) ((l.i + 2 * (l.evens + l.odds + l.even) + l.odd) % 65521) (drop l.i l.s)
    ≡ sums 1 0 l.s)
    × (2 * l.even ≤ 255 * l.i)
    × (2 * l.odd ≤ 255 * l.i)
    × (l.evens ≤ 32130 * l.i)
    × (l.odds ≤ 32130 * l.i)
