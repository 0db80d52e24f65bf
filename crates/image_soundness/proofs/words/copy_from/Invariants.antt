-- `words::copy_from` meets its contract. The loop's invariant: the words before i are those of the map.
-- Assumes nothing.

use mathlib.Core.Path.{◌≡◌}
use Prim.Native.Nat.{ℕ, ◌+◌, ◌<◌}
use lib.ListN.{get_or}
use Rattle.image_soundness.proofs.words.copy_from.Given as goal

abbrev pub invariant-loop-i : goal.invariant-loop-i
invariant-loop-i l = (j : ℕ) → j < l.i → get_or l.to j 0 ≡ get_or l.map (l.a + j) 0
