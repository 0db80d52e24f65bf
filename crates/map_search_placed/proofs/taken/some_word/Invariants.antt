-- `map_search_placed::taken::some_word` meets its contract. The loop's invariant: the words from `first` to i are 0.
-- Assumes nothing.

use mathlib.Core.Path.{◌≡◌}
use Prim.Native.Nat.{ℕ, ◌≤◌, ◌<◌}
use lib.ListN.{get_or}
use Rattle.map_search_placed.proofs.taken.some_word.Given as goal

abbrev pub invariant-loop-i : goal.invariant-loop-i
invariant-loop-i l = (t : ℕ) → l.first ≤ t → t < l.i → get_or l.map t 0 ≡ 0
