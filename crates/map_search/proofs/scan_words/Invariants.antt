-- `map_search::scan_words` meets its contract. The loop's invariant: what is carried from `first` on to `i`.
-- Assumes nothing.

use mathlib.Core.Bool.{Bool}
use Prim.Native.Nat.{ℕ, ◌*◌, ◌<◌, ◌≤◌}
use Rattle.map_search_word.specs.Scan.{Carried}
use Rattle.map_search.specs.Search.{HasBits}
use Rattle.map_search.proofs.scan_words.Given as goal

abbrev pub invariant-loop-i : goal.invariant-loop-i
invariant-loop-i l = (l.carried ≤ l.i * 64) × (l.carried < l.sought.k)
    × ((f : ℕ → Bool) → HasBits l.map l.first l.stop f → Carried f l.sought.k (l.first * 64) l.s
    → Carried f l.sought.k (l.i * 64) l.carried)
