-- `map_search_word::word::rounds` meets its contract. The loop's invariant: bit j of g says that the `done` bits from j on are
-- 1.
-- Assumes nothing.

use mathlib.Core.Path.{◌≡◌}
use Prim.Native.Nat.{ℕ, ◌≤◌, ◌<◌, ◌-◌}
use Rattle.map_blocks.specs.Blocks.{all}
use Rattle.map_blocks.specs.Words.{bit}
use Rattle.map_search_word.proofs.word.rounds.Given as goal

abbrev pub invariant-loop-done : goal.invariant-loop-done
invariant-loop-done l = (0 < l.done) × (l.done ≤ l.k) × ((w : ℕ) → ((j : ℕ) → bit l.runs j ≡ all (bit w) j l.have) → (j : ℕ)
    → bit l.g j ≡ all (bit w) j l.done)

abbrev pub decreases-loop-done : goal.decreases-loop-done
decreases-loop-done l = l.k - l.done
