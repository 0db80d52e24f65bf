-- `map_search::groups::any_of` meets its contract. The loop's invariant: `any` has the bits of what f told of each word passed.
-- Assumes nothing.

use Rattle.std.proofs.Common.{◌≡◌, true, ℕ, ◌<◌, ◌≤◌}
use Rattle.map_blocks.specs.Words.{has_all}
use Rattle.map_search.proofs.groups.any_of.Given as goal

abbrev pub invariant-loop-t : goal.invariant-loop-t
invariant-loop-t g l =
    (t : ℕ) → l.first ≤ t → t < l.t → (v : ℕ) × goal.F-post g l.f t v × (has_all l.any v ≡ true)
