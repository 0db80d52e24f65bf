-- `map_search::groups::quiet_groups` meets its contract. The loop's invariant: `quiet` held of each eight words passed.
-- Assumes nothing.

use Rattle.std.proofs.Common.{true, ℕ, ◌+◌, ◌-◌, ◌<◌, ◌≤◌}
use Rattle.map_search.proofs.groups.quiet_groups.Given as goal

abbrev pub invariant-loop-i : goal.invariant-loop-i
invariant-loop-i g l = (l.first ≤ l.i) × (l.i ≤ l.stop) × ((t : ℕ) → l.first ≤ t → t < l.i
    → (i : ℕ) × (i ≤ t) × (t < i + 8) × (l.first ≤ i) × (i + 8 ≤ l.i) × goal.F-post g l.quiet i true)

abbrev pub decreases-loop-i : goal.decreases-loop-i
decreases-loop-i g l = l.stop - l.i
