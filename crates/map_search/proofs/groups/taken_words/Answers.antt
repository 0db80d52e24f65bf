-- `map_search::groups::taken_words` meets its contract.
-- Assumes nothing.

use mathlib.Core.Path.{◌≡◌}
use Prim.Native.Nat.{ℕ, ◌≤◌, ◌<◌, ◌+◌}
use native.Mathlib.Omega.{arith}
use Rattle.std.proofs.Common.{rules, get_or}
use Rattle.map_search.proofs.groups.taken_words.Goals as goal

pub returns : goal.returns
returns c = (
  omega arith,
  omega arith,
  λ t a b. let group = c.quiet_groups.ensures.by_index t a b in
      let none : (u : ℕ) → group.0 ≤ u → u < group.0 + 8 → get_or c.args.map.now u 0 ≡ 0 = search (rules, group.5) in
      none t group.1 group.2,
)
