-- `map_search_near::quiet_words` meets its contract.
-- Assumes nothing.

use native.Mathlib.Omega.{arith}
use Prim.Native.Nat.{◌+◌, ◌*◌, ◌/◌}
use Rattle.std.proofs.Common.{rules}
use Rattle.map_blocks.specs.Blocks.{free, on_step}
use Rattle.map_search_starts.specs.Starts.{NoRun}
use Rattle.map_search_near.proofs.quiet_words.Goals as goal

pub returns : goal.returns
returns c = record {
  lower_bound = (omega arith, omega arith);
  by_index = λ t a b on.
      let group = c.quiet_groups.ensures.by_index (t / 64) (omega arith) (omega arith) in
      let none : NoRun (on_step c.args.sought.step) (free c.args.map.now) c.args.sought.k (group.0 * 64)
      ((group.0 + 8) * 64) = search (rules, group.5) in
      none t (omega (arith, group.1)) (omega (arith, group.2)) on;
}
