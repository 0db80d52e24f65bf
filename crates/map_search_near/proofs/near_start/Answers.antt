-- `map_search_near::near_start` meets its contract.
-- Assumes nothing.

use native.Mathlib.Omega.{arith}
use Prim.Native.Nat.{ℕ, ◌+◌, ◌-◌, ◌*◌, ◌/◌}
use Rattle.map_blocks.specs.Blocks.{free, on_step}
use Rattle.map_search_near.proofs.Figures.{run_after}
use Rattle.map_search_near.proofs.near_start.Goals as goal

pub near_last-requires : goal.near_last-requires
near_last-requires c =
    let start = c in
    record {
      c_bound = (omega arith, omega arith, omega arith);
      no_run = λ t u v. absurd (omega arith);
    }

pub returns-then-end-c : goal.returns-then-end-c
returns-then-end-c c = c.near_last.ensures

pub near_groups-requires : goal.near_groups-requires
near_groups-requires c = (omega arith, omega arith, omega arith)

pub returns-in-Some : goal.returns-in-Some
returns-in-Some c = let a = c.args in
    let last : ℕ = (a.before - 1) / 64 * 64 in
    run_after (on_step a.sought.step) (free a.map.now) a.sought.k a.c a.c last (last + 64) c.in-Some.start
    (omega arith) (omega arith) (λ t u v. absurd (omega arith))
    c.in-Some.ensures

pub near_last-requires-2 : goal.near_last-requires-2
near_last-requires-2 c = let a = c.args in
    record {
      c_bound = (omega arith, omega arith, omega arith);
      no_run = c.in_default.ensures;
    }

pub returns : goal.returns
returns c = c.near_last-2.ensures
