-- `map_search_near::near_groups` meets its contract. The loop's invariant: no run starts from c to `at`.
-- Assumes nothing.

use mathlib.Core.Path.{refl}
use native.Mathlib.Omega.{arith}
use mathlib.Core.Bool.{Bool}
use Prim.Native.Nat.{ℕ, ◌*◌}
use Rattle.map_blocks.specs.Blocks.{free, on_step}
use Rattle.map_search_near.proofs.Figures.{run_after, no_run_after}
use Rattle.map_search_near.proofs.near_groups.Goals as goal

pub often-mostly-requires : goal.often-mostly-requires
often-mostly-requires c = (omega arith, refl, c.args.sought.starts.2)

pub loop-at-init : goal.loop-at-init
loop-at-init c = (omega arith, omega arith, λ t u v. absurd (omega arith))

pub near_words-requires : goal.near_words-requires
near_words-requires c = (omega arith, omega arith, omega arith, refl)

pub returns-in-Some : goal.returns-in-Some
returns-in-Some c = let a = c.args in
    let loop = c.loop-at in
    let end : ℕ = c.group_end-end.result * 64 in
    run_after (on_step a.sought.step) (free a.map.now) a.sought.k a.c loop.at end (a.stop * 64) c.in-Some.start (omega arith)
    (omega arith)
    loop.invariant.2
    c.in-Some.ensures

pub quiet_words-requires : goal.quiet_words-requires
quiet_words-requires c = (
  omega arith,
  omega arith,
  omega arith,
  c.often-mostly.ensures,
)

pub loop-at-smaller : goal.loop-at-smaller
loop-at-smaller c = let end = c.group_end-end in
    let quiet = c.quiet_words in
    omega arith

pub loop-at-preserved : goal.loop-at-preserved
loop-at-preserved c = let a = c.args in
    let loop = c.loop-at in
    let end : ℕ = c.group_end-end.result in
    let i : ℕ = c.quiet_words.result in
    let g : ℕ → Bool = free a.map.now in (
      omega arith,
      omega arith,
      no_run_after (on_step a.sought.step) g a.sought.k a.c (end * 64) (i * 64)
          (no_run_after (on_step a.sought.step) g a.sought.k a.c loop.at (end * 64) loop.invariant.2
          c.in_default.ensures)
          c.quiet_words.ensures.by_index,
    )

pub returns : goal.returns
returns c = λ t u v. c.loop-at.invariant.2 t u (omega arith)
