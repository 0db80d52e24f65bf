-- `map_search_placed::far::search_far` meets its contract. The loop's invariant: c is a start, and none before it is a fit.
-- Assumes nothing.

use mathlib.Core.Path.{◌≡◌}
use native.Mathlib.Omega.{arith}
use mathlib.Core.Bool.{Bool, false}
use Prim.Native.Nat.{ℕ, ◌+◌, ◌-◌, ◌*◌, ◌<◌, min}
use Rattle.map_blocks.specs.Blocks.{free, on_step, fit}
use Rattle.map_blocks.proofs.Fits.{mod_on}
use Rattle.map_search_starts.proofs.Steps.{none_ahead}
use Rattle.map_search_near.proofs.Figures.{found_at}
use Rattle.map_search_near.proofs.Figures.{found_none, before_first, past_runs, taken_run}
use Rattle.map_search_placed.proofs.far.search_far.Goals.{After-some_starts-s}
use Rattle.map_search_placed.proofs.far.search_far.Goals as goal

-- no fit starts before the start that is found
none-to : (c : After-some_starts-s) (t : ℕ) → t < c.some_starts-s.result
    → fit (free c.args.map.now)
    c.args.from
    c.args.before
    c.args.step
    c.args.k t ≡ false
none-to c =
    let a = c.args in
    let loop = c.loop-c in
    past_runs (free a.map.now) a.from a.before a.step a.k loop.c c.some_starts-s.result
    c.some_starts-s.ensures.3 loop.invariant.3

pub loop-c-init : goal.loop-c-init
loop-c-init c = let a = c.args in (
  omega arith,
  omega arith,
  c.ahead.ensures.1,
  before_first (free a.map.now) a.from a.before a.step a.k c.ahead.result
      (λ j l. none_ahead a.step a.from c.ahead.result j c.ahead.ensures.1 l c.ahead.ensures.0),
)

pub some_starts-s-requires : goal.some_starts-s-requires
some_starts-s-requires c = let a = c.args in
    let loop = c.loop-c in
    let e : c.min-stop.result ≡ min (a.before - a.k) (loop.c + 7 * a.step) = c.min-stop.ensures in
    (omega arith, omega arith, omega arith, omega arith, omega arith, omega arith, loop.invariant.2)

pub returns-then-s-stop : goal.returns-then-s-stop
returns-then-s-stop c = let a = c.args in
    let loop = c.loop-c in
    let found = c.some_starts-s in
    let e : c.min-stop.result ≡ min (a.before - a.k) (loop.c + 7 * a.step) =
    c.min-stop.ensures in
    found_at (free a.map.now) a.from a.before a.step
    a.k found.result (omega arith)
    (record {
      low = omega arith;
      high = omega arith;
      free = found.ensures.4 c.if-s-stop.true;
      placed = mod_on a.step found.result found.ensures.2;
    }) (none-to (goal.at.returns-then-s-stop c).After-some_starts-s)

pub returns-then-last-s : goal.returns-then-last-s
returns-then-last-s c = let a = c.args in
    found_none (free a.map.now) a.from a.before a.step a.k
    c.some_starts-s.result (omega arith)
    (none-to (goal.at.returns-then-last-s c).After-some_starts-s)

pub past_taken-c-requires : goal.past_taken-c-requires
past_taken-c-requires c = (omega arith, omega arith, omega arith, omega arith, omega arith, c.some_starts-s.ensures.2)

pub loop-c-smaller : goal.loop-c-smaller
loop-c-smaller c = let a = c.args in
    let loop = c.loop-c in
    let e : c.min-stop.result ≡ min (a.before - a.k) (loop.c + 7 * a.step) =
    c.min-stop.ensures in
    omega arith

pub loop-c-preserved : goal.loop-c-preserved
loop-c-preserved c = let a = c.args in
    let here = c in
    let loop = c.loop-c in
    let g : ℕ → Bool = free a.map.now in
    let s : ℕ = here.some_starts-s.result in (
      omega arith,
      omega arith,
      c.past_taken-c.ensures.2,
      past_runs g a.from a.before a.step a.k s c.past_taken-c.result
          (taken_run (on_step a.step) g a.k s c.past_taken-c.result (omega arith) c.past_taken-c.ensures.3)
          (none-to (goal.at.loop-c-preserved c).After-some_starts-s),
    )

pub returns : goal.returns
returns c = let a = c.args in
    let loop = c.loop-c in
    found_none (free a.map.now) a.from a.before a.step a.k loop.c (omega arith)
    loop.invariant.3
