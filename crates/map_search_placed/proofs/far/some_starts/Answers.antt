-- `map_search_placed::far::some_starts` meets its contract. The loop's invariant: s is a start, and no run starts from c to s.
-- Assumes nothing.

use mathlib.Core.Path.{sym, subst}
use native.Mathlib.Omega.{arith}
use mathlib.Core.Bool.{Bool}
use Prim.Native.Nat.{ℕ, ◌+◌, ◌≤◌}
use Rattle.map_blocks.specs.Blocks.{free, on_step}
use Rattle.map_blocks.proofs.Fits.{Spaced, spaced}
use Rattle.map_search_starts.specs.Starts.{NoRun}
use Rattle.map_search_near.proofs.Figures.{sum, no_run_after, taken_run, run_past, space_fits}
use Rattle.map_search_placed.proofs.far.some_starts.Goals.{After-open_start-a, After-past_run}
use Rattle.map_search_placed.proofs.far.some_starts.Goals as goal

-- no run starts before the start that is open
before-open : (c : After-open_start-a)
    → NoRun (on_step c.args.step) (free c.args.map.now)
    c.args.k c.args.c c.open_start-a.result
before-open c =
    let a = c.args in
    let loop = c.loop-s in
    no_run_after (on_step a.step) (free a.map.now) a.k a.c loop.s c.open_start-a.result loop.invariant.3
    (taken_run (on_step a.step) (free a.map.now) a.k loop.s c.open_start-a.result (omega arith)
    c.open_start-a.ensures.3)

-- what the space says
space-says : (c : After-past_run)
    → Spaced (free c.args.map.now)
    c.open_start-a.result
    (c.open_start-a.result
    + c.args.k)
    c.space-r.result
space-says c =
    let here = c in
    let a = here.args in
    let g : ℕ → Bool = free a.map.now in
    let s : ℕ = here.open_start-a.result in
    subst (Spaced g s (s + a.k)) (sym c.space-r.ensures) (spaced g s (s + a.k) (omega arith))

pub loop-s-init : goal.loop-s-init
loop-s-init c = (omega arith, omega arith, c.requires.6, λ t a b. absurd (omega arith))

pub returns-then-stop-a : goal.returns-then-stop-a
returns-then-stop-a c = let a = c.args in
    let opened = c.open_start-a in
    let before = before-open (goal.at.returns-then-stop-a c).After-open_start-a in
    (omega arith, omega arith, opened.ensures.2, before, λ h. absurd (omega arith))

pub returns-then-r-k : goal.returns-then-r-k
returns-then-r-k c = let here = c in
    let a = here.args in
    let g : ℕ → Bool = free a.map.now in
    let s : ℕ = here.open_start-a.result in
    let told : Spaced g s (s + a.k) c.space-r.result =
    subst (Spaced g s (s + a.k)) (sym c.space-r.ensures) (spaced g s (s + a.k) (omega arith)) in (
      omega arith,
      omega arith,
      here.open_start-a.ensures.2,
      before-open (goal.at.returns-then-r-k c).After-open_start-a,
      λ h. space_fits g s a.k c.space-r.result c.if-r-k.true told,
    )

pub past_run-requires : goal.past_run-requires
past_run-requires c = let here = c in
    let a = here.args in
    let g : ℕ → Bool = free a.map.now in
    let s : ℕ = here.open_start-a.result in
    let told : Spaced g s (s + a.k) c.space-r.result =
    subst (Spaced g s (s + a.k)) (sym c.space-r.ensures) (spaced g s (s + a.k) (omega arith)) in
    let l : s + c.space-r.result ≤ s + a.k = told.within in
    (omega arith, omega arith, omega arith)

pub overflow_add-s : goal.overflow_add-s
overflow_add-s c = let told = space-says (goal.at.overflow_add-s c).After-past_run in omega (arith, told.within)

pub loop-s-smaller : goal.loop-s-smaller
loop-s-smaller c = let told = space-says (goal.at.loop-s-smaller c).After-past_run in omega (arith, told.within)

pub loop-s-preserved : goal.loop-s-preserved
loop-s-preserved c = let here = c in
    let a = here.args in
    let g : ℕ → Bool = free a.map.now in
    let s : ℕ = here.open_start-a.result in
    let r : ℕ = c.space-r.result in
    let told : Spaced g s (s + a.k) r = space-says (goal.at.loop-s-preserved c).After-past_run in
    let l : s + r ≤ s + a.k = told.within in
    let x : ℕ = c.past_run.result in (
      omega arith,
      omega arith,
      sum a.step s x here.open_start-a.ensures.2 c.past_run.ensures.2,
      no_run_after (on_step a.step) g a.k a.c s (s + x) (before-open (goal.at.loop-s-preserved c).After-open_start-a)
          (run_past g a.step a.k s r x here.open_start-a.ensures.2 (omega arith) told c.past_run.ensures.3),
    )

pub returns : goal.returns
returns c =
    let i = c.loop-s.invariant in
    (i.0, i.1, i.2, i.3, λ h. absurd (omega arith))
