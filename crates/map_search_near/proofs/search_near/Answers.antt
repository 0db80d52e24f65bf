-- `map_search_near::search_near` meets its contract. The loop's invariant: no fit starts before c.
-- Assumes nothing.

use mathlib.Core.Path.{◌≡◌, sym, ap, ◌∙◌, subst}
use native.Mathlib.Omega.{arith}
use mathlib.Core.Bool.{Bool, false}
use Prim.Native.Nat.{ℕ, ◌+◌, ◌-◌, ◌*◌, ◌/◌, ◌≤◌, ◌<◌, min}
use Rattle.map_blocks.specs.Blocks.{free, all, on_step, fit}
use Rattle.map_blocks.proofs.Fits.{Spaced, spaced}
use Rattle.map_search_starts.specs.Starts.{NoRun, FirstRun}
use Rattle.map_search_near.proofs.Figures.{found_at, found_none}
use Rattle.map_search_near.proofs.Figures.{past_runs, past_block, before_from, no_longer, space_fits}
use Rattle.map_search_near.proofs.search_near.Goals.{In_ok-s, After-space-r}
use Rattle.map_search_near.proofs.search_near.Goals as goal

-- the run that is found, at a start of the step asked for
found : (c : In_ok-s) → FirstRun (on_step c.args.step) (free c.args.map.now) c.new-sought.result.k c.loop-c.c
    ((c.args.before - 1) / 64 * 64 + 64) c.in_ok-s.s
found c = subst (λ (x : ℕ). FirstRun (on_step x) (free c.args.map.now) c.new-sought.result.k c.loop-c.c
    ((c.args.before - 1) / 64 * 64 + 64) c.in_ok-s.s) c.new-sought.ensures.0 c.in_ok-s.ensures

-- no fit starts before the start that is found
none-to : (c : In_ok-s) (t : ℕ) → t < c.in_ok-s.s
    → fit (free c.args.map.now)
    c.args.from
    c.args.before
    c.args.step
    c.args.k t ≡ false
none-to c =
    let a = c.args in
    let loop = c.loop-c in
    let g : ℕ → Bool = free a.map.now in
    let few : ℕ = c.new-sought.result.k in
    let is : few ≡ min a.k 64 = c.new-sought.ensures.1 in
    past_runs g a.from a.before a.step a.k loop.c c.in_ok-s.s
    (no_longer (on_step a.step) g few a.k loop.c c.in_ok-s.s (omega arith) (found c).none)
    loop.invariant.2

-- what the space says
space-says : (c : After-space-r)
    → Spaced (free c.args.map.now)
    c.in_ok-s.s
    (c.in_ok-s.s +
    c.args.k) c.space-r.result
space-says c =
    let a = c.args in
    let g : ℕ → Bool = free a.map.now in
    let s : ℕ = c.in_ok-s.s in
    subst (Spaced g s (s + a.k)) (sym c.space-r.ensures) (spaced g s (s + a.k) (omega arith))

pub loop-c-init : goal.loop-c-init
loop-c-init c = let a = c.args in
    (omega arith, omega arith, before_from (free a.map.now) a.from a.before a.step a.k)

pub near_start-requires : goal.near_start-requires
near_start-requires c = (omega arith, omega arith, omega arith)

pub returns-in_err-s : goal.returns-in_err-s
returns-in_err-s c = let a = c.args in
    let g : ℕ → Bool = free a.map.now in
    let few : ℕ = c.new-sought.result.k in
    let is : few ≡ min a.k 64 = c.new-sought.ensures.1 in
    let end : ℕ = (a.before - 1) / 64 * 64 + 64 in
    c.from_residual.ensures ∙ found_none g a.from a.before a.step a.k end (omega arith)
    (past_runs g a.from a.before a.step a.k c.loop-c.c end
    (no_longer (on_step a.step) g few a.k c.loop-c.c end (omega arith)
    (subst (λ (x : ℕ). NoRun (on_step x) g few c.loop-c.c end) c.new-sought.ensures.0 c.in_err-s.ensures))
    c.loop-c.invariant.2)

pub returns-then-last-s : goal.returns-then-last-s
returns-then-last-s c = let a = c.args in
    found_none (free a.map.now) a.from a.before a.step a.k
    c.in_ok-s.s (omega arith)
    (none-to (goal.at.returns-then-last-s c).In_ok-s)

pub returns-then-k-le64 : goal.returns-then-k-le64
returns-then-k-le64 c = let here = c in
    let a = c.args in
    let g : ℕ → Bool = free a.map.now in
    let s : ℕ = here.in_ok-s.s in
    let low : c.loop-c.c ≤ s = here.in_ok-s.ensures.low in
    let is : c.new-sought.result.k ≡ min a.k 64 = c.new-sought.ensures.1 in
    let e : c.new-sought.result.k ≡ a.k = omega arith in
    found_at g a.from a.before a.step a.k s (omega arith)
    (record {
      low = omega arith;
      high = omega arith;
      free = ap (all g s) (sym e) ∙ (found (goal.at.returns-then-k-le64 c).In_ok-s).fits;
      placed = (found (goal.at.returns-then-k-le64 c).In_ok-s).start;
    }) (none-to (goal.at.returns-then-k-le64 c).In_ok-s)

pub returns-then-r-k : goal.returns-then-r-k
returns-then-r-k c = let here = c in
    let a = c.args in
    let g : ℕ → Bool = free a.map.now in
    let s : ℕ = here.in_ok-s.s in
    let low : c.loop-c.c ≤ s = here.in_ok-s.ensures.low in
    let told : Spaced g s (s + a.k) c.space-r.result =
    subst (Spaced g s (s + a.k)) (sym c.space-r.ensures) (spaced g s (s + a.k) (omega arith)) in
    found_at g a.from a.before a.step a.k s (omega arith)
    (record {
      low = omega arith;
      high = omega arith;
      free = space_fits g s a.k c.space-r.result c.if-r-k.true told;
      placed = (found (goal.at.returns-then-r-k c).In_ok-s).start;
    }) (none-to (goal.at.returns-then-r-k c).In_ok-s)

pub overflow_add-c : goal.overflow_add-c
overflow_add-c c = let told = space-says (goal.at.overflow_add-c c).After-space-r in
    omega (arith, told.within)

pub overflow_add-c-in-loop-c : goal.overflow_add-c-in-loop-c
overflow_add-c-in-loop-c c = let told = space-says (goal.at.overflow_add-c-in-loop-c c).After-space-r in
    omega (arith, told.within)

pub loop-c-smaller : goal.loop-c-smaller
loop-c-smaller c = let here = c in
    let s : ℕ = here.in_ok-s.s in
    let low : c.loop-c.c ≤ s = here.in_ok-s.ensures.low in
    let told = space-says (goal.at.loop-c-smaller c).After-space-r in
    omega (arith, told.within)

pub loop-c-preserved : goal.loop-c-preserved
loop-c-preserved c = let here = c in
    let a = c.args in
    let g : ℕ → Bool = free a.map.now in
    let s : ℕ = here.in_ok-s.s in
    let r : ℕ = c.space-r.result in
    let low : c.loop-c.c ≤ s = here.in_ok-s.ensures.low in
    let told : Spaced g s (s + a.k) r = space-says (goal.at.loop-c-preserved c).After-space-r in
    let l : s + r ≤ s + a.k = told.within in (
      omega arith,
      omega arith,
      past_block g a.from a.before a.step a.k s (s + r) (omega arith) (omega arith) (told.stop (omega arith))
          (none-to (goal.at.loop-c-preserved c).In_ok-s),
    )

pub returns : goal.returns
returns c = let a = c.args in
    let loop = c.loop-c in
    found_none (free a.map.now) a.from a.before a.step a.k loop.c (omega arith)
    loop.invariant.2
