-- `refusals_runs::run_is_free` meets its contract: a run that passes n is no fit, and one inside n is a fit if it is free.
-- Assumes nothing.

use mathlib.Core.Path.{◌≡◌, sym, ◌∙◌}
use mathlib.Core.Bool.{Bool, false}
use Prim.Native.Nat.{ℕ, ◌+◌, ◌≤◌, ◌<◌}
use native.Mathlib.Omega.{arith}
use Rattle.map_blocks.specs.Blocks.{all, fit, free}
use Rattle.laws.proofs.Bools.{both_ways}
use Rattle.map_blocks.proofs.Fits.{fit_is, is_fit, no_fit, on_one}
use Rattle.refusals_runs.proofs.run_is_free.Goals as goal
use Rattle.refusals_runs.proofs.run_is_free.Goals.{then-n-start-via-then-n-start}
use Rattle.refusals_runs.proofs.run_is_free.Goals.{then-n-start-via-else-n-start+then-n-start-2}

inside : (f : ℕ → Bool) (n k start : ℕ) → start + k ≤ n → all f start k ≡ fit f 0 n 1 k start
inside f n k start l =
    both_ways (all f start k) (fit f 0 n 1 k start)
    (λ e. is_fit f 0 n 1 k start (record { low = omega arith; high = l; free = e; placed = on_one start }))
    (λ e. (fit_is f 0 n 1 k start e).free)

past : (f : ℕ → Bool) (n k start : ℕ) → n < start + k → false ≡ fit f 0 n 1 k start
past f n k start l = sym (no_fit f 0 n 1 k start (λ w. let h : start + k ≤ n = w.high in absurd (omega (arith, l))))

pub returns-then-n-start : goal.returns-then-n-start
returns-then-n-start c =
    let a = c.args in
    past (free a.map.now) a.n a.k a.start (elim c.then-n-start.branch [
      | then-n-start-via-then-n-start w ↦ omega (arith, w.if-n-start.true)
      | then-n-start-via-else-n-start+then-n-start-2 w ↦ omega (arith, w.if-n-start.false, w.if-n-start-2.true)
    ])

pub returns : goal.returns
returns c =
    let a = c.args in
    c.all_marked.ensures
    ∙ inside (free a.map.now) a.n a.k a.start (omega (arith, c.if-n-start.false, c.if-n-start-2.false))
