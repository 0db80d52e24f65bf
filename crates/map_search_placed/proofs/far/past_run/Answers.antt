-- `map_search_placed::far::past_run` meets its contract.
-- Assumes nothing.

use mathlib.Core.Path.{◌≡◌, sym, ap, ◌∙◌}
use Prim.Native.Nat.{ℕ, ◌+◌, ◌-◌}
use native.Mathlib.Nat.{mod_self, zero-mod, zero-add}
use native.Mathlib.Omega.{arith}
use Rattle.map_blocks.specs.Blocks.{on_step}
use Rattle.map_search_starts.proofs.Steps.{between, none_ahead}
use Rattle.map_search_placed.proofs.far.past_run.Goals as goal

pub returns-then-r-step : goal.returns-then-r-step
returns-then-r-step c = let a = c.args in (
  c.if-r-step.true,
  omega arith,
  mod_self a.step,
  λ t l u. ap (on_step a.step) (sym (zero-add t)) ∙ between a.step 0 t (zero-mod a.step) (omega arith) u,
)

pub returns : goal.returns
returns c = let a = c.args in
    let x : ℕ = c.ahead.result in (
      omega arith,
      omega arith,
      c.ahead.ensures.1,
      λ t l u.
          let e : a.r + 1 + (t - (a.r + 1)) ≡ t = omega arith in
          ap (on_step a.step) (sym e) ∙ none_ahead a.step (a.r + 1) x (t - (a.r + 1)) c.ahead.ensures.1
          (omega arith) c.ahead.ensures.0,
    )
