-- `map_search_placed::far::past_taken` meets its contract.
-- Assumes nothing.

use mathlib.Core.Path.{◌≡◌, sym, ap, ◌∙◌}
use mathlib.Core.Logic.{⊎_elim}
use Prim.Native.Nat.{ℕ, ◌+◌, ◌-◌, ◌*◌, ◌/◌, ◌≤◌, ◌<◌}
use native.Mathlib.Omega.{arith}
use Rattle.map_blocks.specs.Blocks.{on_step}
use Rattle.laws.proofs.Bools.{clash, order}
use Rattle.map_search_starts.proofs.Steps.{none_ahead}
use Rattle.map_search_near.proofs.Figures.{zero_free}
use Rattle.map_search_placed.proofs.far.past_taken.Goals as goal

pub returns-then-step-ge512 : goal.returns-then-step-ge512
returns-then-step-ge512 c = (omega arith, omega arith, c.requires.5, λ t a b. absurd (omega arith))

pub returns-then-i-first : goal.returns-then-i-first
returns-then-i-first c = (omega arith, omega arith, c.requires.5, λ t a b. absurd (omega arith))

pub returns : goal.returns
returns c = let a = c.args in
    let taken = c.taken_words-i in
    let i : ℕ = taken.result in
    let x : ℕ = c.ahead.result in (
      omega arith,
      omega arith,
      c.ahead.ensures.1,
      λ t l u on.
          ⊎_elim (λ (v : t < i * 64). zero_free a.map.now (a.c / 64) i taken.ensures.2 t (omega arith) v)
          (λ (v : i * 64 ≤ t).
          let e : i * 64 + (t - i * 64) ≡ t = omega arith in
          absurd (clash (on_step a.step t) on (ap (on_step a.step) (sym e)
          ∙ none_ahead a.step (i * 64) x (t - i * 64) c.ahead.ensures.1 (omega arith) c.ahead.ensures.0)))
          (order t (i * 64)),
    )
