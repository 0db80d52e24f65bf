-- `map_search_placed::far::open_start` meets its contract. The loop's invariant: the starts from c to s are taken.
-- Assumes nothing.

use mathlib.Core.Path.{◌≡◌, sym, ap, ◌∙◌}
use native.Mathlib.Omega.{arith}
use mathlib.Core.List.{List}
use mathlib.Core.Logic.{⊎_elim}
use mathlib.Core.Bool.{false}
use Prim.Native.Nat.{ℕ, ◌+◌, ◌-◌, ◌/◌, ◌%◌, ◌^◌, ◌≤◌, ◌<◌}
use native.Mathlib.Nat.{mod_self}
use lib.ListN.{get_or}
use borrow.Author.Tests.{ne_eqb}
use Rattle.laws.proofs.Bools.{clash, order}
use Rattle.map_blocks.specs.Blocks.{free, on_step}
use Rattle.map_search_starts.proofs.Steps.{between}
use Rattle.map_search_near.proofs.Figures.{sum}
use Rattle.map_search_placed.proofs.far.open_start.Goals as goal

not_free : (map : List ℕ) (b : ℕ) → (get_or map (b / 64) 0 / 2 ^ (63 - b % 64) % 2 ≡ 1 → ⊥) → free map b ≡ false
unfolding free
not_free map b h = ne_eqb (get_or map (b / 64) 0 / 2 ^ (63 - b % 64) % 2) 1 h

pub loop-s-init : goal.loop-s-init
loop-s-init c = (omega arith, omega arith, c.requires.5, λ t a b. absurd (omega arith))

pub loop-s-preserved : goal.loop-s-preserved
loop-s-preserved c = let a = c.args in
    let loop = c.loop-s in (
      omega arith,
      omega arith,
      sum a.step loop.s a.step loop.invariant.2 (mod_self a.step),
      λ t l u on. ⊎_elim (λ v. loop.invariant.3 t l v on)
          (λ v. ⊎_elim
          (λ (z : loop.s < t).
          let e : loop.s + (t - loop.s) ≡ t = omega arith in
          absurd (clash (on_step a.step t) on (ap (on_step a.step) (sym e)
          ∙ between a.step loop.s (t - loop.s) loop.invariant.2 (omega arith) (omega arith))))
          (λ (z : t ≤ loop.s). let e : loop.s ≡ t = omega arith in
          ap (free a.map.now) (sym e) ∙ not_free a.map.now loop.s c.if-map-s-eq1.false) (order loop.s t))
          (order t loop.s),
    )

pub returns-after-loop-s : goal.returns-after-loop-s
returns-after-loop-s c = c.loop-s.invariant

pub returns-then-map-s-eq1 : goal.returns-then-map-s-eq1
returns-then-map-s-eq1 c = c.loop-s.invariant
