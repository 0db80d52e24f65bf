-- `map_search_placed::first_start` meets its contract.
-- Assumes nothing.

use mathlib.Core.Path.{sym, subst}
use native.Mathlib.Omega.{arith}
use mathlib.Core.Bool.{Bool}
use Prim.Native.Nat.{ℕ, ◌+◌}
use Rattle.map_blocks.specs.Blocks.{free}
use Rattle.map_blocks.proofs.Fits.{Spaced, spaced, mod_on}
use Rattle.map_search_starts.proofs.Steps.{none_ahead}
use Rattle.map_search_near.proofs.Figures.{found_at, before_first, space_fits}
use Rattle.map_search_placed.proofs.first_start.Goals as goal

pub returns-then-space-k : goal.returns-then-space-k
returns-then-space-k c = let far = c.ahead in
    let a = c.args in
    let g : ℕ → Bool = free a.map.now in
    let s : ℕ = a.from + far.result in
    let told : Spaced g s (s + a.k) c.space.result =
    subst (Spaced g s (s + a.k)) (sym c.space.ensures) (spaced g s (s + a.k) (omega arith)) in
    found_at g a.from a.before a.step a.k s (omega arith)
    (record {
      low = omega arith;
      high = omega arith;
      free = space_fits g s a.k c.space.result c.if-space-k.true told;
      placed = mod_on a.step s far.ensures.1;
    })
    (before_first g a.from a.before a.step a.k far.result
    (λ j l. none_ahead a.step a.from far.result j far.ensures.1 l far.ensures.0))
