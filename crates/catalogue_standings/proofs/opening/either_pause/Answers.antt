-- `catalogue_standings::opening::either_pause` meets its contract: without blocks no extent holds, and else they are not 0.
-- Assumes nothing.

use mathlib.Core.Path.{◌≡◌, refl, sym, ap, ◌∙◌}
use mathlib.Core.Bool.{Bool, true, false, ◌&&◌, cond}
use Prim.Native.Nat.{ℕ}
use borrow.Author.Tests.{ne_eqb}
use lib.Dec.{eqb}
use Rattle.map_blocks.specs.Blocks.{free}
use Rattle.catalogue_standings.specs.Standings.{extent_holds}
use Rattle.catalogue_standings.specs.declared.Standing.{Standing}
use Rattle.catalogue_standings.specs.declared.Standing.TheVariants.{Paused, PausedWith, Damaged}
use Rattle.catalogue_standings.proofs.opening.either_pause.Goals as goal

-- an extent of no blocks does not hold
none-holds : (n : ℕ) (free : ℕ → Bool) (start blocks : ℕ) (z : Bool) (s t : Standing) → blocks ≡ 0
    → cond z s Damaged ≡ cond z s (cond (extent_holds n free start blocks) t Damaged)
unfolding extent_holds
none-holds n free start blocks z s t e = simp e

some-blocks : (a b : Bool) (s t : Standing) → b ≡ false → t ≡ cond (a && b) s t
some-blocks true b s t e = ap (λ (x : Bool). cond x s t) (sym e)
some-blocks false b s t e = refl

pub returns-then-blocks-eq0 : goal.returns-then-blocks-eq0
returns-then-blocks-eq0 c =
    let a = c.args in
    c.without_extent.ensures
    ∙ none-holds a.n (free a.map.now) a.start a.blocks (eqb a.start 0 && eqb a.blocks 0) Paused
    (PausedWith a.start a.blocks) c.if-blocks-eq0.true

pub returns : goal.returns
returns c =
    let a = c.args in
    c.with_extent.ensures
    ∙ some-blocks (eqb a.start 0) (eqb a.blocks 0) Paused _ (ne_eqb _ _ c.if-blocks-eq0.false)
