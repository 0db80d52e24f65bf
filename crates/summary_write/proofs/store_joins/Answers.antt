-- `summary_write::store_joins` meets its contract. The invariant: the groups g to i - 1 are stored.
-- Assumes nothing.

use mathlib.Core.Path.{◌≡◌, refl, sym, ◌∙◌, subst}
use mathlib.Core.List.{List}
use Prim.Native.Nat.{ℕ, ◌+◌, ◌*◌, ◌<◌}
use native.Mathlib.Omega.{arith}
use lib.ListN.{length}
use Rattle.summary.specs.Walks.{halves_of}
use Rattle.summary_write.specs.Climbs.{Stores}
use Rattle.summary_write.proofs.Stored.{none_stored, one_stored, next_stored, told, stored_all}
use Rattle.summary_write.proofs.store_joins.Goals as goal

pub loop-i-init : goal.loop-i-init
loop-i-init c = (refl, λ aim j. none_stored aim _ _ _ (omega arith))

pub loop-i-preserved : goal.loop-i-preserved
loop-i-preserved c =
    let a = c.args in
    let i : c.loop-i.i < a.stop = c.loop-i-test.true in
    let l : 3 * c.loop-i.i + 2 < length c.loop-i.summary = omega (arith, c.requires, c.loop-i.invariant.0) in (
      c.store_joined.auto.summary ∙ c.loop-i.invariant.0,
      λ aim j.
          let d : Stores aim a.summary.now c.loop-i.summary a.g c.loop-i.i = c.loop-i.invariant.1 aim j in
          next_stored aim _ _ _ _ _ c.loop-i.auto.i d
          (subst (λ (s : List ℕ). Stores aim c.loop-i.summary s c.loop-i.i (c.loop-i.i + 1))
          (sym c.store_joined.ensures)
          (one_stored aim c.loop-i.summary c.loop-i.i (halves_of c.loop-i.summary c.loop-i.i a.half) l
          (told aim _ _ _ _ _ j c.loop-i.auto.i i _ d))),
    )

pub returns : goal.returns
returns c =
    let loop = c.loop-i in
    let all : c.args.stop ≡ loop.i = omega arith in
    λ aim j. stored_all aim _ _ _ _ _ all (loop.invariant.1 aim j)
