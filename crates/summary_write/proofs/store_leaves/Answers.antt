-- `summary_write::store_leaves` meets its contract. The invariant: the groups of the words lo to i - 1 are stored.
-- Assumes nothing.

use mathlib.Core.Path.{◌≡◌, refl, sym, ap, ◌∙◌, subst}
use mathlib.Core.List.{List}
use Prim.Native.Nat.{ℕ, ◌+◌, ◌*◌, ◌≤◌, ◌<◌}
use native.Mathlib.Omega.{arith}
use lib.ListN.{length}
use Rattle.summary_groups.specs.Groups.{power, group_of}
use Rattle.summary_groups.proofs.Places.{power_small}
use Rattle.summary.specs.Summary.{usable}
use Rattle.summary.specs.Walks.{with_group}
use Rattle.summary_write.specs.Climbs.{Stores}
use Rattle.summary_write.proofs.Stored.{none_stored, one_stored, next_stored, stored_all}
use Rattle.summary_write.proofs.store_leaves.Goals as goal

pub loop-i-init : goal.loop-i-init
loop-i-init c = (refl, λ aim j. none_stored aim _ _ _ (omega arith))

pub overflow_add-leaf : goal.overflow_add-leaf
overflow_add-leaf c =
    let few : power (length c.args.map.now) ≤ 4096 = power_small _ c.requires.0.few in
    omega (arith, c.requires.1, c.loop-i-test.true)

pub free_word-requires : goal.free_word-requires
free_word-requires c =
    let few : power (length c.args.map.now) ≤ 4096 = power_small _ c.requires.0.few in
    (omega (arith, c.requires.1, c.requires.2, c.loop-i-test.true), c.requires.0.fits)

pub store_word-requires : goal.store_word-requires
store_word-requires c =
    let few : power (length c.args.map.now) ≤ 4096 = power_small _ c.requires.0.few in
    let loop = c.loop-i in
    let i : loop.i < c.args.hi = c.loop-i-test.true in (
      omega (arith, c.requires.1, c.requires.2),
      omega (arith, c.requires.1, c.requires.2, loop.invariant.0, c.requires.0.long),
    )

pub loop-i-preserved : goal.loop-i-preserved
loop-i-preserved c =
    let a = c.args in
    let i : c.loop-i.i < a.hi = c.loop-i-test.true in
    let at : List ℕ = c.loop-i.summary in
    let g : ℕ = a.leaf + c.loop-i.i in
    let e : a.leaf + (c.loop-i.i + 1) ≡ g + 1 = omega arith in
    let l : 3 * (a.leaf + c.loop-i.i) + 2 < length c.loop-i.summary =
    omega (arith, c.requires.1, c.requires.2, c.loop-i.invariant.0, c.requires.0.long) in (
      c.store_word.auto.summary ∙ c.loop-i.invariant.0,
      λ aim j.
          subst (Stores aim a.summary.now c.store_word.new.summary (a.leaf + a.lo)) (sym e)
          (next_stored aim _ _ _ _ _ (omega (arith, c.loop-i.auto.i)) (c.loop-i.invariant.1 aim j)
          (subst (λ (s : List ℕ). Stores aim at s g (g + 1))
          (sym (c.store_word.ensures ∙ ap (with_group at g) c.free_word.ensures))
          (one_stored aim at g (group_of (usable a.map.now a.n) (64 * c.loop-i.i) 64) l
          (j c.loop-i.i c.loop-i.auto.i i)))),
    )

pub returns : goal.returns
returns c =
    let loop = c.loop-i in
    let all : c.args.hi ≡ loop.i = omega arith in
    λ aim j. stored_all aim _ _ _ _ _ (omega arith) (loop.invariant.1 aim j)
