-- `summary_write::climb` meets its contract. The invariant: group g stands where the way up has come to.
-- Assumes nothing.

use mathlib.Core.Path.{◌≡◌, refl, ◌∙◌}
use Prim.Native.Nat.{◌+◌, ◌-◌, ◌*◌, ◌/◌, ◌<◌}
use native.Mathlib.Omega.{arith}
use lib.ListN.{length}
use Rattle.summary_write.proofs.Climbs.{rises_top, rises-on, rises-no-more, stands_small, stands_in, stands_up}
use Rattle.summary_write.proofs.climb.Goals as goal

pub loop-g-init : goal.loop-g-init
loop-g-init c = (refl, c.requires, λ f p lo hi was r. r)

pub restore_joined-requires : goal.restore_joined-requires
restore_joined-requires c =
    let loop = c.loop-g in
    let l : 0 < loop.g = c.loop-g-test.true in
    let small = stands_small _ _ _ loop.invariant.1 in
    (omega (arith, small.0), small.1, stands_in _ _ _ loop.invariant.1 l)

pub returns-then-restore_joined : goal.returns-then-restore_joined
returns-then-restore_joined c =
    let loop = c.loop-g in
    let l : 0 < loop.g = c.loop-g-test.true in
    let fits : 3 * ((loop.g - 1) / 2) + 2 < length loop.summary = omega (arith, stands_in _ _ _ loop.invariant.1 l) in
    λ f p lo hi was r. rises-no-more f p lo hi was loop.summary loop.half loop.g
    (loop.invariant.2 f p lo hi was r) l _ fits
    c.restore_joined.ensures.1 (c.restore_joined.ensures.0.0 c.if-restore_joined.true)

pub overflow_mul-half : goal.overflow_mul-half
overflow_mul-half c = omega (arith, stands_small _ _ _ c.loop-g.invariant.1)

pub loop-g-preserved : goal.loop-g-preserved
loop-g-preserved c =
    let loop = c.loop-g in
    let l : 0 < loop.g = c.loop-g-test.true in
    let fits : 3 * ((loop.g - 1) / 2) + 2 < length loop.summary = omega (arith, stands_in _ _ _ loop.invariant.1 l) in (
      c.restore_joined.auto.summary ∙ loop.invariant.0,
      stands_up _ _ _ loop.invariant.1 l _ c.restore_joined.auto.summary,
      λ f p lo hi was r. rises-on f p lo hi was loop.summary loop.half loop.g (loop.invariant.2 f p lo hi was r) l _ fits
          c.restore_joined.ensures.1 (c.restore_joined.ensures.0.1 c.if-restore_joined.false),
    )

pub returns : goal.returns
returns c =
    let loop = c.loop-g in
    let top : loop.g ≡ 0 = omega (arith, c.loop-g-test.false) in
    λ f p lo hi was r. rises_top f p lo hi was loop.summary loop.half loop.g (loop.invariant.2 f p lo hi was r) top
