-- `call_reserve::grow::grow` meets its contract: a refusal changes nothing, and on acceptance the blocks that it takes lie
-- inside the card.
-- Assumes nothing.

use mathlib.Core.Path.{◌≡◌, ap, ◌∙◌}
use native.Mathlib.Omega.{arith}
use Rattle.catalogue_standings.proofs.Followed.{following, refusing}
use Rattle.refusals.specs.Effects.{refusal_out}
use Rattle.refusals.specs.Lent.{lent_for, within}
use Rattle.roles.specs.Roles as names
use Rattle.refusals.proofs.Grow.{end, unchanged, changed}
use Rattle.refusals.proofs.Room.{grow_verdict_on, grow_room}
use Rattle.call_reserve.proofs.grow.grow.Goals as goal

pub occupy-requires : goal.occupy-requires
occupy-requires c =
    let call = c.grow_ruling in
    let a = c.args in
    let q = within a.held a.limits.now (lent_for a.asked names.grow a.guided a.summary.now a.map.now a.card.now) in
    let ruled = following (grow_verdict_on q a.m) (λ s. s ≡ end q a.m) c.in-Ok.is call.ensures in
    let room = grow_room q a.m ruled.0 in (
      omega (arith, room.inside, ruled.1),
      omega (arith, room.sizes.shape.limit),
      omega (arith, room.sizes.shape.words, room.sizes.shape.limit),
      omega (arith, room.sizes.shape.covered),
      room.guides,
      omega (arith, room.sizes.bytes),
    )

pub overflow_sub-result : goal.overflow_sub-result
overflow_sub-result c =
    let call = c.grow_ruling in
    let a = c.args in
    let q = within a.held a.limits.now (lent_for a.asked names.grow a.guided a.summary.now a.map.now a.card.now) in
    let ruled = following (grow_verdict_on q a.m) (λ s. s ≡ end q a.m) c.in-Ok.is call.ensures in
    omega (arith, (grow_room q a.m ruled.0).enough)

pub overflow_add-result : goal.overflow_add-result
overflow_add-result c =
    let call = c.grow_ruling in
    let a = c.args in
    let q = within a.held a.limits.now (lent_for a.asked names.grow a.guided a.summary.now a.map.now a.card.now) in
    let ruled = following (grow_verdict_on q a.m) (λ s. s ≡ end q a.m) c.in-Ok.is call.ensures in
    let room = grow_room q a.m ruled.0 in
    omega (arith, room.inside, room.sizes.shape.limit)

pub returns-in-Err : goal.returns-in-Err
returns-in-Err c =
    let call = c.grow_ruling in
    let a = c.args in
    let q = within a.held a.limits.now (lent_for a.asked names.grow a.guided a.summary.now a.map.now a.card.now) in
    unchanged q a.m _ c.refusal.result
    (refusing (grow_verdict_on q a.m) (λ s. s ≡ end q a.m) c.in-Err.is call.ensures)
    (c.refusal.ensures ∙ ap (refusal_out a.asked.free a.asked.entry) c.number.ensures)

pub returns-in-Ok : goal.returns-in-Ok
returns-in-Ok c =
    let call = c.grow_ruling in
    let a = c.args in
    let q = within a.held a.limits.now (lent_for a.asked names.grow a.guided a.summary.now a.map.now a.card.now) in
    let ruled = following (grow_verdict_on q a.m) (λ s. s ≡ end q a.m) c.in-Ok.is call.ensures in
    let done = c.occupy.ensures in
    changed q a.m c.in-Ok.end _ _ _ ruled.0 ruled.1 done.0 done.1 done.2
