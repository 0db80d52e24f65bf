-- `call_reserve::accept::accept` meets its contract: a refusal changes nothing, and on acceptance the blocks that it takes
-- lie inside the card.
-- Assumes nothing.

use mathlib.Core.Path.{◌≡◌, ap, ◌∙◌}
use native.Mathlib.Omega.{arith}
use Rattle.catalogue_standings.proofs.Followed.{following, refusing}
use Rattle.refusals.specs.Effects.{refusal_out}
use Rattle.refusals.specs.Lent.{lent_for, within}
use Rattle.roles.specs.Roles as names
use Rattle.refusals.proofs.Accept.{taken, accept_verdict_on, accept_room}
use Rattle.refusals.proofs.Taken.{unchanged, changed}
use Rattle.call_reserve.proofs.accept.accept.Goals as goal

pub take-requires : goal.take-requires
take-requires c =
    let call = c.accept_ruling in
    let a = c.args in
    let q = within a.held a.limits.now (lent_for a.asked names.accept a.guided a.summary.now a.map.now a.card.now) in
    let ruled = following (accept_verdict_on q a.start a.k) (λ s. s ≡ a.start) c.in-Ok.is call.ensures in
    let room = accept_room q a.start a.k ruled.0 in (
      omega (arith, room.inside, ruled.1),
      omega (arith, room.sizes.shape.limit),
      omega (arith, room.sizes.shape.words, room.sizes.shape.limit),
      omega (arith, room.sizes.shape.covered),
      room.guides,
      omega (arith, room.sizes.bytes),
      room.enough,
    )

pub returns-in-Err : goal.returns-in-Err
returns-in-Err c =
    let call = c.accept_ruling in
    let a = c.args in
    let q = within a.held a.limits.now (lent_for a.asked names.accept a.guided a.summary.now a.map.now a.card.now) in
    taken q a.start a.k _ _ _ _
    (unchanged q (accept_verdict_on q a.start a.k) a.start a.k _ c.refusal.result
    (refusing (accept_verdict_on q a.start a.k) (λ s. s ≡ a.start) c.in-Err.is call.ensures)
    (c.refusal.ensures ∙ ap (refusal_out a.asked.free a.asked.entry) c.number.ensures))

pub returns-in-Ok : goal.returns-in-Ok
returns-in-Ok c =
    let call = c.accept_ruling in
    let a = c.args in
    let q = within a.held a.limits.now (lent_for a.asked names.accept a.guided a.summary.now a.map.now a.card.now) in
    let ruled = following (accept_verdict_on q a.start a.k) (λ s. s ≡ a.start) c.in-Ok.is call.ensures in
    let done = c.take in
    taken q a.start a.k _ _ _ _
    (changed q (accept_verdict_on q a.start a.k) a.start a.k c.in-Ok.at done.result _ _ _ ruled.0
    ruled.1 done.ensures.0 done.ensures.1 done.ensures.2 done.ensures.3)
