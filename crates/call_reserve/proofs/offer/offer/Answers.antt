-- `call_reserve::offer::offer` meets its contract: its ruling is that of the reserve with 0, n and 1.
-- Assumes nothing.

use mathlib.Core.Path.{◌≡◌, refl, ◌∙◌}
use mathlib.Core.Bool.{false}
use mathlib.Core.List.{[]}
use Rattle.catalogue_standings.proofs.Followed.{following, refusing}
use Rattle.refusals.specs.Lent.{lent_for, within}
use Rattle.roles.specs.Roles as names
use Rattle.refusals.specs.Placement.{placed, figures}
use Rattle.refusals.proofs.Offer.{answers}
use Rattle.refusals.proofs.Room.{reserve_verdict_on, reserve_start_on}
use Rattle.catalogue_standings.specs.Refusals.{number}
use Rattle.catalogue_standings.specs.Rows.{accepted, refused}
use Rattle.call_reserve.proofs.offer.offer.Goals as goal

pub returns-in-Err : goal.returns-in-Err
returns-in-Err c =
    let call = c.reserve_ruling in
    let a = c.args in
    let q = within a.held a.limits.now (lent_for a.asked names.offer false [] a.map.now a.card.now) in
    let p = placed (figures 0 a.asked.n 1) in
    c.answer.ensures ∙ answers q a.k (refused (number c.in-Err.why)) _
    (refusing (reserve_verdict_on q a.k p) (λ s. s ≡ reserve_start_on q a.k p) c.in-Err.is call.ensures) refl

pub returns-in-Ok : goal.returns-in-Ok
returns-in-Ok c =
    let call = c.reserve_ruling in
    let a = c.args in
    let q = within a.held a.limits.now (lent_for a.asked names.offer false [] a.map.now a.card.now) in
    let p = placed (figures 0 a.asked.n 1) in
    let ruled = following (reserve_verdict_on q a.k p) (λ s. s ≡ reserve_start_on q a.k p) c.in-Ok.is call.ensures in
    answers q a.k accepted c.in-Ok.start ruled.0 ruled.1
