-- `call_put::put::put` meets its contract: a refusal changes nothing, and else the card is what `write_block` leaves.
-- Assumes nothing.

use mathlib.Core.Path.{refl, ap, ◌∙◌}
use mathlib.Core.Bool.{false}
use mathlib.Core.List.{[]}
use Prim.Native.Nat.{ℕ}
use Rattle.blocks_of_card.specs.Card.{with_block}
use Rattle.block_seals.specs.Sealed.{sealed}
use Rattle.catalogue_standings.specs.Rows.{accepted}
use Rattle.roles.specs.Roles as names
use Rattle.refusals.specs.Lent.{lent_for}
use Rattle.refusals.proofs.Put.{out}
use Rattle.call_put.proofs.put.put.Goals as goal

pub returns-in-Err : goal.returns-in-Err
returns-in-Err c =
    let a = c.args in
    let q = lent_for a.asked names.put false [] a.map.now a.card.now in
    out q a.place a.payload.now _ c.in-Err.ensures.0 _ _ c.answer.ensures refl

pub returns-in-Ok : goal.returns-in-Ok
returns-in-Ok c =
    let a = c.args in
    let q = lent_for a.asked names.put false [] a.map.now a.card.now in
    out q a.place a.payload.now accepted c.in-Ok.ensures.0 _ _ refl
    (c.write_block.ensures
    ∙ ap (λ (b : ℕ). with_block a.card.now b (sealed a.asked.sheet a.place a.payload.now)) c.in-Ok.ensures.1.0)
