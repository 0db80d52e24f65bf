-- `call_release::release` meets its contract: a refusal changes nothing, and else the map is what `mark` leaves.
-- Assumes nothing.

use mathlib.Core.Path.{◌≡◌, refl, sym, ap, subst, ◌∙◌}
use mathlib.Core.Bool.{true}
use mathlib.Core.List.{List}
use Prim.Native.Nat.{ℕ}
use native.Mathlib.Omega.{arith}
use lib.ListN.{length}
use Rattle.map_blocks.proofs.Maps.{marked_length}
use Rattle.catalogue_standings.specs.Rows.{accepted}
use Rattle.roles.specs.Roles as names
use Rattle.refusals.specs.Effects.{refusal_out}
use Rattle.refusals.specs.Guides.{guide_fits, guide_after}
use Rattle.refusals.specs.Lent.{lent_for, no_card}
use Rattle.refusals.proofs.Release.{out, released}
use Rattle.call_release.proofs.release.Goals as goal

pub returns-in-Err : goal.returns-in-Err
returns-in-Err c =
    let a = c.args in
    let q = lent_for a.asked names.release a.guided a.summary.now a.map.now no_card in
    out q _ c.in-Err.ensures _ _ _ (c.refusal.ensures ∙ ap (refusal_out a.asked.free a.asked.entry) c.number.ensures) refl refl

pub mark-requires : goal.mark-requires
mark-requires c =
    let a = c.args in
    let r = released (lent_for a.asked names.release a.guided a.summary.now a.map.now no_card) c.in_default.ensures in
    (omega (arith, r.sizes.limit, r.extent.inside), omega (arith, r.sizes.covered, r.extent.inside))

pub follow-requires : goal.follow-requires
follow-requires c =
    let a = c.args in
    let r = released (lent_for a.asked names.release a.guided a.summary.now a.map.now no_card) c.in_default.ensures in
    let same : length c.mark.new.map ≡ length a.map.now =
    ap length c.mark.ensures ∙ marked_length a.map.now a.asked.entry.start a.asked.entry.length true in (
      omega (arith, r.sizes.words, r.sizes.limit),
      omega (arith, r.sizes.covered),
      omega (arith, r.sizes.covered, r.extent.inside),
      subst (λ (w : ℕ). guide_fits a.guided a.summary.now w ≡ true) (sym same) r.guides,
    )

pub overflow_add-result : goal.overflow_add-result
overflow_add-result c =
    let a = c.args in
    let r = released (lent_for a.asked names.release a.guided a.summary.now a.map.now no_card) c.in_default.ensures in
    omega (arith, r.room, r.sizes.limit)

pub returns : goal.returns
returns c =
    let a = c.args in
    let q = lent_for a.asked names.release a.guided a.summary.now a.map.now no_card in
    out q accepted c.in_default.ensures _ _ _ refl c.mark.ensures
    (c.follow.ensures
    ∙ ap (λ (m : List ℕ). guide_after a.guided a.summary.now m a.asked.n a.asked.entry.start a.asked.entry.length)
    c.mark.ensures)
