-- `call_put::complete::blank_left` meets its contract: each way out by its row.
-- Assumes nothing.

use mathlib.Core.Path.{◌≡◌, refl, sym, ap, ◌∙◌}
use mathlib.Core.Bool.{true, false, not, ◌||◌}
use mathlib.Core.List.{[]}
use Prim.Native.Nat.{ℕ}
use native.Mathlib.Omega.{arith}
use Rattle.std.specs.Prelude.{Option, Some, None, Ok, MatchOption}
use Rattle.std.proofs.lemmas.Result.{err_from_is_err_and, MatchResult-weaker}
use Rattle.map_blocks.specs.Blocks.{all, least}
use Rattle.catalogue_standings.specs.Refusals.{number}
use Rattle.catalogue_standings.specs.Rows.{accepted, refused}
use Rattle.catalogue_standings.specs.declared.Refusal.{Refusal}
use Rattle.catalogue_standings.specs.declared.Standing.TheVariants.{Open}
use Rattle.catalogue_standings.proofs.Openings.{skip, stop, none_left}
use Rattle.roles.specs.Roles as names
use Rattle.refusals.specs.Lent.{Lent, lent_for}
use Rattle.refusals.proofs.Lent.{first, limits, extent}
use Rattle.refusals.proofs.Complete.{verdict, lowest, shut, other, blank_at, sound_at, admitted, lowest-is}
use Rattle.call_put.proofs.Fillings.{was_filled, was_blank}
use Rattle.call_put.proofs.complete.blank_left.Goals as goal

module _ (q : Lent) (start blocks : ℕ) (opens : first q ≡ Ok (Open start blocks)) where
  broken : all (λ p. blank_at q start p || sound_at q start p) 0 blocks ≡ false → verdict q ≡ refused 4
  broken h = admitted q start blocks opens ∙ stop 4 _ _ (ap not h)

  whole : (o : Option ℕ)
      → (all (λ p. blank_at q start p || sound_at q start p) 0 blocks ≡ true) × (o ≡ least (blank_at q start) 0 blocks)
      → MatchOption o (verdict q ≡ accepted) (λ place. (verdict q ≡ refused 9) × (place ≡ lowest q))
  whole None h =
      admitted q start blocks opens
      ∙ skip 4 _ _ _ (ap not h.0)
      (skip 9 _ _ _ (ap not (was_filled (blank_at q start) blocks None h.1 refl)) none_left)
  whole (Some p) h =
      let w = was_blank (blank_at q start) blocks (Some p) h.1 p refl in (
        admitted q start blocks opens ∙ skip 4 _ _ _ (ap not h.0) (stop 9 _ _ (ap not w.0)),
        sym w.1 ∙ lowest-is q start blocks opens,
      )

pub returns-in_err-stands : goal.returns-in_err-stands
returns-in_err-stands c =
    let a = c.args in
    let q = lent_for a.asked names.complete false [] a.map.now a.card.now in
    let p = err_from_is_err_and c.from_residual.result c.from_residual.ensures.1 in
    rw (p.1, p.2) (shut q _ (sym c.enter.ensures ∙ c.in_err-stands.was))

pub returns-in_default : goal.returns-in_default
returns-in_default c =
    let a = c.args in
    let q = lent_for a.asked names.complete false [] a.map.now a.card.now in
    other q _ (sym c.enter.ensures ∙ c.in_ok-stands.was) c.in_default.not-Open
    ∙ ap (λ (why : Refusal). refused (number why)) (sym c.row_of.ensures)

pub look-requires : goal.look-requires
look-requires c =
    let a = c.args in
    let q = lent_for a.asked names.complete false [] a.map.now a.card.now in
    let opens = sym c.enter.ensures ∙ c.in_ok-stands.was ∙ ap Ok c.in-Open.is in
    let x = extent q c.in-Open.start c.in-Open.blocks opens in
    let l = limits q _ opens in
    (omega (arith, x.inside, l.shape.limit), omega (arith, x.inside, l.bytes))

pub returns : goal.returns
returns c =
    let a = c.args in
    let q = lent_for a.asked names.complete false [] a.map.now a.card.now in
    let opens = sym c.enter.ensures ∙ c.in_ok-stands.was ∙ ap Ok c.in-Open.is in
    MatchResult-weaker c.look.result c.look.ensures (whole q c.in-Open.start c.in-Open.blocks opens)
    (λ why h. broken q c.in-Open.start c.in-Open.blocks opens h.0 ∙ ap (λ (w : Refusal). refused (number w)) (sym h.1))
