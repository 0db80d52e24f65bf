-- `refusals_rulings::before_search` meets its contract: each way out by its row.
-- Assumes nothing.

use mathlib.Core.Path.{◌≡◌, sym, ap, ◌∙◌}
use mathlib.Core.List.{List}
use Prim.Native.Nat.{ℕ}
use Rattle.std.proofs.lemmas.Result.{err_from_is_err_and}
use Rattle.catalogue_standings.specs.Rows.{Verdict, accepted, refused, first_of}
use Rattle.catalogue_standings.proofs.Openings.{skip, stop, none_left}
use Rattle.refusals.specs.Effects.{giving_verdict, unsearched_verdict}
use Rattle.refusals.specs.Lent.{Lent, lent_for, within}
use Rattle.refusals.specs.Placement.{Placement, placed}
use Rattle.refusals.proofs.Beginnings.{behind, giving_within, given}
use Rattle.refusals.proofs.Reserve.{own, unsearched_behind}
use Rattle.refusals_rulings.proofs.before_search.Goals as goal

module _ (held : ℕ) (limits : List ℕ) (q₀ : Lent) (k : ℕ) (p : Placement) where
  abbrev q : Lent
  q = within held limits q₀

  -- the verdict, where a row that giving begins with holds, and where none of them does
  by_giving : (number : ℕ) → giving_verdict q₀ k ≡ refused number → unsearched_verdict q k p ≡ refused number
  by_giving number h =
      unsearched_behind q k p
      ∙ ap (λ (v : Verdict). behind v (own q k p)) (sym (giving_within held limits q₀ k) ∙ h)

  by_own : giving_verdict q₀ k ≡ accepted → (v : Verdict) → first_of (own q k p) ≡ v → unsearched_verdict q k p ≡ v
  by_own opens v h =
      unsearched_behind q k p
      ∙ ap (λ (w : Verdict). behind w (own q k p)) (sym (giving_within held limits q₀ k) ∙ opens) ∙ h

pub returns-in_err-give : goal.returns-in_err-give
returns-in_err-give c =
    let a = c.args in
    let q₀ = lent_for a.asked a.call a.guided a.summary.now a.map.now a.card.now in
    let p = err_from_is_err_and c.from_residual.result c.from_residual.ensures.1 in
    rw (p.1, p.2) (by_giving a.held a.limits.now q₀ a.k (placed a.figures) _ c.in_err-give.ensures)

pub returns-then-figures_wrong : goal.returns-then-figures_wrong
returns-then-figures_wrong c =
    let a = c.args in
    let q₀ = lent_for a.asked a.call a.guided a.summary.now a.map.now a.card.now in
    by_own a.held a.limits.now q₀ a.k (placed a.figures) c.in_ok-give.ensures (refused 15)
    (stop 15 _ _ (sym c.figures_wrong.ensures ∙ c.if-figures_wrong.true))

pub over_limit-requires : goal.over_limit-requires
over_limit-requires c =
    let a = c.args in
    let q₀ = lent_for a.asked a.call a.guided a.summary.now a.map.now a.card.now in
    (given q₀ a.k c.in_ok-give.ensures).below

pub returns-then-over_limit : goal.returns-then-over_limit
returns-then-over_limit c =
    let a = c.args in
    let q₀ = lent_for a.asked a.call a.guided a.summary.now a.map.now a.card.now in
    let right = sym c.figures_wrong.ensures ∙ c.if-figures_wrong.false in
    by_own a.held a.limits.now q₀ a.k (placed a.figures) c.in_ok-give.ensures (refused 18)
    (skip 15 _ _ _ right (stop 18 _ _ (sym c.over_limit.ensures ∙ c.if-over_limit.true)))

pub returns : goal.returns
returns c =
    let a = c.args in
    let q₀ = lent_for a.asked a.call a.guided a.summary.now a.map.now a.card.now in
    let right = sym c.figures_wrong.ensures ∙ c.if-figures_wrong.false in
    by_own a.held a.limits.now q₀ a.k (placed a.figures) c.in_ok-give.ensures accepted
    (skip 15 _ _ _ right (skip 18 _ _ _ (sym c.over_limit.ensures ∙ c.if-over_limit.false) none_left))
