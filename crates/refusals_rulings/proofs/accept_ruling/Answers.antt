-- `refusals_rulings::accept_ruling` meets its contract: the first rows, and then those of the run.
-- Assumes nothing.

use mathlib.Core.Path.{◌≡◌, sym, ap, subst, ◌∙◌}
use mathlib.Core.Bool.{Bool}
use native.Mathlib.Omega.{arith}
use Rattle.std.proofs.lemmas.Result.{err_from_is_err_and}
use Rattle.map_blocks.specs.Blocks.{free}
use Rattle.catalogue_standings.specs.Refusals.{Follows}
use Rattle.catalogue_standings.specs.Rows.{Verdict, refused, settle}
use Rattle.roles.specs.Roles as names
use Rattle.refusals.specs.Effects.{accept_verdict, run_verdict}
use Rattle.refusals.specs.Lent.{lent_for, within}
use Rattle.refusals.proofs.Beginnings.{giving_within, given}
use Rattle.refusals.proofs.Accept.{run, verdict_behind}
use Rattle.refusals_rulings.proofs.accept_ruling.Goals as goal

pub returns-in_err-give : goal.returns-in_err-give
returns-in_err-give c =
    let a = c.args in
    let q₀ = lent_for a.asked names.accept a.guided a.summary.now a.map.now a.card.now in
    let q = within a.held a.limits.now q₀ in
    let p = err_from_is_err_and c.from_residual.result c.from_residual.ensures.1 in
    rw (p.1, p.2) (
      (verdict_behind q a.start a.k
          ∙ ap (λ (v : Verdict). settle v (run q a.start a.k) refused)
          (sym (giving_within a.held a.limits.now q₀ a.k) ∙ c.in_err-give.ensures)),
      tt,
    )

pub over_limit-over-requires : goal.over_limit-over-requires
over_limit-over-requires c =
    let a = c.args in
    (given (lent_for a.asked names.accept a.guided a.summary.now a.map.now a.card.now) a.k c.in_ok-give.ensures).below

pub run_ruling-requires : goal.run_ruling-requires
run_ruling-requires c =
    let a = c.args in
    let g = given (lent_for a.asked names.accept a.guided a.summary.now a.map.now a.card.now) a.k c.in_ok-give.ensures in
    (omega (arith, g.sizes.shape.limit), omega (arith, g.sizes.shape.covered))

pub returns : goal.returns
returns c =
    let a = c.args in
    let q₀ = lent_for a.asked names.accept a.guided a.summary.now a.map.now a.card.now in
    let q = within a.held a.limits.now q₀ in
    let same : run_verdict 17 c.over_limit-over.result (free a.map.now) a.asked.n a.asked.free a.start a.k
    ≡ accept_verdict q a.start a.k =
    ap (λ (o : Bool). run_verdict 17 o (free q.map) q.n q.spare a.start a.k) c.over_limit-over.ensures
    ∙ sym (verdict_behind q a.start a.k
    ∙ ap (λ (v : Verdict). settle v (run q a.start a.k) refused)
    (sym (giving_within a.held a.limits.now q₀ a.k) ∙ c.in_ok-give.ensures)) in
    (subst (λ (v : Verdict). Follows v c.run_ruling.result) same c.run_ruling.ensures.0, c.run_ruling.ensures.1)
