-- `refusals_rulings::grow_ruling` meets its contract: the first rows, and then those of the run.
-- Assumes nothing.

use mathlib.Core.Path.{◌≡◌, sym, ap, subst, ◌∙◌}
use mathlib.Core.Bool.{Bool}
use Prim.Native.Nat.{◌+◌}
use native.Mathlib.Omega.{arith}
use Rattle.std.proofs.lemmas.Result.{err_from_is_err_and}
use Rattle.map_blocks.specs.Blocks.{free}
use Rattle.catalogue_standings.specs.Refusals.{Follows}
use Rattle.catalogue_standings.specs.Rows.{Verdict, refused, settle}
use Rattle.roles.specs.Roles as names
use Rattle.refusals.specs.Effects.{grow_verdict, run_verdict}
use Rattle.refusals.specs.Lent.{lent_for, within}
use Rattle.refusals.proofs.Beginnings.{adding_within, added}
use Rattle.refusals.proofs.Grow.{run, verdict_behind}
use Rattle.refusals_rulings.proofs.grow_ruling.Goals as goal

pub returns-in_err-add : goal.returns-in_err-add
returns-in_err-add c =
    let a = c.args in
    let q₀ = lent_for a.asked names.grow a.guided a.summary.now a.map.now a.card.now in
    let q = within a.held a.limits.now q₀ in
    let p = err_from_is_err_and c.from_residual.result c.from_residual.ensures.1 in
    rw (p.1, p.2) (
      (verdict_behind q a.m
          ∙ ap (λ (v : Verdict). settle v (run q a.m (a.asked.entry.start + a.asked.entry.length)) refused)
          (sym (adding_within a.held a.limits.now q₀ a.m) ∙ c.in_err-add.ensures)),
      tt,
    )

pub over_limit-over-requires : goal.over_limit-over-requires
over_limit-over-requires c =
    let a = c.args in
    (added (lent_for a.asked names.grow a.guided a.summary.now a.map.now a.card.now) a.m c.in_ok-add.ensures).below

pub overflow_add-end : goal.overflow_add-end
overflow_add-end c =
    let a = c.args in
    let g = added (lent_for a.asked names.grow a.guided a.summary.now a.map.now a.card.now) a.m c.in_ok-add.ensures in
    omega (arith, g.extent.starts, g.extent.lasts, g.extent.inside, g.sizes.shape.limit)

pub run_ruling-requires : goal.run_ruling-requires
run_ruling-requires c =
    let a = c.args in
    let g = added (lent_for a.asked names.grow a.guided a.summary.now a.map.now a.card.now) a.m c.in_ok-add.ensures in
    (omega (arith, g.sizes.shape.limit), omega (arith, g.sizes.shape.covered))

pub returns : goal.returns
returns c =
    let a = c.args in
    let q₀ = lent_for a.asked names.grow a.guided a.summary.now a.map.now a.card.now in
    let q = within a.held a.limits.now q₀ in
    let same : run_verdict 11 c.over_limit-over.result (free a.map.now) a.asked.n a.asked.free
    (a.asked.entry.start + a.asked.entry.length) a.m
    ≡ grow_verdict q a.m =
    ap (λ (o : Bool). run_verdict 11 o (free q.map) q.n q.spare (a.asked.entry.start + a.asked.entry.length) a.m)
    c.over_limit-over.ensures
    ∙ sym (verdict_behind q a.m
    ∙ ap (λ (v : Verdict). settle v (run q a.m (a.asked.entry.start + a.asked.entry.length)) refused)
    (sym (adding_within a.held a.limits.now q₀ a.m) ∙ c.in_ok-add.ensures)) in
    (subst (λ (v : Verdict). Follows v c.run_ruling.result) same c.run_ruling.ensures.0, c.run_ruling.ensures.1)
