-- `refusals_rulings::reserve_ruling` meets its contract: each way out by its row.
-- Assumes nothing.

use mathlib.Core.Path.{sym, ◌∙◌}
use native.Mathlib.Omega.{arith}
use Rattle.std.proofs.lemmas.Result.{err_from_is_err_and}
use Rattle.catalogue_standings.specs.Rows.{accepted, refused}
use Rattle.refusals.specs.Lent.{lent_for, within}
use Rattle.refusals.specs.Placement.{placed}
use Rattle.refusals.proofs.Beginnings.{given}
use Rattle.refusals.proofs.Placement.{figured}
use Rattle.refusals.proofs.Reserve.{passed, refused_before, searched, no_fit, too_few, passes, starts}
use Rattle.refusals_rulings.proofs.reserve_ruling.Goals as goal

pub returns-in_err-before_search : goal.returns-in_err-before_search
returns-in_err-before_search c =
    let a = c.args in
    let q = within a.held a.limits.now (lent_for a.asked a.call a.guided a.summary.now a.map.now a.card.now) in
    let p = err_from_is_err_and c.from_residual.result c.from_residual.ensures.1 in
    rw (p.1, p.2) (refused_before q a.k (placed a.figures) _ c.in_err-before_search.ensures, tt)

pub find_run-requires : goal.find_run-requires
find_run-requires c =
    let a = c.args in
    let q = within a.held a.limits.now (lent_for a.asked a.call a.guided a.summary.now a.map.now a.card.now) in
    let w = passed q a.k (placed a.figures) c.in_ok-before_search.ensures in
    let opens = given q a.k w.opens in
    let g = figured a.asked.n a.figures w.right in (
      omega (arith, opens.sizes.shape.words, opens.sizes.shape.limit),
      omega (arith, opens.sizes.shape.limit, g.inside),
      omega (arith, opens.sizes.shape.covered, g.inside),
      opens.guides,
      omega (arith, opens.some),
      omega (arith, g.stepped),
    )

pub returns-in_default : goal.returns-in_default
returns-in_default c =
    let a = c.args in
    let q = within a.held a.limits.now (lent_for a.asked a.call a.guided a.summary.now a.map.now a.card.now) in
    let p = placed a.figures in (
      searched q a.k p (refused 10) c.in_ok-before_search.ensures (no_fit q a.k p (sym c.find_run.ensures ∙ c.in_default.is)),
      tt,
    )

pub returns-then-asked-k : goal.returns-then-asked-k
returns-then-asked-k c =
    let a = c.args in
    let q = within a.held a.limits.now (lent_for a.asked a.call a.guided a.summary.now a.map.now a.card.now) in
    let p = placed a.figures in (
      searched q a.k p (refused 4) c.in_ok-before_search.ensures
          (too_few q a.k p c.in-Some.least (sym c.find_run.ensures ∙ c.in-Some.is) c.if-asked-k.true),
      tt,
    )

pub returns : goal.returns
returns c =
    let a = c.args in
    let q = within a.held a.limits.now (lent_for a.asked a.call a.guided a.summary.now a.map.now a.card.now) in
    let p = placed a.figures in
    let fit = sym c.find_run.ensures ∙ c.in-Some.is in (
      searched q a.k p accepted c.in_ok-before_search.ensures
          (passes q a.k p c.in-Some.least fit c.if-asked-k.false),
      starts q a.k p c.in-Some.least fit,
    )
