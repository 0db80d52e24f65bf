-- `call_release::allowed` meets its contract: each way out by its row.
-- Assumes nothing.

use mathlib.Core.Path.{refl, ap, ◌∙◌}
use native.Mathlib.Omega.{arith}
use Rattle.std.specs.Prelude.{Ok}
use Rattle.std.proofs.lemmas.Result.{err_from_is_err_and}
use Rattle.roles.specs.Roles as names
use Rattle.refusals.specs.Lent.{lent_for, no_card}
use Rattle.refusals.proofs.Guides.{first_is_at}
use Rattle.refusals.proofs.Release.{shut, absent, limits, over, passes}
use Rattle.call_release.proofs.allowed.Goals as goal

pub returns-in_err-stands : goal.returns-in_err-stands
returns-in_err-stands c =
    let a = c.args in
    let q = lent_for a.asked names.release a.guided a.summary.now a.map.now no_card in
    let p = err_from_is_err_and c.from_residual.result c.from_residual.ensures.1 in
    rw (p.1, p.2) (shut q _ refl (first_is_at q c.begin.ensures c.in_err-stands.was))

pub returns-in-Absent : goal.returns-in-Absent
returns-in-Absent c =
    let a = c.args in
    let q = lent_for a.asked names.release a.guided a.summary.now a.map.now no_card in
    absent q refl (first_is_at q c.begin.ensures (c.in_ok-stands.was ∙ ap Ok c.in-Absent.is))

pub overflow_sub-asked : goal.overflow_sub-asked
overflow_sub-asked c =
    let a = c.args in
    let q = lent_for a.asked names.release a.guided a.summary.now a.map.now no_card in
    omega (arith, (limits q _ refl (first_is_at q c.begin.ensures c.in_ok-stands.was)).spare)

pub returns-then-asked : goal.returns-then-asked
returns-then-asked c =
    let a = c.args in
    let q = lent_for a.asked names.release a.guided a.summary.now a.map.now no_card in
    over q _ refl (first_is_at q c.begin.ensures c.in_ok-stands.was) c.in_default.not-Absent c.if-asked.true

pub returns : goal.returns
returns c =
    let a = c.args in
    let q = lent_for a.asked names.release a.guided a.summary.now a.map.now no_card in
    passes q _ refl (first_is_at q c.begin.ensures c.in_ok-stands.was) c.in_default.not-Absent c.if-asked.false
