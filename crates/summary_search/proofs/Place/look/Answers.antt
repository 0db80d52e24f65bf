-- `summary_search::Place::look` meets its contract, each way by a law of Ways.
-- Assumes nothing.

use Rattle.std.proofs.Common.{◌≡◌, ℕ, Option, Some, sym, ap, ◌∙◌, arith}
use Rattle.std.specs.declared.ops.ControlFlow.{ControlFlow}
use Rattle.summary_groups.specs.declared.Group.{Group}
use Rattle.summary_search.specs.SearchBy.{glance_of}
use Rattle.summary_search.proofs.Ways.{ahead_small, ahead-least, ahead-few, told-hit, told-next, in_word, first_half_lem}
use Rattle.summary_search.proofs.Place.look.Goals as goal

-- what the group read tells
glanced : (at k base m s : ℕ) {x y : Group} {r : Option (ControlFlow ℕ ℕ)} → x ≡ y → r ≡ glance_of x at k base m s
    → glance_of y at k base m s ≡ r
glanced at k base m s e q = ap (λ (z : Group). glance_of z at k base m s) (sym e) ∙ sym q

pub returns-in-Some-Break : goal.returns-in-Some-Break
returns-in-Some-Break c = λ whole a.
    told-hit _ _ _ whole _ _ _ _ a _
    (glanced _ _ _ _ _ c.read.ensures c.glance_at.ensures ∙ c.in-Some-Break.is ∙ ap Some c.in-Some-Break.field-0-is)

pub returns-in-Some-Continue : goal.returns-in-Some-Continue
returns-in-Some-Continue c = λ whole a.
    let e = glanced _ _ _ _ _ c.read.ensures c.glance_at.ensures
    ∙ c.in-Some-Continue.is ∙ ap Some c.in-Some-Continue.field-0-is in (
      told-next _ _ _ whole _ _ _ _ a _ e,
      omega (arith, ahead-least _ _ _ _ _ _ _ _ a, ahead_small _ _ _ _ _ _ _ _ a, ahead-few _ _ _ _ _ _ _ _ a),
    )

pub returns-then-self-eq64 : goal.returns-then-self-eq64
returns-then-self-eq64 c = λ whole a.
    in_word _ _ _ whole _ _ _ _ a (glanced _ _ _ _ _ c.read.ensures c.glance_at.ensures ∙ c.in-None.is) c.if-self-eq64.true _
    c.max.ensures

pub returns-else-self-eq64 : goal.returns-else-self-eq64
returns-else-self-eq64 c = λ whole a. (
  first_half_lem _ _ _ whole _ _ _ _ a (glanced _ _ _ _ _ c.read.ensures c.glance_at.ensures ∙ c.in-None.is)
      c.if-self-eq64.false,
  omega (arith, ahead-least _ _ _ _ _ _ _ _ a),
)
