-- `summary_search::Place::pass` meets its contract, each way by a law of Ways.
-- Assumes nothing.

use Rattle.std.proofs.Common.{arith}
use Rattle.summary_search.proofs.Ways.{passed-small, passed-least, none-behind, second_half_lem, whole-passed}
use Rattle.summary_search.proofs.Place.pass.Goals as goal

pub overflow_sub-g : goal.overflow_sub-g
overflow_sub-g c =
    omega (arith, (whole-passed _ _ _ _ _ _ _ _ c.requires.3 c.if-self-eq1.false c.if-self-whole.false).some)

pub overflow_sub-base : goal.overflow_sub-base
overflow_sub-base c =
    omega (arith, (whole-passed _ _ _ _ _ _ _ _ c.requires.3 c.if-self-eq1.false c.if-self-whole.false).back)

pub returns-then-self-whole : goal.returns-then-self-whole
returns-then-self-whole c = λ summary at k p. none-behind summary at k _ _ _ _ _ p c.if-self-whole.true

pub returns-then-self-eq1 : goal.returns-then-self-eq1
returns-then-self-eq1 c = λ summary at k p. (
  second_half_lem summary at k _ _ _ _ _ p c.if-self-eq1.true,
  omega (arith, passed-small _ _ _ _ _ _ _ _ p, passed-least _ _ _ _ _ _ _ _ p),
)

pub returns : goal.returns
returns c = λ summary at k p.
    let b = whole-passed summary at k _ _ _ _ _ p c.if-self-eq1.false c.if-self-whole.false in
    (b.up, omega (arith, b.some, b.back, passed-small _ _ _ _ _ _ _ _ p))
