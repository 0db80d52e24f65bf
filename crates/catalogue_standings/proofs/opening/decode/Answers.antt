-- `catalogue_standings::opening::decode` meets its contract, mark by mark.
-- Assumes nothing.

use borrow.Author.Tests.{eq-eqb, ne_eqb}
use Rattle.catalogue_standings.specs.Standings.{standing_of}
use Rattle.catalogue_standings.proofs.opening.decode.Goals as goal

pub returns-then-mark-eq-ABSENT : goal.returns-then-mark-eq-ABSENT
unfolding standing_of
returns-then-mark-eq-ABSENT c = simp (eq-eqb _ _ c.if-mark-eq-ABSENT.true) c.without_extent.ensures

pub returns-then-mark-eq-PAUSED : goal.returns-then-mark-eq-PAUSED
unfolding standing_of
returns-then-mark-eq-PAUSED c = simp (ne_eqb _ _ c.if-mark-eq-ABSENT.false, eq-eqb _ _ c.if-mark-eq-PAUSED.true)
    c.either_pause.ensures

pub returns-then-mark-eq-OPEN : goal.returns-then-mark-eq-OPEN
unfolding standing_of
returns-then-mark-eq-OPEN c = simp (
  ne_eqb _ _ c.if-mark-eq-ABSENT.false,
  ne_eqb _ _ c.if-mark-eq-PAUSED.false,
  eq-eqb _ _ c.if-mark-eq-OPEN.true,
) c.with_extent.ensures

pub returns-then-mark-eq-COMPLETE : goal.returns-then-mark-eq-COMPLETE
unfolding standing_of
returns-then-mark-eq-COMPLETE c = simp (
  ne_eqb _ _ c.if-mark-eq-ABSENT.false,
  ne_eqb _ _ c.if-mark-eq-PAUSED.false,
  ne_eqb _ _ c.if-mark-eq-OPEN.false,
  eq-eqb _ _ c.if-mark-eq-COMPLETE.true,
) c.with_extent-then-mark-eq-COMPLETE.ensures

pub returns : goal.returns
unfolding standing_of
returns c = simp (
  ne_eqb _ _ c.if-mark-eq-ABSENT.false,
  ne_eqb _ _ c.if-mark-eq-PAUSED.false,
  ne_eqb _ _ c.if-mark-eq-OPEN.false,
  ne_eqb _ _ c.if-mark-eq-COMPLETE.false,
)
