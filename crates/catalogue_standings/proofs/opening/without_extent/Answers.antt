-- `catalogue_standings::opening::without_extent` meets its contract, test by test.
-- Assumes nothing.

use borrow.Author.Tests.{eq-eqb, ne_eqb}
use Rattle.catalogue_standings.proofs.opening.without_extent.Goals as goal

pub returns-then-blocks-eq0 : goal.returns-then-blocks-eq0
returns-then-blocks-eq0 c = simp (eq-eqb _ _ c.if-start-eq0.true, eq-eqb _ _ c.if-blocks-eq0.true)

pub returns-else-blocks-eq0 : goal.returns-else-blocks-eq0
returns-else-blocks-eq0 c = simp (eq-eqb _ _ c.if-start-eq0.true, ne_eqb _ _ c.if-blocks-eq0.false)

pub returns-else-start-eq0 : goal.returns-else-start-eq0
returns-else-start-eq0 c = simp (ne_eqb _ _ c.if-start-eq0.false)
