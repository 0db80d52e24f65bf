-- `catalogue_standings::opening::with_extent` meets its contract.
-- Assumes nothing.

use mathlib.Core.Path.{sym, ◌∙◌}
use Rattle.catalogue_standings.proofs.opening.with_extent.Goals as goal

pub returns-then-extent_holds : goal.returns-then-extent_holds
returns-then-extent_holds c = simp (sym c.extent_holds.ensures ∙ c.if-extent_holds.true)

pub returns : goal.returns
returns c = simp (sym c.extent_holds.ensures ∙ c.if-extent_holds.false)
