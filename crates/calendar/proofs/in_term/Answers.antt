-- `in_term` meets its contract: the two stored days, and the span between them.
-- Assumes nothing.

use Rattle.calendar.proofs.Terms.{in_term_by}
use Rattle.calendar.proofs.in_term.Goals as goal

pub returns : goal.returns
returns c = in_term_by _ _ _ _ _ c.get4.ensures c.get4-2.ensures c.in_span.ensures
