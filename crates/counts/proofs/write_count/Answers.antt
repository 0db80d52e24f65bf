-- `write_count` meets its contract, at each of its answers: the part that is lent is the four bytes of the count.
-- Assumes nothing.

use mathlib.Core.Path.{sym, ◌∙◌}
use Rattle.counts.proofs.Tests.{write_wrong, write-none, write-range, write_done}
use Rattle.counts.proofs.write_count.Goals as goal

pub returns-then-payload-ne-PAYLOAD : goal.returns-then-payload-ne-PAYLOAD
returns-then-payload-ne-PAYLOAD c = write_wrong c.args.payload.now c.args.which c.args.count c.if-payload-ne-PAYLOAD.true

pub returns-then-which-ge-COUNTS : goal.returns-then-which-ge-COUNTS
returns-then-which-ge-COUNTS c = write-none c.args.payload.now c.args.which c.args.count c.if-payload-ne-PAYLOAD.false
    c.if-which-ge-COUNTS.true

pub stored-requires : goal.stored-requires
stored-requires c = sym c.in_range.ensures ∙ c.if-in_range.true

pub returns-then-in_range : goal.returns-then-in_range
returns-then-in_range c = write_done c.args.payload.now c.args.which c.args.count
    c.if-payload-ne-PAYLOAD.false _ c.if-which-ge-COUNTS.false
    (sym c.in_range.ensures ∙ c.if-in_range.true)
    (c.put4.ensures ∙ c.stored.ensures)

pub returns : goal.returns
returns c = write-range c.args.payload.now c.args.which c.args.count
    c.if-payload-ne-PAYLOAD.false (sym c.in_range.ensures ∙ c.if-in_range.false)
