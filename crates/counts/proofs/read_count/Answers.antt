-- `read_count` meets its contract, at each of its answers.
-- Assumes nothing.

use Rattle.counts.proofs.Tests.{read_wrong, read_told, read_none}
use Rattle.counts.proofs.read_count.Goals as goal

pub returns-then-payload-ne-PAYLOAD : goal.returns-then-payload-ne-PAYLOAD
returns-then-payload-ne-PAYLOAD c = read_wrong c.args.payload.now c.args.which c.if-payload-ne-PAYLOAD.true

pub returns-then-which-lt-COUNTS : goal.returns-then-which-lt-COUNTS
returns-then-which-lt-COUNTS c = read_told c.args.payload.now c.args.which _ _
    c.if-payload-ne-PAYLOAD.false
    c.if-which-lt-COUNTS.true
    (λ i. (c.type_inv.payload i).fits)
    c.get4.ensures
    c.count_of.ensures

pub returns : goal.returns
returns c = read_none c.args.payload.now c.args.which c.if-payload-ne-PAYLOAD.false c.if-which-lt-COUNTS.false
