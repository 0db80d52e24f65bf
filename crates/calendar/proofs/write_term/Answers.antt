-- `write_term` meets its contract: two parts of four bytes are lent, one behind the other.
-- Assumes nothing.

use Rattle.calendar.proofs.Terms.{wrong_length, done}
use Rattle.calendar.proofs.write_term.Goals as goal

pub returns-then-payload-ne-PAYLOAD : goal.returns-then-payload-ne-PAYLOAD
returns-then-payload-ne-PAYLOAD c = wrong_length c.args.payload.now _ _ c.if-payload-ne-PAYLOAD.true

pub returns : goal.returns
returns c = done c.args.payload.now _ _ c.if-payload-ne-PAYLOAD.false _ _
    c.put4.ensures c.put4-2.ensures
