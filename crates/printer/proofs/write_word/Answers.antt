-- `write_word` meets its contract: as many bytes of the word stand there as were passed.
-- Assumes nothing.

use Rattle.printer.proofs.Written.{writes_none, writes_next, writes_all}
use Rattle.printer.proofs.write_word.Goals as goal

pub loop-byte-init : goal.loop-byte-init
loop-byte-init c = let a = c.args in writes_none a.text.now a.at

pub loop-byte-preserved : goal.loop-byte-preserved
loop-byte-preserved c =
    writes_next _ _ _ _ _ _ _ _ c.loop-byte-test.true c.loop-byte.invariant c.write_byte-place.ensures

pub returns : goal.returns
returns c = writes_all _ _ _ _ _ _ c.loop-byte-test.false c.loop-byte.invariant
