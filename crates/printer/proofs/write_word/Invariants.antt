-- `write_word` meets its contract: as many bytes of the word stand there as were passed.
-- Assumes nothing.

use lib.ListN.{take}
use Rattle.printer.specs.Writing.{Writes}
use Rattle.printer.proofs.write_word.Given as goal

abbrev pub invariant-loop-byte : goal.invariant-loop-byte
invariant-loop-byte l = Writes (take l.byte-index l.word) l.initial.text l.at l.place l.text
