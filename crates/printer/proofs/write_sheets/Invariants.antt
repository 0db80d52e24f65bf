-- `write_sheets` meets its contract: the lines of the first `index` sheets stand there.
-- Assumes nothing.
use Rattle.std.proofs.Common.{take}
use Rattle.printer.specs.Text.{sheet_lines}
use Rattle.printer.specs.Writing.{Writes}
use Rattle.printer.proofs.write_sheets.Given as goal

abbrev pub invariant-loop-index : goal.invariant-loop-index
invariant-loop-index l = Writes (sheet_lines l.first (take l.index l.listed)) l.initial.text l.at l.place l.text
