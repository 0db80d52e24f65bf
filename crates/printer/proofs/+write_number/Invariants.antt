-- The measure of the cycle of calls {write_number}: the number, which gets shorter by its last digit.
-- Assumes nothing.
use Rattle.printer.proofs.+write_number.Given as goal

abbrev pub decreases-write_number : goal.decreases-write_number
decreases-write_number l = l.number
