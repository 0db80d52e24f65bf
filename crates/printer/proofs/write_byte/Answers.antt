-- `write_byte` meets its contract.
-- Assumes nothing.

use mathlib.Core.List.{[], ◌∷◌}
use Rattle.printer.proofs.Written.{writes_byte, writes_past}
use Rattle.printer.proofs.write_byte.Goals as goal

pub returns-then-at-text : goal.returns-then-at-text
returns-then-at-text c = let a = c.args in writes_byte a.byte a.text.now a.at c.if-at-text.true

pub returns : goal.returns
returns c = let a = c.args in writes_past (a.byte ∷ []) a.text.now a.at c.if-at-text.false
