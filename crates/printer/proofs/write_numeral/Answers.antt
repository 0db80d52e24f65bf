-- `write_numeral` meets its contract.
-- Assumes nothing.

use mathlib.Core.List.{List, [], ◌∷◌}
use Prim.Native.Nat.{ℕ}
use Rattle.printer.specs.Decimal.{decimal, numeral}
use Rattle.printer.specs.Writing.{Writes}
use Rattle.printer.proofs.Written.{then}
use Rattle.printer.proofs.write_numeral.Goals as goal

both : (n end : ℕ) (text text' text'' : List ℕ) (at at' at'' : ℕ) → Writes (decimal n) text at at' text'
    → Writes (end ∷ []) text' at' at'' text''
    → Writes (numeral n end) text at at'' text''
unfolding numeral
both n end text text' text'' at at' at'' w w' = then w w'

pub returns : goal.returns
returns c = both _ _ _ _ _ _ _ _ c.write_number-last.ensures
    c.write_byte.ensures
