-- `is_blank` meets its contract. The invariant: what is gathered is 0 and the rest is blank exactly if the whole is blank.
-- Assumes nothing.
use mathlib.Core.Path.{◌≡◌}
use mathlib.Core.Bool.{◌&&◌}
use lib.Dec.{eqb}
use lib.ListN.{drop}
use Rattle.block_seals.specs.Sealed.{blank}
use Rattle.block_seals.proofs.is_blank.Given as goal

abbrev pub invariant-loop-i : goal.invariant-loop-i
invariant-loop-i l = eqb l.all 0 && blank (drop l.i l.block) ≡ blank l.block
