-- `summary_write::store` meets its contract: three stores.
-- Assumes nothing.

use native.Mathlib.Omega.{arith}
use lib.ListN.{length-set}
use Rattle.summary_write.proofs.store.Goals as goal

pub bounds-summary-i-2 : goal.bounds-summary-i-2
bounds-summary-i-2 c = simp length-set (omega arith)

pub bounds-summary-i-3 : goal.bounds-summary-i-3
bounds-summary-i-3 c = simp length-set (omega arith)
