-- `bench_map::within_limits` meets its contract: each way out is one of the limits.
-- Assumes nothing.

use borrow.Author.Rules.{rules}
use native.Mathlib.Omega.{arith}
use Rattle.bench_map.proofs.Limits.{empty, large, sized}
use Rattle.bench_map.proofs.within_limits.Goals as goal

pub returns-then-n-eq0 : goal.returns-then-n-eq0
returns-then-n-eq0 c = empty _ _ (search rules)

pub returns-then-n-gt-BLOCKS : goal.returns-then-n-gt-BLOCKS
returns-then-n-gt-BLOCKS c = large _ _ (search rules)

pub returns : goal.returns
returns c = sized _ _ (omega arith) (omega arith)
