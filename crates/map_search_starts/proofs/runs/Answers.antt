-- `map_search_starts::runs` meets its contract.
-- Assumes nothing.

use native.Mathlib.Omega.{arith}
use Rattle.map_search_starts.proofs.Spans.{run-bits}
use Rattle.map_search_starts.proofs.runs.Goals as goal

pub returns : goal.returns
returns c = let a = c.args in
    λ f base here behind. run-bits f base a.w a.n here behind a.k c.tail.result c.head.result
    c.min.result c.ending.result c.span.result c.gaps.result (omega arith)
    (omega arith) c.tail.ensures c.ending.ensures c.head.ensures c.span.ensures
    c.min.ensures c.gaps.ensures
