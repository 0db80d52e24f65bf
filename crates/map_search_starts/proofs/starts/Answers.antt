-- `map_search_starts::starts` meets its contract.
-- Assumes nothing.

use native.Mathlib.Omega.{arith}
use Rattle.map_search_starts.proofs.Steps.{shifted}
use Rattle.map_search_starts.proofs.starts.Goals as goal

pub returns : goal.returns
returns c = λ base e.
    shifted c.args.step base c.args.far c.args.below (omega arith) c.requires.2 (omega arith) (omega arith) e
