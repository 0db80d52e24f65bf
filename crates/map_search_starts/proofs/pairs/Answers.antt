-- `map_search_starts::pairs` meets its contract.
-- Assumes nothing.

use Rattle.map_search_starts.proofs.Spans.{pair}
use Rattle.map_search_starts.proofs.pairs.Goals as goal

pub returns : goal.returns
returns c = λ f k base here behind alone j l e.
    pair f base c.args.w c.args.n here behind c.args.lone k alone j l e
