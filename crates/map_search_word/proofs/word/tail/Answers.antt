-- `map_search_word::word::tail` meets its contract: the zeros at the end of the complement are the ones at the end of the word.
-- Assumes nothing.

use Rattle.map_search_word.proofs.Ends.{tail_ones}
use Rattle.map_search_word.proofs.word.tail.Goals as goal

pub returns : goal.returns
returns c = tail_ones c.args.w c.ranges.w.fits
