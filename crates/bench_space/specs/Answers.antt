-- What C is answered: the space of document 02 (b).
-- Assumes nothing.
use Rattle.std.specs.Prelude.{cond, List, ℕ}
use Rattle.map_blocks.specs.Blocks.{free, space}
use Rattle.bench_map.specs.Answers.{within_limits}

-- The space behind a start in a card of n blocks.
unfoldable pub space_answered : List ℕ → ℕ → ℕ → ℕ
unfolding within_limits
space_answered map n start = cond (within_limits map n) (space (free map) start n) 0xffff_fffe
