-- What C is answered: the search of document 02 (a) as a number.
-- Assumes nothing.
use Rattle.std.specs.Prelude.{◌&&◌, cond, List, ℕ, leb}
use Rattle.map_blocks.specs.Blocks.{free, least_fit}
use Rattle.bench_map.specs.Answers.{within_limits, start_for}

-- The search for k within the figures from, before and step, for k ≥ 1, a step ≥ 1 and before ≤ n.
unfoldable pub placed_searched : List ℕ → ℕ → ℕ → ℕ → ℕ → ℕ → ℕ
unfolding within_limits
placed_searched map n from before step k =
    cond (leb 1 k && leb 1 step && leb before n && within_limits map n) (start_for (least_fit (free map) from before step k))
    0xffff_fffe
