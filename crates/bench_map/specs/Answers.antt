-- What C is answered: document 01's search and survey as numbers.
-- Assumes nothing.
use Rattle.std.specs.Prelude.{Option}
use Rattle.std.specs.Option.{unwrap_or}
use Rattle.std.specs.Prelude.{Bool, ◌&&◌, cond, List, ℕ, eqb, leb, length}
use Rattle.map_blocks.specs.Maps.{words_for}
use Rattle.map_blocks.specs.Blocks.{free, least_fit}
use Rattle.survey.specs.Survey.{counts_of}
use Rattle.survey.specs.declared.Counts as survey
use Rattle.bench_map.specs.declared.Counts.{Counts}

-- A card has 1 to 262,144 blocks, and its map n/64 words, rounded up.
unfoldable pub within_limits : List ℕ → ℕ → Bool
within_limits map n = leb 1 n && leb n 262144 && eqb (length map) (words_for n)

-- The number that stands for what a search found.
abbrev pub start_for : Option ℕ → ℕ
start_for found = unwrap_or found 0xffff_ffff

-- The search for k in a card of n blocks, for k ≥ 1.
unfoldable pub searched : List ℕ → ℕ → ℕ → ℕ
unfolding within_limits
searched map n k = cond (leb 1 k && within_limits map n) (start_for (least_fit (free map) 0 n 1 k)) 0xffff_fffe

-- The three counts, as C has them.
abbrev pub counts_for : survey.Counts → Counts
counts_for c = record { free = c.free; runs = c.runs; longest = c.longest }

-- The survey of a card of n blocks.
unfoldable pub surveyed : List ℕ → ℕ → Counts
unfolding within_limits
surveyed map n = cond (within_limits map n) (counts_for (counts_of (free map) n)) (record { free = 0; runs = 0; longest = 0 })
