-- The words of a map that a search goes through, and what it has found at its end. Names for the contracts of the functions
-- below the search.
-- Assumes nothing.
use Rattle.std.specs.Prelude.{Option, Some, None}
use Rattle.std.specs.Prelude.{ℕ, ◌+◌, ◌*◌, ◌≤◌, ◌<◌, ◌≡◌, Bool, false, List, get_or}
use Rattle.map_blocks.specs.Blocks.{all}
use Rattle.map_blocks.specs.Words.{bit}
use Rattle.map_search_word.specs.Scan.{Least}

-- The words first to stop - 1 of a map show which blocks are free: block b where f b.
abbrev pub HasBits : List ℕ → ℕ → ℕ → (ℕ → Bool) → Type 0
HasBits map first stop f = (i j : ℕ) → first ≤ i → i < stop → j < 64 → bit (get_or map i 0) j ≡ f (i * 64 + j)

-- What a search has found at its end.
abbrev pub Finds : (ℕ → Bool) → ℕ → Option ℕ → Type 0
Finds f k (Some r) = Least f k r
Finds f k None = (t : ℕ) → all f t k ≡ false
