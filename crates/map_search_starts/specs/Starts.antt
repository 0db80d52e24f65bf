-- The starts of a search as bits of a word, and what it knows of the blocks that it has passed. Names for the contracts of
-- `map_search_starts`, and of the functions that go through a map by it. q says where a run may start, f which blocks are free.
-- Assumes nothing.
use Rattle.std.specs.Prelude.{Option, Some, None}
use Rattle.std.specs.Prelude.{ℕ, ◌+◌, ◌%◌, ◌≤◌, ◌<◌, ◌≡◌, Bool, true, false}
use Rattle.map_blocks.specs.Blocks.{all, on_step}
use Rattle.map_blocks.specs.Words.{bit}

-- The bits of m are what the test p says of the 64 blocks from base on.
abbrev pub Marks : (ℕ → Bool) → ℕ → ℕ → Type 0
Marks p base m = (j : ℕ) → j < 64 → bit m j ≡ p (base + j)

-- r ones stand at the beginning of w, and no more.
pub record Head (w r : ℕ) : Type 0 where
  pub within : r ≤ 64
  pub held : (j : ℕ) → j < r → bit w j ≡ true
  pub stop : r < 64 → bit w r ≡ false

-- Where a run of one block is looked for, the word is all ones.
abbrev pub Alone : ℕ → ℕ → Type 0
Alone k lone = (0 < k) × (k < 2 → (j : ℕ) → j < 64 → bit lone j ≡ true)

-- The multiples of step have their bits in m, in whichever word they are.
abbrev pub Often : ℕ → ℕ → Type 0
Often step m = (t : ℕ) → on_step step t ≡ true → bit m (t % 64) ≡ true

-- No run of k starts from block a to b - 1.
abbrev pub NoRun : (ℕ → Bool) → (ℕ → Bool) → ℕ → ℕ → ℕ → Type 0
NoRun q f k a b = (t : ℕ) → a ≤ t → t < b → q t ≡ true → all f t k ≡ false

-- The first run of k that starts from block a to b - 1 starts at r.
pub record FirstRun (q f : ℕ → Bool) (k a b r : ℕ) : Type 0 where
  pub low : a ≤ r
  pub high : r < b
  pub none : NoRun q f k a r
  pub start : q r ≡ true
  pub fits : all f r k ≡ true

-- What a search from block a to b - 1 has found: the first run, or that none starts there.
abbrev pub FindsFirst : (ℕ → Bool) → (ℕ → Bool) → ℕ → ℕ → ℕ → Option ℕ → Type 0
FindsFirst q f k a b (Some r) = FirstRun q f k a b r
FindsFirst q f k a b None = NoRun q f k a b
