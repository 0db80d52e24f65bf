-- What the functions on one word tell. Names for their contracts.
-- Assumes nothing.
use Rattle.std.specs.Prelude.{◌≡◌, ℕ, suc, ◌+◌, ◌^◌, ◌<◌, ◌≤◌, true, false}
use Rattle.map_blocks.specs.Blocks.{all}
use Rattle.map_blocks.specs.Words.{bit}

-- The bits of m are where the runs of r ones of w start.
abbrev pub StartsOf : ℕ → ℕ → ℕ → Type 0
StartsOf w r m = (j : ℕ) → bit m j ≡ all (bit w) j r

-- w has runs of `length` ones, which start where `starts` has its bits, and none of `more` more.
pub record Reaching (w starts length more : ℕ) : Type 0 where
  pub at : StartsOf w length starts
  pub some : 0 < starts
  pub word : starts < 2 ^ 64
  pub none : (j : ℕ) → all (bit w) j (length + more) ≡ false

-- w has a run of r ones, and none of more.
pub record Longest (w r : ℕ) : Type 0 where
  pub start : ℕ
  pub within : start + r ≤ 64
  pub run : all (bit w) start r ≡ true
  pub none : (j : ℕ) → all (bit w) j (suc r) ≡ false
