-- The part of a word of a map that a survey reads. A name for the contract of a function below the survey; its own contract
-- does not need it.
-- Assumes nothing.
use Rattle.std.specs.Prelude.{◌≡◌, ◌&&◌, ℕ, ◌+◌, ◌-◌, ◌*◌, ◌<◌, leb, ltb}
use Rattle.map_blocks.specs.Words.{bit}

-- The mask m has the bits of those blocks of word i - 1 that lie before block n, and no others.
abbrev pub Before : ℕ → ℕ → ℕ → Type 0
Before n i m = 0 < i → (j : ℕ) → j < 64 → bit m j ≡ (leb 0 ((i - 1) * 64 + j) && ltb ((i - 1) * 64 + j) n)
