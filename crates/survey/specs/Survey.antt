-- The three counts of a survey, over the blocks of a card as a list (document 01, "Map and search"). The longest run and the
-- number of runs of a list are survey_bytes' (specs/Runs.antt).
-- Assumes nothing.
use Rattle.std.specs.Prelude.{Bool, cond, List, [], ◌∷◌, ℕ, zero, suc, ◌+◌}
use Rattle.survey_bytes.specs.Runs.{longest_of, runs_of}
use Rattle.survey.specs.declared.Counts.{Counts}

-- The m blocks from s on, in order; true is free.
unfoldable pub blocks : (ℕ → Bool) → ℕ → ℕ → List Bool
blocks f s zero = []
blocks f s (suc m) = f s ∷ blocks f (suc s) m

-- How many blocks are free.
unfoldable pub free_of : List Bool → ℕ
free_of [] = 0
free_of (x ∷ xs) = cond x 1 0 + free_of xs

-- What a survey of the first n blocks answers, f saying which are free.
unfoldable pub counts_of : (ℕ → Bool) → ℕ → Counts
unfolding blocks free_of runs_of longest_of
counts_of f n = record {
  free = free_of (blocks f 0 n);
  runs = runs_of (blocks f 0 n);
  longest = longest_of (blocks f 0 n);
}
