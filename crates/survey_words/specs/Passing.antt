-- What a survey keeps of the blocks passed, and a word before them as it goes by the bytes. Names for the contracts of the
-- functions below the survey; its own contract needs none of them.
-- Assumes nothing.
use Rattle.std.specs.Prelude.{◌≡◌, Bool, List, ℕ, zero, suc, ◌+◌, ◌/◌, ◌%◌, ◌<◌}
use Rattle.survey_bytes.specs.Runs.{head_of, longest_of, runs_of}
use Rattle.survey_bytes.specs.Bytes.{bits_of}

-- The numbers that a survey keeps of the blocks passed.
pub record Summary (head longest runs : ℕ) (xs : List Bool) : Type 0 where
  pub heads : head ≡ head_of xs
  pub longests : longest ≡ longest_of xs
  pub counts : runs ≡ runs_of xs

-- None of the k last bytes of w is all free.
abbrev pub Short : ℕ → ℕ → Type 0
Short zero w = Unit {0}
Short (suc k) w = (longest_of (bits_of 8 (w % 256)) < 8) × Short k (w / 256)

-- The runs of each of the k last bytes of w, added up.
unfoldable pub runs_in : ℕ → ℕ → ℕ
runs_in zero w = 0
runs_in (suc k) w = runs_of (bits_of 8 (w % 256)) + runs_in k (w / 256)
