-- The rule of the table of bytes (document 01, "Map and search"; document 02 (c)), and where the bytes of a word meet.
-- Assumes nothing.
use Rattle.std.specs.Prelude.{◌≡◌, Bool, List, [], ◌∷◌, ℕ, zero, suc, ◌+◌, ◌/◌, ◌%◌, ◌^◌, ◌<◌, min, eqb, get_or}
use Rattle.survey_bytes.specs.Runs.{longest_of, runs_of}

-- The k low bits of a number, the most significant first.
unfoldable pub bits_of : ℕ → ℕ → List Bool
bits_of zero n = []
bits_of (suc k) n = eqb (n / 2 ^ k % 2) 1 ∷ bits_of k n

-- The two columns of the table, for the bits of a byte: longest run, number of runs.
unfoldable pub column : ℕ → List Bool → ℕ
unfolding longest_of runs_of
column zero xs = longest_of xs
column (suc c) xs = runs_of xs

-- The table's rule: row b holds the two columns of the byte b.
abbrev pub Ruled : List (ℕ × ℕ) → Type 0
Ruled rows = (b : ℕ) → b < 256 → get_or rows b (0, 0) ≡ (column 0 (bits_of 8 b), column 1 (bits_of 8 b))

-- No run goes on from one of the k + 1 last bytes of w into the next: of the last bit of a byte and the first bit of the
-- next, one is 0.
abbrev pub Apart : ℕ → ℕ → Type 0
Apart zero w = Unit {0}
Apart (suc k) w = (min (w / 256 % 2) (w / 128 % 2) ≡ 0) × Apart k (w / 256)

-- How often a run goes on from one of the k + 1 last bytes of w into the next.
unfoldable pub crossed : ℕ → ℕ → ℕ
crossed zero w = 0
crossed (suc k) w = min (w / 256 % 2) (w / 128 % 2) + crossed k (w / 256)
