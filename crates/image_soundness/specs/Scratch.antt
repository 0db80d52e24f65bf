-- The scratch of save and load (document 02, (h)).
-- Assumes nothing.
use Rattle.std.specs.Prelude.{ℕ, min}

-- 64 words, or the map's length if that is less.
abbrev pub scratch_words : ℕ → ℕ
scratch_words maplen = min 64 maplen
