-- Bytes with some of them replaced.
-- Assumes nothing.
use Rattle.std.specs.Prelude.{List, ◌++◌, ℕ, length, take, drop}

-- bytes with those from `at` on replaced by `news`
unfoldable pub replaced : List ℕ → ℕ → List ℕ → List ℕ
replaced bytes at news = take at bytes ++ (news ++ drop (length news) (drop at bytes))
