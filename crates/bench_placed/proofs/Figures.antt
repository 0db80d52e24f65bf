-- What is answered within the limits of a map and of the figures, and outside them.
-- Assumes nothing.
use mathlib.Core.Path.{◌≡◌}
use mathlib.Core.Bool.{true, false}
use mathlib.Core.List.{List}
use Prim.Native.Nat.{ℕ, ◌≤◌, ◌<◌}
use native.Mathlib.Omega.{arith}
use borrow.Author.Tests.{le-leb, lt-leb}
use Rattle.map_blocks.specs.Blocks.{free, least_fit}
use Rattle.bench_map.specs.Answers.{within_limits, start_for}
use Rattle.bench_placed.specs.Answers.{placed_searched}

module _ (map : List ℕ) (n from before step k : ℕ) where
  pub no_blocks : k ≡ 0 → 0xffff_fffe ≡ placed_searched map n from before step k
  unfolding placed_searched
  no_blocks e = simp (lt-leb 1 k (omega arith))

  pub no_step : 0 < k → step ≡ 0 → 0xffff_fffe ≡ placed_searched map n from before step k
  unfolding placed_searched
  no_step p e = simp (le-leb 1 k p, lt-leb 1 step (omega arith))

  pub past_last : 0 < k → 0 < step → n < before → 0xffff_fffe ≡ placed_searched map n from before step k
  unfolding placed_searched
  past_last p s l = simp (le-leb 1 k p, le-leb 1 step s, lt-leb before n l)

  pub placed_outside : 0 < k → 0 < step → before ≤ n → within_limits map n ≡ false
      → 0xffff_fffe ≡ placed_searched map n from before step k
  unfolding placed_searched
  placed_outside p s l e = simp (le-leb 1 k p, le-leb 1 step s, le-leb before n l, e)

  pub placed_within : 0 < k → 0 < step → before ≤ n → within_limits map n ≡ true
      → start_for (least_fit (free map) from before step k) ≡ placed_searched map n from before step k
  unfolding placed_searched
  placed_within p s l e = simp (le-leb 1 k p, le-leb 1 step s, le-leb before n l, e)
