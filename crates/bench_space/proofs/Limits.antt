-- What is answered within the limits of a map, and outside them.
-- Assumes nothing.
use mathlib.Core.Path.{◌≡◌}
use mathlib.Core.Bool.{true, false}
use mathlib.Core.List.{List}
use Prim.Native.Nat.{ℕ}
use Rattle.map_blocks.specs.Blocks.{free, space}
use Rattle.bench_map.specs.Answers.{within_limits}
use Rattle.bench_space.specs.Answers.{space_answered}

module _ (map : List ℕ) (n start : ℕ) where
  pub space_within : within_limits map n ≡ true → space (free map) start n ≡ space_answered map n start
  unfolding space_answered
  space_within e = simp e

  pub space_outside : within_limits map n ≡ false → 0xffff_fffe ≡ space_answered map n start
  unfolding space_answered
  space_outside e = simp e
