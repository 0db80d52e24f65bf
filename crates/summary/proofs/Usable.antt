-- The blocks that count as free: below n those that are, from n on none.
-- Assumes nothing.
use mathlib.Core.Path.{◌≡◌, ap}
use mathlib.Core.Bool.{Bool, false, ◌&&◌}
use mathlib.Core.List.{List}
use Prim.Native.Nat.{ℕ, ◌≤◌, ◌<◌}
use native.Mathlib.Omega.{arith}
use lib.Dec.{ltb}
use borrow.Author.Tests.{lt-ltb, le-ltb, le-leb}
use Rattle.map_blocks.specs.Blocks.{free}
use Rattle.map_blocks.specs.Words.{in_window}
use Rattle.summary.specs.Summary.{usable}

module _ (map : List ℕ) (n b : ℕ) where
  pub from_n : n ≤ b → usable map n b ≡ false
  unfolding usable
  from_n l = ap (λ (x : Bool). x && free map b) (le-ltb b n l)

  pub below_n : b < n → usable map n b ≡ free map b
  unfolding usable
  below_n l = ap (λ (x : Bool). x && free map b) (lt-ltb b n l)

  -- they are those of a window from block 0 on
  pub in_window_lem : in_window (free map) 0 n b ≡ usable map n b
  unfolding usable
  in_window_lem = ap (λ (x : Bool). (x && ltb b n) && free map b) (le-leb 0 b (omega arith))
