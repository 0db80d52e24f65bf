-- The numbers of a byte in the table.
-- Assumes nothing.
use mathlib.Core.Path.{◌≡◌, refl}
use mathlib.Core.Bool.{Bool, true, false, cond}
use mathlib.Core.List.{List, [], ◌∷◌}
use Prim.Native.Nat.{ℕ, suc, ◌+◌, ◌≤◌}
use native.Mathlib.Omega.{arith}
use lib.Dec.{eqb}
use lib.ListN.{length}
use Rattle.survey_bytes.specs.Runs.{head_of, runs_of}
use Rattle.survey_bytes.specs.Bytes.{bits_of}

pub eight : (n : ℕ) → length (bits_of 8 n) ≡ 8
unfolding bits_of
eight n = refl

-- a list has no more runs than blocks
pub runs_length : (xs : List Bool) → runs_of xs ≤ length xs
unfolding runs_of
runs_length [] = omega arith
runs_length (true ∷ xs) = one (eqb (head_of xs) 0) (runs_length xs)
  where
    one : (b : Bool) → runs_of xs ≤ length xs → cond b 1 0 + runs_of xs ≤ suc (length xs)
    one true l = omega arith
    one false l = omega arith
runs_length (false ∷ xs) = omega (arith, runs_length xs)
