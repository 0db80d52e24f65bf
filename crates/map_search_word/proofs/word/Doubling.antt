-- A round of the search in a word: a word of runs of m, shifted by d and combined with itself, is one of runs of m + d.
-- Assumes nothing.
use mathlib.Core.Path.{◌≡◌, ap, ap₂, ◌∙◌}
use mathlib.Core.Bool.{Bool, ◌&&◌}
use Prim.Native.Nat.{ℕ, ◌+◌, ◌*◌, ◌%◌, ◌^◌, ◌≤◌}
use lib.Bits.{bit_and}
use Rattle.map_blocks.specs.Blocks.{all}
use Rattle.map_blocks.specs.Words.{bit}
use Rattle.map_blocks.proofs.Bits.{bit_and_lem, bit_shl}
use Rattle.map_blocks.proofs.Runs.{all_join}

pub round : (w g m d : ℕ) → d ≤ m → ((j : ℕ) → bit g j ≡ all (bit w) j m) → (j : ℕ)
    → bit (bit_and g ((g * 2 ^ d) % 2 ^ 64)) j ≡ all (bit w) j (m + d)
round w g m d l h j = bit_and_lem g ((g * 2 ^ d) % 2 ^ 64) j ∙ ap (λ (x : Bool). bit g j && x) (bit_shl g d j)
    ∙ ap₂ ◌&&◌ (h j) (h (d + j)) ∙ all_join (bit w) j m d l
