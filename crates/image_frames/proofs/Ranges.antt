-- What `all` answers of a range of numbers, where its closure computes a test of them.
-- Assumes nothing.
use mathlib.Core.Bool.{Bool, ◌&&◌}
use mathlib.Core.Path.{◌≡◌, refl, ap, ◌∙◌}
use Prim.Native.Nat.{ℕ, zero, suc}
use native.Mathlib.Numerals.{add-one}
use Rattle.std.specs.List.{list_all, range_with_len}
use Rattle.map_blocks.specs.Blocks.{all}

pub all_in_range : (f : ℕ → Bool) (a n : ℕ) → list_all f (range_with_len a n) ≡ all f a n
unfolding all
all_in_range f a zero = refl
all_in_range f a (suc n) =
    ap (λ (b : Bool). f a && b) (ap (λ (x : ℕ). list_all f (range_with_len x n)) (add-one a) ∙ all_in_range f (suc a) n)
