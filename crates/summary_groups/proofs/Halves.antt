-- A group of p words is what its two halves give.
-- Assumes nothing.
use Rattle.std.proofs.Common.{◌≡◌, ℕ, ◌+◌, ◌*◌, ◌/◌, ◌≤◌, Bool, ap, ◌∙◌, arith}
use Rattle.summary_groups.specs.Groups.{group_of, joined_of}
use Rattle.summary_groups.specs.Places.{Sited}
use Rattle.summary_groups.proofs.Joins.{joined_right}
use Rattle.summary_groups.proofs.Places.{sited_even}

module _ (f : ℕ → Bool) (p g first size : ℕ) (s : Sited p g first size) (ne : size ≡ 1 → ⊥) where
  pub group_halves : joined_of (group_of f (64 * first) (64 * (size / 2)))
      (group_of f (64 * (first + size / 2)) (64 * (size / 2)))
      (64 * (size / 2))
      ≡ group_of f (64 * first) (64 * size)
  group_halves =
      let even : size ≡ 2 * (size / 2) = sited_even p g first size s ne in
      let i : first + size ≤ p = s.inside in
      let l : p ≤ 4096 = s.small in
      let b : 64 * (first + size / 2) ≡ 64 * first + 64 * (size / 2) = omega arith in
      let c : 64 * (size / 2) + 64 * (size / 2) ≡ 64 * size = omega arith in
      ap (λ (x : ℕ). joined_of (group_of f (64 * first) (64 * (size / 2))) (group_of f x (64 * (size / 2))) (64 * (size / 2))) b
      ∙ joined_right f (64 * first) (64 * (size / 2)) (omega arith) ∙ ap (group_of f (64 * first)) c
