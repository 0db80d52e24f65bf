-- What a group that lies at some words is to say.
-- Assumes nothing.
use mathlib.Core.Path.{◌≡◌, sym, ap, ap₂, ◌∙◌}
use mathlib.Core.Bool.{Bool}
use Prim.Native.Nat.{ℕ, ◌+◌, ◌*◌, ◌/◌}
use Rattle.summary_groups.specs.declared.Group.{Group}
use Rattle.summary_groups.specs.Groups.{Span, group_of, joined_of}
use Rattle.summary_groups.specs.Places.{Sited}
use Rattle.summary_groups.proofs.Halves.{group_halves}
use Rattle.summary_groups.proofs.Places.{sited_left, sited_right}
use Rattle.summary.specs.Summary.{group_at}

module _ (f : ℕ → Bool) (p g first size : ℕ) (s : Sited p g first size) where
  pub group_at_lem : group_at f p g ≡ group_of f (64 * first) (64 * size)
  unfolding group_at
  group_at_lem = ap (λ (l : Span). group_of f (64 * l.first) (64 * l.size)) s.lies

-- it is built from its halves
pub at_halves : (f : ℕ → Bool) (p g first size : ℕ) → Sited p g first size → (size ≡ 1 → ⊥)
    → joined_of (group_at f p (2 * g + 1)) (group_at f p (2 * g + 2)) (64 * (size / 2)) ≡ group_at f p g
at_halves f p g first size s ne =
    ap₂ (λ (x y : Group). joined_of x y (64 * (size / 2)))
    (group_at_lem f p (2 * g + 1) first (size / 2) (sited_left p g first size s ne))
    (group_at_lem f p (2 * g + 2) (first + size / 2) (size / 2) (sited_right p g first size s ne))
    ∙ group_halves f p g first size s ne ∙ sym (group_at_lem f p g first size s)
