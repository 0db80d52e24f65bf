-- The walk that checks groups: what its tests say at one word and of two halves.
-- Assumes nothing.
use mathlib.Core.Path.{◌≡◌, refl, sym, ap₂, ◌∙◌, subst}
use mathlib.Core.Logic.{⊎_elim}
use mathlib.Core.Bool.{Bool, false, false≢true}
use mathlib.Core.List.{List}
use Prim.Native.Nat.{ℕ, ◌+◌, ◌*◌, ◌/◌}
use Rattle.summary_groups.specs.declared.Group.{Group}
use Rattle.summary_groups.specs.Groups.{group_of, joined_of}
use Rattle.summary_groups.specs.Places.{same, Sited}
use Rattle.summary_groups.proofs.Places.{below_split, below_left, below_right, sited_left, sited_right, sited_index, sited_last}
use Rattle.summary.specs.Summary.{group_in, group_at}
use Rattle.summary.specs.Walks.{halves_of, RightBelow, Decides}
use Rattle.summary.proofs.Sites.{group_at_lem, at_halves}

pub refuted : (P : Type 0) → (P → ⊥) → Decides false P
refuted P n = (λ e. absurd (false≢true e), λ e p. n p)

module _ (f : ℕ → Bool) (p : ℕ) (s : List ℕ) where
  pub word_decides : (r : Bool) (g first : ℕ) → Sited p g first 1 → Decides r (group_in s g ≡ group_of f (64 * first) 64)
      → Decides r (RightBelow f p s g)
  word_decides r g first sited d =
      let e : group_at f p g ≡ group_of f (64 * first) 64 = group_at_lem f p g first 1 sited in (
        λ y h u b. subst (λ (i : ℕ). group_in s i ≡ group_at f p i) (sym (sited_last p g first 1 sited refl h u b))
            (d.0 y ∙ sym e),
        λ y all. d.1 y (all g (sited_index p g first 1 sited) same ∙ e),
      )

  module _ (g first size : ℕ) (sited : Sited p g first size) (ne : size ≡ 1 → ⊥) where
    -- what the halves tell is right
    halves-right : RightBelow f p s (2 * g + 1) → RightBelow f p s (2 * g + 2) → halves_of s g (size / 2) ≡ group_at f p g
    unfolding halves_of
    halves-right a b =
        ap₂ (λ (y z : Group). joined_of y z (64 * (size / 2)))
        (a (2 * g + 1) (sited_index p (2 * g + 1) first (size / 2) (sited_left p g first size sited ne)) same)
        (b (2 * g + 2) (sited_index p (2 * g + 2) (first + size / 2) (size / 2) (sited_right p g first size sited ne)) same)
        ∙ at_halves f p g first size sited ne

    pub halves-decide : (r : Bool) → RightBelow f p s (2 * g + 1) → RightBelow f p s (2 * g + 2)
        → Decides r (group_in s g ≡ halves_of s g (size / 2)) → Decides r (RightBelow f p s g)
    halves-decide r a b d = (
      λ y h u v. ⊎_elim (λ q. subst (λ (i : ℕ). group_in s i ≡ group_at f p i) (sym q) (d.0 y ∙ halves-right a b))
          (λ w. ⊎_elim (λ z. a h u z) (λ z. b h u z) w) (below_split g h v),
      λ y all. d.1 y (all g (sited_index p g first size sited) same ∙ sym (halves-right a b)),
    )

  pub first_wrong : (g : ℕ) → (RightBelow f p s (2 * g + 1) → ⊥) → RightBelow f p s g → ⊥
  first_wrong g n all = n (λ h u b. all h u (below_left g h b))

  pub second_wrong : (g : ℕ) → (RightBelow f p s (2 * g + 2) → ⊥) → RightBelow f p s g → ⊥
  second_wrong g n all = n (λ h u b. all h u (below_right g h b))
