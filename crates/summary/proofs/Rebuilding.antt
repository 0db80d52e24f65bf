-- The recursion that builds the groups of a summary: what it leaves at one word, and from two halves. Every group that it
-- stores is right, so that the second half's groups cannot spoil the first half's; and the groups that have some words, or
-- none.
-- Assumes nothing.
use mathlib.Core.Path.{◌≡◌, refl, sym, ap, ap₂, ◌∙◌, subst}
use mathlib.Core.Logic.{◌⊎◌, inl, inr, ⊎_elim}
use mathlib.Core.Bool.{Bool}
use mathlib.Core.List.{List}
use Prim.Native.Nat.{ℕ, ◌+◌, ◌*◌, ◌/◌, ◌≤◌, ◌<◌}
use native.Mathlib.Omega.{arith}
use lib.ListN.{length}
use Rattle.laws.proofs.Bools.{order}
use Rattle.summary_groups.specs.declared.Group.{Group}
use Rattle.summary_groups.specs.Groups.{Span, place, group_of, joined_of}
use Rattle.summary_groups.specs.Places.{same, Sited, Apart}
use Rattle.summary_groups.proofs.Places.{below_split, sited_left, sited_right, sited_index, sited_last}
use Rattle.summary.specs.Summary.{group_in, group_at}
use Rattle.summary.specs.Walks.{with_group, halves_of, Builds}
use Rattle.summary.proofs.Numbers.{in_with_same, in_with_other}
use Rattle.summary.proofs.Sites.{group_at_lem, at_halves}

pub equal : (a b : ℕ) → (a ≡ b) ⊎ (a ≡ b → ⊥)
equal a b =
    ⊎_elim (λ l. inr (λ e. omega arith))
    (λ g. ⊎_elim (λ l. inr (λ e. omega arith)) (λ g'. inl (omega arith)) (order b a)) (order a b)

module _ (p lo hi g first size : ℕ) (s : Sited p g first size) where
  pub meets : first < hi → lo < first + size → Apart p lo hi g → ⊥
  meets a b q =
      let e : (place p g).first ≡ first = ap (λ (l : Span). l.first) s.lies in
      let z : (place p g).size ≡ size = ap (λ (l : Span). l.size) s.lies in
      ⊎_elim (λ l. omega arith) (λ l. omega arith) q

  pub apart : (hi ≤ first) ⊎ (first + size ≤ lo) → Apart p lo hi g
  apart q =
      let e : (place p g).first ≡ first = ap (λ (l : Span). l.first) s.lies in
      let z : (place p g).size ≡ size = ap (λ (l : Span). l.size) s.lies in
      ⊎_elim (λ l. inl (omega arith)) (λ l. inr (omega arith)) q

-- a group stored as it is to be
module _ (f : ℕ → Bool) (p : ℕ) (s : List ℕ) (g : ℕ) (x : Group) (l : 3 * g + 2 < length s) (e : x ≡ group_at f p g) where
  stored : group_in (with_group s g x) g ≡ group_at f p g
  stored = in_with_same s g x l ∙ e

  stays : (h : ℕ) → group_in s h ≡ group_at f p h → group_in (with_group s g x) h ≡ group_at f p h
  stays h r =
      ⊎_elim (λ q. subst (λ (i : ℕ). group_in (with_group s g x) i ≡ group_at f p i) (sym q) stored)
      (λ ne. in_with_other s g x h ne ∙ r) (equal h g)

module _ (f : ℕ → Bool) (p g : ℕ) where
  pub at_word : (first : ℕ) (s : List ℕ) → Sited p g first 1 → 3 * g + 2 < length s
      → Builds f p g s (with_group s g (group_of f (64 * first) 64))
  at_word first s sited l = record {
    still = stays f p s g x l e;
    done = λ h u b. subst (λ (i : ℕ). group_in (with_group s g x) i ≡ group_at f p i)
        (sym (sited_last p g first 1 sited refl h u b)) (stored f p s g x l e);
  }
    where
      x : Group
      x = group_of f (64 * first) 64

      e : x ≡ group_at f p g
      e = sym (group_at_lem f p g first 1 sited)

  module _ (first size : ℕ) (s s₁ s₂ : List ℕ) (sited : Sited p g first size) (ne : size ≡ 1 → ⊥)
      (l : 3 * g + 2 < length s₂) (r₁ : Builds f p (2 * g + 1) s s₁) (r₂ : Builds f p (2 * g + 2) s₁ s₂) where
    told : halves_of s₂ g (size / 2) ≡ group_at f p g
    unfolding halves_of
    told =
        let i : 2 * g + 1 + 1 < 2 * p =
        sited_index p (2 * g + 1) first (size / 2) (sited_left p g first size sited ne) in
        let j : 2 * g + 2 + 1 < 2 * p =
        sited_index p (2 * g + 2) (first + size / 2) (size / 2) (sited_right p g first size sited ne) in
        ap₂ (λ (y z : Group). joined_of y z (64 * (size / 2))) (r₂.still (2 * g + 1) (r₁.done (2 * g + 1) i same))
        (r₂.done (2 * g + 2) j same)
        ∙ at_halves f p g first size sited ne

    pub from_halves : Builds f p g s (with_group s₂ g (halves_of s₂ g (size / 2)))
    from_halves = record {
      still = λ h r. stays f p s₂ g (halves_of s₂ g (size / 2)) l told h (r₂.still h (r₁.still h r));
      done = λ h u b.
          ⊎_elim
          (λ q. subst (λ (k : ℕ). group_in (with_group s₂ g (halves_of s₂ g (size / 2))) k ≡ group_at f p k) (sym q)
          (stored f p s₂ g (halves_of s₂ g (size / 2)) l told))
          (λ v. stays f p s₂ g (halves_of s₂ g (size / 2)) l told h
          (⊎_elim (λ w. r₂.still h (r₁.done h u w)) (λ w. r₂.done h u w) v)) (below_split g h b);
    }
