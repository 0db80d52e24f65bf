-- Groups stored as aimed at, one after the other.
-- Assumes nothing.
use mathlib.Core.Path.{◌≡◌, refl, sym, ap₂, ◌∙◌, subst}
use mathlib.Core.Logic.{inl, inr, ⊎_elim}
use mathlib.Core.Bool.{Bool}
use mathlib.Core.List.{List}
use Prim.Native.Nat.{ℕ, ◌+◌, ◌*◌, ◌≤◌, ◌<◌}
use native.Mathlib.Omega.{arith}
use lib.ListN.{length}
use Rattle.laws.proofs.Bools.{order}
use Rattle.summary_groups.specs.declared.Group.{Group}
use Rattle.summary_groups.specs.Groups.{joined_of}
use Rattle.summary.specs.Summary.{group_in}
use Rattle.summary.specs.Walks.{with_group, halves_of, Decides}
use Rattle.summary.proofs.Numbers.{in_with_same, in_with_other}
use Rattle.summary.proofs.Rebuilding.{equal}
use Rattle.summary_write.specs.Climbs.{Joins, Stores}

-- none
pub none_stored : (aim : ℕ → Group) (s : List ℕ) (g stop : ℕ) → stop ≤ g → Stores aim s s g stop
none_stored aim s g stop l = record { still = λ h r. r; done = λ h a b. absurd (omega arith); other = λ h q. refl }

-- one
module _ (aim : ℕ → Group) (s : List ℕ) (g : ℕ) (x : Group) (l : 3 * g + 2 < length s) (e : x ≡ aim g) where
  there : (h : ℕ) → h ≡ g → group_in (with_group s g x) h ≡ aim h
  there h q = subst (λ (i : ℕ). group_in (with_group s g x) i ≡ aim i) (sym q) (in_with_same s g x l ∙ e)

  pub one_stored : Stores aim s (with_group s g x) g (g + 1)
  one_stored = record {
    still = λ h r. ⊎_elim (λ q. there h q) (λ ne. in_with_other s g x h ne ∙ r) (equal h g);
    done = λ h a b. there h (omega arith);
    other = λ h q. in_with_other s g x h (λ e. ⊎_elim (λ l. omega arith) (λ l. omega arith) q);
  }

-- one more
pub next_stored : (aim : ℕ → Group) (s s₁ s₂ : List ℕ) (g i : ℕ) → g ≤ i → Stores aim s s₁ g i → Stores aim s₁ s₂ i (i + 1)
    → Stores aim s s₂ g (i + 1)
next_stored aim s s₁ s₂ g i m a b = record {
  still = λ h r. b.still h (a.still h r);
  done = λ h u v. ⊎_elim (λ l. b.still h (a.done h u l)) (λ l. b.done h l v) (order h i);
  other = λ h q. ⊎_elim (λ l. b.other h (inl (omega arith)) ∙ a.other h (inl l))
      (λ l. b.other h (inr l) ∙ a.other h (inr (omega arith))) q;
}

-- what the halves of a group tell is what is aimed at
pub told : (aim : ℕ → Group) (s : List ℕ) (g stop half i : ℕ) → Joins aim s g stop half → g ≤ i → i < stop
    → (s₁ : List ℕ) → Stores aim s s₁ g i → halves_of s₁ i half ≡ aim i
unfolding halves_of
told aim s g stop half i j a b s₁ d =
    ap₂ (λ (x y : Group). joined_of x y (64 * half)) (d.still (2 * i + 1) (j.left i a b))
    (d.still (2 * i + 2) (j.right i a b))
    ∙ j.both i a b

-- all of them
pub stored_all : (aim : ℕ → Group) (s s₁ : List ℕ) (g i stop : ℕ) → stop ≡ i → Stores aim s s₁ g i → Stores aim s s₁ g stop
stored_all aim s s₁ g i stop e d = subst (Stores aim s s₁ g) (sym e) d

-- a test of two groups is one of two others that are the same
pub decides_same : (r : Bool) (x y z w : Group) → x ≡ y → z ≡ w → Decides r (x ≡ z) → Decides r (y ≡ w)
decides_same r x y z w a b d = (λ e. sym a ∙ (d.0 e ∙ b), λ e q. d.1 e (a ∙ (q ∙ sym b)))
