-- Laws of `all`, a run of numbers that all pass a test.
-- Assumes nothing.
use mathlib.Core.Path.{◌≡◌, refl, sym, ap, ap₂, ◌∙◌, subst}
use mathlib.Core.Logic.{⊎_elim}
use mathlib.Core.Bool.{Bool, true, false, ◌&&◌}
use Prim.Native.Nat.{ℕ, zero, suc, ◌+◌, ◌≤◌, ◌<◌}
use native.Mathlib.Nat.{eq-or-lt_of_le, add-zero}
use native.Mathlib.Omega.{arith}
use Rattle.map_blocks.specs.Blocks.{all}
use Rattle.laws.proofs.Bools.{and_left, and_right, and_both, not_true, both_ways, clash, order}

module _ (f : ℕ → Bool) where
  pub all_intro : (s k : ℕ) → ((t : ℕ) → s ≤ t → t < s + k → f t ≡ true) → all f s k ≡ true
  unfolding all
  all_intro s zero h = refl
  all_intro s (suc k) h =
      and_both (f s) (all f (suc s) k) (h s (omega arith) (omega arith))
      (all_intro (suc s) k (λ t a b. h t (omega arith) (omega arith)))

  pub all_elim : (s k : ℕ) → all f s k ≡ true → (t : ℕ) → s ≤ t → t < s + k → f t ≡ true
  unfolding all
  all_elim s zero e t a b = absurd (omega arith)
  all_elim s (suc k) e t a b =
      ⊎_elim (λ q. subst (λ (x : ℕ). f x ≡ true) q (and_left (f s) (all f (suc s) k) e))
      (λ l. all_elim (suc s) k (and_right (f s) (all f (suc s) k) e) t l (omega arith))
      (eq-or-lt_of_le a)

  -- one number of the run fails
  pub all_break : (s k t : ℕ) → s ≤ t → t < s + k → f t ≡ false → all f s k ≡ false
  all_break s k t a b e = not_true (all f s k) (λ h. clash (f t) (all_elim s k h t a b) e)

  -- a run within one that fails
  pub all_part : (s k s' k' : ℕ) → s ≤ s' → s' + k' ≤ s + k → all f s' k' ≡ false → all f s k ≡ false
  all_part s k s' k' a b e =
      not_true (all f s k) (λ h. clash (all f s' k')
      (all_intro s' k' (λ t l u. all_elim s k h t (omega arith) (omega arith))) e)

  -- two runs of m that meet or overlap
  pub all_join : (s m d : ℕ) → d ≤ m → (all f s m && all f (d + s) m) ≡ all f s (m + d)
  all_join s m d h =
      both_ways (all f s m && all f (d + s) m) (all f s (m + d))
      (λ e. all_intro s (m + d) (λ t a b.
      ⊎_elim (λ l. all_elim s m (and_left (all f s m) (all f (d + s) m) e) t a l)
      (λ l. all_elim (d + s) m (and_right (all f s m) (all f (d + s) m) e) t (omega arith) (omega arith)) (order t (s + m))))
      (λ e. and_both (all f s m) (all f (d + s) m) (all_intro s m (λ t a b. all_elim s (m + d) e t a (omega arith)))
      (all_intro (d + s) m (λ t a b. all_elim s (m + d) e t (omega arith) (omega arith))))

-- a run of one
pub all_one : (f : ℕ → Bool) (s : ℕ) → all f s 1 ≡ f s
unfolding all
all_one f s = and_true (f s)
  where
    and_true : (a : Bool) → (a && true) ≡ a
    and_true true = refl
    and_true false = refl

moved : (s j : ℕ) → suc s + j ≡ s + suc j
moved s j = omega arith

-- the same test, the same run
pub all_same : (f g : ℕ → Bool) (s s' k : ℕ) → ((j : ℕ) → j < k → f (s + j) ≡ g (s' + j)) → all f s k ≡ all g s' k
unfolding all
all_same f g s s' zero h = refl
all_same f g s s' (suc k) h =
    ap₂ ◌&&◌ (ap f (sym (add-zero s)) ∙ h 0 (omega arith) ∙ ap g (add-zero s'))
    (all_same f g (suc s) (suc s') k (λ j l. ap f (moved s j) ∙ h (suc j) (omega arith) ∙ ap g (sym (moved s' j))))
