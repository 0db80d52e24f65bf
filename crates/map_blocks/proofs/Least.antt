-- Laws of `least`, the least number that passes a test: what it answers, what its answer says (the number found passes the
-- test and no lower one does, and where there is none, none does), one number more behind those looked at, and that tests
-- which agree have the same answer.
-- Assumes nothing.
use Rattle.std.specs.Prelude.{Option, Some, None}
use mathlib.Core.Path.{◌≡◌, refl, sym, ap, ap₂, ◌∙◌, subst}
use mathlib.Core.Logic.{⊎_elim}
use mathlib.Core.Bool.{Bool, true, false, cond}
use Prim.Native.Nat.{ℕ, zero, suc, ◌+◌, ◌≤◌, ◌<◌}
use native.Mathlib.Nat.{add-zero, eq-or-lt_of_le}
use native.Mathlib.Omega.{arith}
use Rattle.map_blocks.specs.Blocks.{least, or_else}

pub never_both : (r : ℕ) → Some r ≡ None → ⊥
never_both r e = let z : ◌≡◌ {A = ℕ} 0 1 = cc in omega arith

pub record Passes (p : ℕ → Bool) (s m r : ℕ) : Type 0 where
  pub low : s ≤ r
  pub high : r < s + m
  pub test : p r ≡ true

module _ (p : ℕ → Bool) where
  pub least_at : (s m r : ℕ) → s ≤ r → r < s + m → p r ≡ true → ((t : ℕ) → s ≤ t → t < r → p t ≡ false) → least p s m ≡ Some r
  unfolding least
  least_at s zero r a b e h = absurd (omega arith)
  least_at s (suc m) r a b e h =
      ⊎_elim (λ q. ap (λ (x : Bool). cond x (Some s) (least p (suc s) m)) (subst (λ (x : ℕ). p x ≡ true) (sym q) e) ∙ ap Some q)
      (λ l. ap (λ (x : Bool). cond x (Some s) (least p (suc s) m)) (h s (omega arith) l)
      ∙ least_at (suc s) m r l (omega arith) e (λ t c d. h t (omega arith) d))
      (eq-or-lt_of_le a)

  pub least_none : (s m : ℕ) → ((t : ℕ) → s ≤ t → t < s + m → p t ≡ false) → least p s m ≡ None
  unfolding least
  least_none s zero h = refl
  least_none s (suc m) h =
      ap (λ (x : Bool). cond x (Some s) (least p (suc s) m)) (h s (omega arith) (omega arith))
      ∙ least_none (suc s) m (λ t a b. h t (omega arith) (omega arith))

  passes_on : (s m r : ℕ) (b : Bool) (rest : Option ℕ) → p s ≡ b → cond b (Some s) rest ≡ Some r
      → (rest ≡ Some r → Passes p (suc s) m r) → Passes p s (suc m) r
  passes_on s m r true rest q e later =
      let same : s ≡ r = cc in
      record { low = omega arith; high = omega arith; test = ap p (sym same) ∙ q }
  passes_on s m r false rest q e later =
      let l = later e in
      record { low = omega arith; high = omega arith; test = l.test }

  pub least_passes : (s m r : ℕ) → least p s m ≡ Some r → Passes p s m r
  unfolding least
  least_passes s zero r e = absurd (never_both r (sym e))
  least_passes s (suc m) r e = passes_on s m r (p s) (least p (suc s) m) refl e (λ h. least_passes (suc s) m r h)

  below_on : (s t r : ℕ) (b : Bool) (rest : Option ℕ) → p s ≡ b → cond b (Some s) rest ≡ Some r → s ≤ t → t < r
      → (rest ≡ Some r → s < t → p t ≡ false) → p t ≡ false
  below_on s t r true rest q e a l later = let same : s ≡ r = cc in absurd (omega arith)
  below_on s t r false rest q e a l later =
      ⊎_elim (λ (w : s ≡ t). ap p (sym w) ∙ q) (λ (w : s < t). later e w) (eq-or-lt_of_le a)

  pub least_below : (s m r : ℕ) → least p s m ≡ Some r → (t : ℕ) → s ≤ t → t < r → p t ≡ false
  unfolding least
  least_below s zero r e t a l = absurd (never_both r (sym e))
  least_below s (suc m) r e t a l = below_on s t r (p s) (least p (suc s) m) refl e a l
      (λ h w. least_below (suc s) m r h t (omega arith) l)

  none_on : (s t : ℕ) (b : Bool) (rest : Option ℕ) → p s ≡ b → cond b (Some s) rest ≡ None → s ≤ t
      → (rest ≡ None → s < t → p t ≡ false) → p t ≡ false
  none_on s t true rest q e a later = absurd (never_both s e)
  none_on s t false rest q e a later = ⊎_elim (λ (w : s ≡ t). ap p (sym w) ∙ q) (λ (w : s < t). later e w) (eq-or-lt_of_le a)

  pub none_passes : (s m : ℕ) → least p s m ≡ None → (t : ℕ) → s ≤ t → t < s + m → p t ≡ false
  unfolding least
  none_passes s zero e t a b = absurd (omega arith)
  none_passes s (suc m) e t a b = none_on s t (p s) (least p (suc s) m) refl e a
      (λ h w. none_passes (suc s) m h t (omega arith) (omega arith))

  pub least_more : (s m : ℕ) → least p s (suc m) ≡ or_else (least p s m) (cond (p (s + m)) (Some (s + m)) None)
  unfolding least
  least_more s zero = rw add-zero
  least_more s (suc m) =
      ap (cond (p s) (Some s)) (least_more (suc s) m)
      ∙ outside (p s) (least p (suc s) m) (cond (p (suc s + m)) (Some (suc s + m)) None)
      ∙ ap (λ (t : ℕ). or_else (cond (p s) (Some s) (least p (suc s) m)) (cond (p t) (Some t) None)) (moved s m)
    where
      outside : (b : Bool) (x y : Option ℕ) → cond b (Some s) (or_else x y) ≡ or_else (cond b (Some s) x) y
      outside true x y = refl
      outside false x y = refl

      moved : (s m : ℕ) → suc s + m ≡ s + suc m
      moved s m = omega arith

-- two tests that agree
pub least_same : (p q : ℕ → Bool) (s m : ℕ) → ((t : ℕ) → s ≤ t → t < s + m → p t ≡ q t) → least p s m ≡ least q s m
unfolding least
least_same p q s zero h = refl
least_same p q s (suc m) h =
    ap₂ (λ (b : Bool) (rest : Option ℕ). cond b (Some s) rest) (h s (omega arith) (omega arith))
    (least_same p q (suc s) m (λ t a l. h t (omega arith) (omega arith)))
