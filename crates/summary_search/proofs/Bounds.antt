-- A search by a summary stays within its bounds, whatever the summary says.
-- Assumes nothing.
use Rattle.std.specs.Prelude.{Option, Some, None}
use Rattle.std.specs.declared.ops.ControlFlow.{ControlFlow}
use Rattle.std.specs.declared.ops.ControlFlow.TheVariants.{Break, Continue}
use mathlib.Core.Path.{◌≡◌, refl, ap, ◌∙◌, subst}
use mathlib.Core.Bool.{Bool, true, false, cond}
use mathlib.Core.List.{List}
use Prim.Native.Nat.{ℕ, zero, suc, ◌+◌, ◌-◌, ◌*◌, ◌/◌, ◌≤◌, ◌<◌, min, max}
use native.Mathlib.Omega.{arith}
use lib.Dec.{eqb, leb, ltb}
use borrow.Author.Tests.{leb-false, ltb-false, eqb-true, eqb-false, eq-eqb, ne_eqb}
use Rattle.summary_groups.specs.declared.Group.{Group}
use Rattle.summary.specs.Summary.{group_in}
use Rattle.summary_search.specs.SearchBy.{inside_of, whole_of, glance_of, or_look, onward, seek_in}
use Rattle.summary_search.proofs.Places.{Level, level_least, level_halves}

-- by a test
pub by_test : {A : Type 0} (P : A → Type 0) (t : Bool) (a b : A) → (t ≡ true → P a) → (t ≡ false → P b) → P (cond t a b)
by_test P true a b holds fails = holds refl
by_test P false a b holds fails = fails refl

-- a start is not before `at`, and the free blocks carried on are fewer than k and do not begin before it
abbrev pub Bounds : ℕ → ℕ → ℕ → ControlFlow ℕ ℕ → Type 0
Bounds at k end (Break t) = (at ≤ t) × (t < end)
Bounds at k end (Continue s) = (s < k) × (s ≤ end) × (at ≤ end → s + at ≤ end)

abbrev pub GlanceBounds : ℕ → ℕ → ℕ → Option (ControlFlow ℕ ℕ) → Type 0
GlanceBounds at k end (Some r) = Bounds at k end r
GlanceBounds at k end None = at < end

module _ (x : Group) (at k base m s : ℕ) (pos : 0 < m) (short : s < k) (behind : at ≤ base → s + at ≤ base) where
  inside_bounds : at < base + m → GlanceBounds at k (base + m) (inside_of x at k (base + m))
  unfolding inside_of
  inside_bounds l =
      by_test (GlanceBounds at k (base + m)) (leb k x.longest) None
      (Some (Continue (min (min x.tail x.longest) (base + m - at)))) (λ e. l)
      (λ e. let u : x.longest < k = leb-false k x.longest e in (omega arith, omega arith, λ v. omega arith))

  whole_bounds : at ≤ base → GlanceBounds at k (base + m) (whole_of x k base m s)
  unfolding whole_of
  whole_bounds l =
      let r : s + at ≤ base = behind l in
      by_test (GlanceBounds at k (base + m)) (leb (k - s) x.head) (Some (Break (base - s)))
      (cond (leb k x.longest) None
      (cond (eqb x.head m) (Some (Continue (s + m))) (Some (Continue (min (min x.tail x.longest) m)))))
      (λ e. (omega arith, omega arith))
      (λ e. let h : x.head < k - s = leb-false (k - s) x.head e in
      by_test (GlanceBounds at k (base + m)) (leb k x.longest) None
      (cond (eqb x.head m) (Some (Continue (s + m))) (Some (Continue (min (min x.tail x.longest) m)))) (λ q. omega arith)
      (λ q. let u : x.longest < k = leb-false k x.longest q in
      by_test (GlanceBounds at k (base + m)) (eqb x.head m) (Some (Continue (s + m)))
      (Some (Continue (min (min x.tail x.longest) m)))
      (λ z. let w : x.head ≡ m = eqb-true x.head m z in (omega arith, omega arith, λ v. omega arith))
      (λ z. (omega arith, omega arith, λ v. omega arith))))

  pub glance_bounds : GlanceBounds at k (base + m) (glance_of x at k base m s)
  unfolding glance_of
  glance_bounds =
      by_test (GlanceBounds at k (base + m)) (leb (base + m) at) (Some (Continue 0))
      (cond (ltb base at) (inside_of x at k (base + m)) (whole_of x k base m s)) (λ e.
      (omega arith, omega arith, λ v. omega arith))
      (λ e. let l : at < base + m = leb-false (base + m) at e in
      by_test (GlanceBounds at k (base + m)) (ltb base at) (inside_of x at k (base + m)) (whole_of x k base m s)
      (λ q. inside_bounds l) (λ q. whole_bounds (ltb-false base at q)))

-- ---- down the groups

looked : (at k end : ℕ) (x : Option (ControlFlow ℕ ℕ)) (deeper : ControlFlow ℕ ℕ) → GlanceBounds at k end x
    → (at < end → Bounds at k end deeper)
    → Bounds at k end (or_look x deeper)
looked at k end (Some r) deeper b look = b
looked at k end None deeper b look = look b

module _ (summary : List ℕ) (at k : ℕ) where
  onward_bounds : (base m : ℕ) (r : ControlFlow ℕ ℕ) (next : ℕ → ControlFlow ℕ ℕ) → m ≡ 2 * (m / 2) → 0 < m
      → Bounds at k (base + m / 2) r
      → ((s : ℕ) → s < k → (at ≤ base + m / 2 → s + at ≤ base + m / 2) → Bounds at k (base + m / 2 + m / 2) (next s))
      → Bounds at k (base + m) (onward r next)
  onward_bounds base m (Break t) next even pos b on = (b.0, omega (arith, b.1))
  onward_bounds base m (Continue s) next even pos b on =
      let e : base + m / 2 + m / 2 ≡ base + m = omega arith in
      subst (λ (end : ℕ). Bounds at k end (next s)) e (on s b.0 b.2)

  pub seek_bounds : (d g base m s : ℕ) → Level m → s < k → (at ≤ base → s + at ≤ base)
      → Bounds at k (base + m) (seek_in d summary at k g base m s)
  unfolding seek_in
  seek_bounds zero g base m s l short behind = (omega arith, omega arith, λ v. omega arith)
  seek_bounds (suc d) g base m s l short behind =
      let least : 64 ≤ m = level_least m l in
      looked at k (base + m) (glance_of (group_in summary g) at k base m s)
      (cond (eqb m 64) (Break (max at base))
      (onward (seek_in d summary at k (2 * g + 1) base (m / 2) s)
      (λ next. seek_in d summary at k (2 * g + 2) (base + m / 2) (m / 2) next)))
      (glance_bounds (group_in summary g) at k base m s (omega arith) short behind)
      (λ u. by_test (Bounds at k (base + m)) (eqb m 64) (Break (max at base))
      (onward (seek_in d summary at k (2 * g + 1) base (m / 2) s)
      (λ next. seek_in d summary at k (2 * g + 2) (base + m / 2) (m / 2) next))
      (λ e. (omega arith, omega arith))
      (λ e. let half = level_halves m l (eqb-false m 64 e) in
      onward_bounds base m (seek_in d summary at k (2 * g + 1) base (m / 2) s)
      (λ next. seek_in d summary at k (2 * g + 2) (base + m / 2) (m / 2) next) half.0 (omega arith)
      (seek_bounds d (2 * g + 1) base (m / 2) s half.1 short behind)
      (λ next a b. seek_bounds d (2 * g + 2) (base + m / 2) (m / 2) next half.1 a b)))

-- ---- what a step comes to

module _ (summary : List ℕ) (at k d g base m s : ℕ) where
  pub seek_settled : (r : ControlFlow ℕ ℕ) → glance_of (group_in summary g) at k base m s ≡ Some r
      → seek_in (suc d) summary at k g base m s ≡ r
  unfolding seek_in
  seek_settled r e =
      ap (λ (x : Option (ControlFlow ℕ ℕ)). or_look x (cond (eqb m 64) (Break (max at base))
      (onward (seek_in d summary at k (2 * g + 1) base (m / 2) s)
      (λ next. seek_in d summary at k (2 * g + 2) (base + m / 2) (m / 2) next)))) e

  pub seek_word : glance_of (group_in summary g) at k base m s ≡ None → m ≡ 64 → seek_in (suc d) summary at k g base m s
      ≡ Break (max at base)
  unfolding seek_in
  seek_word e q =
      ap (λ (x : Option (ControlFlow ℕ ℕ)). or_look x (cond (eqb m 64) (Break (max at base))
      (onward (seek_in d summary at k (2 * g + 1) base (m / 2) s)
      (λ next. seek_in d summary at k (2 * g + 2) (base + m / 2) (m / 2) next)))) e
      ∙ ap (λ (t : Bool). cond t (Break (max at base)) (onward (seek_in d summary at k (2 * g + 1) base (m / 2) s)
      (λ next. seek_in d summary at k (2 * g + 2) (base + m / 2) (m / 2) next))) (eq-eqb m 64 q)

  pub seek_halves : glance_of (group_in summary g) at k base m s ≡ None → (m ≡ 64 → ⊥) → seek_in (suc d) summary at k g base m s
      ≡ onward (seek_in d summary at k (2 * g + 1) base (m / 2) s)
      (λ next. seek_in d summary at k (2 * g + 2) (base + m / 2) (m / 2) next)
  unfolding seek_in
  seek_halves e ne =
      ap (λ (x : Option (ControlFlow ℕ ℕ)). or_look x (cond (eqb m 64) (Break (max at base))
      (onward (seek_in d summary at k (2 * g + 1) base (m / 2) s)
      (λ next. seek_in d summary at k (2 * g + 2) (base + m / 2) (m / 2) next)))) e
      ∙ ap (λ (t : Bool). cond t (Break (max at base)) (onward (seek_in d summary at k (2 * g + 1) base (m / 2) s)
      (λ next. seek_in d summary at k (2 * g + 2) (base + m / 2) (m / 2) next))) (ne_eqb m 64 ne)
