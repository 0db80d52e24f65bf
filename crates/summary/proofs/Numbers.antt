-- The numbers of a summary, three to a group: read, stored, and all of them; and two lists of numbers that are the same.
-- Assumes nothing.
use mathlib.Core.Path.{◌≡◌, refl, sym, ap, ap₂, ◌∙◌, subst}
use mathlib.Core.Bool.{Bool, true}
use mathlib.Core.List.{List, [], ◌∷◌}
use Prim.Native.Nat.{ℕ, zero, suc, ◌+◌, ◌-◌, ◌*◌, ◌<◌}
use native.Mathlib.Nat.{add-zero, zero-add}
use native.Mathlib.Omega.{arith}
use lib.Dec.{eqb}
use lib.ListN.{length, get_or, set, length-set}
use lib.Seq.{get_or-set_same, get_or-set_other}
use borrow.Author.Tests.{eq-eqb, eqb-true}
use Rattle.laws.proofs.Bools.{and_left, and_right, and_both}
use Rattle.summary_groups.specs.declared.Group.{Group}
use Rattle.summary_groups.specs.Groups.{power}
use Rattle.summary_groups.proofs.Joins.{group_eq}
use Rattle.summary.specs.Summary.{numbers, group_in, group_at, summary_of, usable, own_summary, summary_length, same_numbers}
use Rattle.summary.specs.Summary.{is_own}
use Rattle.summary.specs.Walks.{with_group}

-- ---- one group stored

module _ (s : List ℕ) (g : ℕ) (x : Group) where
  pub in_with_same : 3 * g + 2 < length s → group_in (with_group s g x) g ≡ x
  in_with_same l =
      let s₁ : List ℕ = set s (3 * g) x.head in
      let s₂ : List ℕ = set s₁ (3 * g + 1) x.tail in
      let l₁ : length s₁ ≡ length s = length-set s (3 * g) x.head in
      let l₂ : length s₂ ≡ length s = length-set s₁ (3 * g + 1) x.tail ∙ l₁ in
      group_eq
      (get_or-set_other s₂ (3 * g + 2) (3 * g) x.longest 0 (λ e. omega arith)
      ∙ get_or-set_other s₁ (3 * g + 1) (3 * g) x.tail 0 (λ e. omega arith) ∙ get_or-set_same s (3 * g) x.head 0
      (omega arith))
      (get_or-set_other s₂ (3 * g + 2) (3 * g + 1) x.longest 0 (λ e. omega arith)
      ∙ get_or-set_same s₁ (3 * g + 1) x.tail 0 (omega arith))
      (get_or-set_same s₂ (3 * g + 2) x.longest 0 (omega arith))

  other : (i : ℕ) → (i ≡ 3 * g → ⊥) → (i ≡ 3 * g + 1 → ⊥) → (i ≡ 3 * g + 2 → ⊥) → get_or (with_group s g x) i 0 ≡ get_or s i 0
  other i a b c =
      get_or-set_other (set (set s (3 * g) x.head) (3 * g + 1) x.tail) (3 * g + 2) i x.longest 0 c
      ∙ get_or-set_other (set s (3 * g) x.head) (3 * g + 1) i x.tail 0 b ∙ get_or-set_other s (3 * g) i x.head 0 a

  pub in_with_other : (h : ℕ) → (h ≡ g → ⊥) → group_in (with_group s g x) h ≡ group_in s h
  in_with_other h ne =
      group_eq (other (3 * h) (λ e. ne (omega arith)) (λ e. omega arith) (λ e. omega arith))
      (other (3 * h + 1) (λ e. omega arith) (λ e. ne (omega arith)) (λ e. omega arith))
      (other (3 * h + 2) (λ e. omega arith) (λ e. omega arith) (λ e. ne (omega arith)))

-- ---- all groups

in_cons : (x y z : ℕ) (s : List ℕ) (h : ℕ) → group_in (x ∷ y ∷ z ∷ s) (suc h) ≡ group_in s h
in_cons x y z s h =
    let a : 3 * suc h ≡ suc (suc (suc (3 * h))) = omega arith in
    let b : 3 * suc h + 1 ≡ suc (suc (suc (3 * h + 1))) = omega arith in
    let c : 3 * suc h + 2 ≡ suc (suc (suc (3 * h + 2))) = omega arith in
    group_eq (ap (λ (i : ℕ). get_or (x ∷ y ∷ z ∷ s) i 0) a) (ap (λ (i : ℕ). get_or (x ∷ y ∷ z ∷ s) i 0) b)
    (ap (λ (i : ℕ). get_or (x ∷ y ∷ z ∷ s) i 0) c)

module _ (group : ℕ → Group) where
  pub numbers_length : (g c : ℕ) → length (numbers group g c) ≡ 3 * c
  unfolding numbers
  numbers_length g zero = refl
  numbers_length g (suc c) = let e : length (numbers group (suc g) c) ≡ 3 * c = numbers_length (suc g) c in omega arith

  pub numbers_at : (g c h : ℕ) → h < c → group_in (numbers group g c) h ≡ group (g + h)
  unfolding numbers
  numbers_at g zero h l = absurd (omega arith)
  numbers_at g (suc c) zero l = ap group (sym (add-zero g))
  numbers_at g (suc c) (suc h) l =
      let e : suc g + h ≡ g + suc h = omega arith in
      in_cons (group g).head (group g).tail (group g).longest (numbers group (suc g) c) h
      ∙ numbers_at (suc g) c h (omega arith) ∙ ap group e

  pub numbers_only : (g c : ℕ) (s : List ℕ) → length s ≡ 3 * c → ((h : ℕ) → h < c → group_in s h ≡ group (g + h))
      → s ≡ numbers group g c
  unfolding numbers
  numbers_only g zero [] e same = refl
  numbers_only g zero (x ∷ s) e same = absurd (omega arith)
  numbers_only g (suc c) [] e same = absurd (omega arith)
  numbers_only g (suc c) (x ∷ []) e same = absurd (omega arith)
  numbers_only g (suc c) (x ∷ y ∷ []) e same = absurd (omega arith)
  numbers_only g (suc c) (x ∷ y ∷ z ∷ s) e same =
      joined (same 0 (omega arith) ∙ ap group (add-zero g))
      (numbers_only (suc g) c s (omega arith) (λ h l. let q : g + suc h ≡ suc g + h = omega arith in
      sym (in_cons x y z s h) ∙ same (suc h) (omega arith) ∙ ap group q))
    where
      joined : {u : Group} {t : List ℕ} → ◌≡◌ {A = Group} (record { head = x; tail = y; longest = z }) u → s ≡ t
          → x ∷ y ∷ z ∷ s ≡ u.head ∷ u.tail ∷ u.longest ∷ t
      joined {u} {t} p q =
          ap (λ (v : Group). v.head ∷ v.tail ∷ v.longest ∷ s) p ∙ ap (λ (r : List ℕ). u.head ∷ u.tail ∷ u.longest ∷ r) q

-- a summary is that of f exactly if every group is right
pub summary_at : (f : ℕ → Bool) (p h : ℕ) → h + 1 < 2 * p → group_in (summary_of f p) h ≡ group_at f p h
unfolding summary_of
summary_at f p h l = numbers_at (group_at f p) 0 (2 * p - 1) h (omega arith) ∙ ap (group_at f p) (zero-add h)

pub summary_only : (f : ℕ → Bool) (p : ℕ) (s : List ℕ) → length s ≡ 3 * (2 * p - 1)
    → ((h : ℕ) → h + 1 < 2 * p → group_in s h ≡ group_at f p h) → s ≡ summary_of f p
unfolding summary_of
summary_only f p s e right =
    numbers_only (group_at f p) 0 (2 * p - 1) s e (λ h l. right h (omega arith) ∙ ap (group_at f p) (sym (zero-add h)))

-- the map's own summary has its length
pub own_length : (map : List ℕ) (n : ℕ) → length (own_summary map n) ≡ summary_length (length map)
unfolding own_summary summary_of
own_length map n = numbers_length (group_at (usable map n) (power (length map))) 0 (2 * power (length map) - 1)

-- ---- lists that are the same

pub same_equal : (xs ys : List ℕ) → same_numbers xs ys ≡ true → xs ≡ ys
unfolding same_numbers
same_equal [] [] e = refl
same_equal [] (y ∷ ys) e = absurd (mathlib.Core.Bool.false≢true e)
same_equal (x ∷ xs) [] e = absurd (mathlib.Core.Bool.false≢true e)
same_equal (x ∷ xs) (y ∷ ys) e =
    ap₂ (λ (a : ℕ) (as' : List ℕ). a ∷ as') (eqb-true x y (and_left (eqb x y) (same_numbers xs ys) e))
    (same_equal xs ys (and_right (eqb x y) (same_numbers xs ys) e))

same_self : (xs : List ℕ) → same_numbers xs xs ≡ true
unfolding same_numbers
same_self [] = refl
same_self (x ∷ xs) = and_both (eqb x x) (same_numbers xs xs) (eq-eqb x x refl) (same_self xs)

pub equal_same : (xs ys : List ℕ) → xs ≡ ys → same_numbers xs ys ≡ true
equal_same xs ys e = subst (λ (zs : List ℕ). same_numbers xs zs ≡ true) e (same_self xs)

-- the test of a summary is true exactly if it is the map's own
pub is_own_lem : (map : List ℕ) (n : ℕ) (s : List ℕ) → is_own map n s ≡ true → s ≡ own_summary map n
unfolding is_own
is_own_lem map n s e = same_equal s (own_summary map n) e

pub own_is : (map : List ℕ) (n : ℕ) (s : List ℕ) → s ≡ own_summary map n → is_own map n s ≡ true
unfolding is_own
own_is map n s e = equal_same s (own_summary map n) e
