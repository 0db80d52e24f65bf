-- Which words hold a changed block, and above which groups an update leaves a group as it was.
-- Assumes nothing.
use mathlib.Core.Path.{◌≡◌, refl, ap, ◌∙◌}
use mathlib.Core.Logic.{◌⊎◌, inl, inr}
use mathlib.Core.Bool.{Bool, true, false, ◌&&◌, cond}
use mathlib.Core.List.{List}
use Prim.Native.Nat.{ℕ, ◌+◌, ◌*◌, ◌/◌, ◌≤◌, ◌<◌}
use native.Mathlib.Omega.{arith}
use lib.Dec.{eqb, leb, ltb}
use borrow.Author.Tests.{eq-eqb, eqb-true, lt-ltb, le-ltb, le-leb, leb-true}
use Rattle.laws.proofs.Bools.{and_both, and_left, and_right}
use Rattle.summary_groups.specs.declared.Group.{Group}
use Rattle.summary_groups.specs.Groups.{Span, place, joined_of}
use Rattle.summary_groups.proofs.Joins.{group_eq}
use Rattle.summary.specs.Summary.{group_in}
use Rattle.summary.specs.Updates.{changed, holds_all, same_group, idle, built_from}

-- ---- the words that hold a changed block

module _ (start count : ℕ) (l : Span) where
  pub is_changed : 0 < count → start < 64 * (l.first + l.size) → 64 * l.first < start + count → changed start count l ≡ true
  is_changed a b c =
      and_both (ltb 0 count) (ltb start (64 * (l.first + l.size)) && ltb (64 * l.first) (start + count)) (lt-ltb 0 count a)
      (and_both (ltb start (64 * (l.first + l.size))) (ltb (64 * l.first) (start + count))
      (lt-ltb start (64 * (l.first + l.size)) b) (lt-ltb (64 * l.first) (start + count) c))

  none_and : (x y : Bool) → (x && (false && y)) ≡ false
  none_and true y = refl
  none_and false y = refl

  none_last : (x y : Bool) → (x && (y && false)) ≡ false
  none_last true true = refl
  none_last true false = refl
  none_last false y = refl

  pub not_changed : ((start + count + 63) / 64 ≤ l.first) ⊎ (l.first + l.size ≤ start / 64) → changed start count l ≡ false
  not_changed (inl u) =
      ap (λ (x : Bool). ltb 0 count && (ltb start (64 * (l.first + l.size)) && x))
      (le-ltb (64 * l.first) (start + count) (omega arith)) ∙ none_last (ltb 0 count) (ltb start (64 * (l.first + l.size)))
  not_changed (inr u) =
      ap (λ (x : Bool). ltb 0 count && (x && ltb (64 * l.first) (start + count)))
      (le-ltb start (64 * (l.first + l.size)) (omega arith)) ∙ none_and (ltb 0 count) (ltb (64 * l.first) (start + count))

-- ---- groups that stay as they were

module _ (p : ℕ) (s : List ℕ) (start count : ℕ) where
  -- from two halves: as it was, or joined
  module _ (g : ℕ) (x y : Group) (half : ℕ) where
    pub built-kept : (idle start count p s (2 * g + 1) x ≡ true) ⊎ (idle start count p s (2 * g + 2) y ≡ true)
        → built_from start count p s g x y half ≡ group_in s g
    unfolding built_from
    built-kept (inl e) = ap (λ (t : Bool). cond t (group_in s g)
        (cond (idle start count p s (2 * g + 2) y) (group_in s g) (joined_of x y (64 * half)))) e
    built-kept (inr e) =
        ap (λ (t : Bool). cond (idle start count p s (2 * g + 1) x) (group_in s g)
        (cond t (group_in s g) (joined_of x y (64 * half)))) e
        ∙ either (idle start count p s (2 * g + 1) x)
      where
        either : (t : Bool) → cond t (group_in s g) (group_in s g) ≡ group_in s g
        either true = refl
        either false = refl

    pub built-joined : idle start count p s (2 * g + 1) x ≡ false → idle start count p s (2 * g + 2) y ≡ false
        → built_from start count p s g x y half ≡ joined_of x y (64 * half)
    unfolding built_from
    built-joined a b =
        ap (λ (t : Bool). cond t (group_in s g)
        (cond (idle start count p s (2 * g + 2) y) (group_in s g) (joined_of x y (64 * half)))) a
        ∙ ap (λ (t : Bool). cond t (group_in s g) (joined_of x y (64 * half))) b

  -- what idle says, and when it is so
  module _ (h : ℕ) (x : Group) where
    pub is-idle : 64 * (place p h).first ≤ start → start + count ≤ 64 * ((place p h).first + (place p h).size) → x
        ≡ group_in s h
        → idle start count p s h x ≡ true
    unfolding idle
    is-idle a b e =
        and_both (holds_all start count (place p h)) (same_group x (group_in s h))
        (and_both (leb (64 * (place p h).first) start) (leb (start + count) (64 * ((place p h).first + (place p h).size)))
        (le-leb (64 * (place p h).first) start a) (le-leb (start + count) (64 * ((place p h).first + (place p h).size)) b))
        (and_both (eqb x.head (group_in s h).head)
        (eqb x.tail (group_in s h).tail && eqb x.longest (group_in s h).longest)
        (eq-eqb x.head (group_in s h).head (ap (λ (y : Group). y.head) e))
        (and_both (eqb x.tail (group_in s h).tail) (eqb x.longest (group_in s h).longest)
        (eq-eqb x.tail (group_in s h).tail (ap (λ (y : Group). y.tail) e))
        (eq-eqb x.longest (group_in s h).longest (ap (λ (y : Group). y.longest) e))))

    module _ (e : idle start count p s h x ≡ true) where
      idle-holds : holds_all start count (place p h) ≡ true
      unfolding idle
      idle-holds = and_left (holds_all start count (place p h)) (same_group x (group_in s h)) e

      pub idle-low : 64 * (place p h).first ≤ start
      idle-low = leb-true (64 * (place p h).first) start
          (and_left (leb (64 * (place p h).first) start) (leb (start + count) (64 * ((place p h).first + (place p h).size)))
          idle-holds)

      pub idle-high : start + count ≤ 64 * ((place p h).first + (place p h).size)
      idle-high = leb-true (start + count) (64 * ((place p h).first + (place p h).size))
          (and_right (leb (64 * (place p h).first) start) (leb (start + count) (64 * ((place p h).first + (place p h).size)))
          idle-holds)

      pub idle-same : x ≡ group_in s h
      unfolding idle
      idle-same =
          let q : same_group x (group_in s h) ≡ true =
          and_right (holds_all start count (place p h)) (same_group x (group_in s h)) e in
          let r : (eqb x.tail (group_in s h).tail && eqb x.longest (group_in s h).longest) ≡ true =
          and_right (eqb x.head (group_in s h).head)
          (eqb x.tail (group_in s h).tail && eqb x.longest (group_in s h).longest) q in
          group_eq
          (eqb-true x.head (group_in s h).head (and_left (eqb x.head (group_in s h).head)
          (eqb x.tail (group_in s h).tail && eqb x.longest (group_in s h).longest) q))
          (eqb-true x.tail (group_in s h).tail (and_left (eqb x.tail (group_in s h).tail)
          (eqb x.longest (group_in s h).longest) r))
          (eqb-true x.longest (group_in s h).longest (and_right (eqb x.tail (group_in s h).tail)
          (eqb x.longest (group_in s h).longest) r))
