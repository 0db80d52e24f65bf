-- The runs of one list of blocks before another.
-- Assumes nothing.
use mathlib.Core.Path.{◌≡◌, refl, ap, ◌∙◌}
use mathlib.Core.Bool.{Bool, true, false, cond}
use mathlib.Core.Logic.{◌⊎◌, inl, inr, ⊎_elim}
use mathlib.Core.List.{List, [], ◌∷◌, ◌++◌}
use Prim.Native.Nat.{ℕ, zero, suc, ◌+◌, ◌<◌, ◌≤◌, max}
use native.Mathlib.Omega.{arith}
use lib.Dec.{eqb}
use lib.ListN.{length}
use borrow.Author.Tests.{eq-eqb, ne_eqb}
use Rattle.survey_bytes.specs.Runs.{head_of, tail_of, longest_of, runs_of, meet}

-- 1 where no free block follows
abbrev none : ℕ → ℕ
none h = cond (eqb h 0) 1 0

-- what is known of a list that is all free, and of one that is not, before another
record Full (xs ys : List Bool) : Type 0 where
  h : head_of xs ≡ length xs
  t : tail_of xs ≡ length xs
  a : head_of (xs ++ ys) ≡ length xs + head_of ys

record Broken (xs ys : List Bool) : Type 0 where
  h : head_of xs < length xs
  t : tail_of xs < length xs
  a : head_of (xs ++ ys) ≡ head_of xs

tail_full : (xs : List Bool) → tail_of xs ≡ length xs → tail_of (true ∷ xs) ≡ suc (tail_of xs)
unfolding tail_of
tail_full xs e = rw (eq-eqb (tail_of xs) (length xs) e)

tail_broken : (xs : List Bool) → (tail_of xs < length xs) → tail_of (true ∷ xs) ≡ tail_of xs
unfolding tail_of
tail_broken xs e = rw (ne_eqb (tail_of xs) (length xs) (λ q. omega arith))

parts : (xs ys : List Bool) → Full xs ys ⊎ Broken xs ys
unfolding head_of tail_of
parts [] ys = inl (record { h = refl; t = refl; a = omega arith })
parts (false ∷ xs) ys =
    ⊎_elim
    (λ (f : Full xs ys). inr (record { h = omega arith; t = omega (arith, f.t); a = refl }))
    (λ (f : Broken xs ys). inr (record { h = omega arith; t = omega (arith, f.t); a = refl }))
    (parts xs ys)
parts (true ∷ xs) ys =
    ⊎_elim
    (λ (f : Full xs ys). inl (record { h = ap suc f.h; t = tail_full xs f.t ∙ ap suc f.t; a = omega (arith, f.a) }))
    (λ (f : Broken xs ys). inr
    (record { h = omega (arith, f.h); t = omega (arith, tail_broken xs f.t, f.t); a = ap suc f.a }))
    (parts xs ys)

pub head_longest : (ys : List Bool) → head_of ys ≤ longest_of ys
unfolding head_of longest_of
head_longest [] = omega arith
head_longest (y ∷ ys) = omega arith

pub longest_append : (xs ys : List Bool) → longest_of (xs ++ ys)
    ≡ max (max (longest_of xs) (longest_of ys)) (tail_of xs + head_of ys)
unfolding head_of tail_of longest_of
longest_append [] ys = omega (arith, head_longest ys)
longest_append (false ∷ xs) ys = omega (arith, longest_append xs ys)
longest_append (true ∷ xs) ys =
    ⊎_elim
    (λ (f : Full xs ys). omega (arith, longest_append xs ys, tail_full xs f.t, f.t, f.a, f.h))
    (λ (f : Broken xs ys). omega (arith, longest_append xs ys, tail_broken xs f.t, f.a))
    (parts xs ys)

none_pos : (h : ℕ) → 0 < h → none h ≡ 0
none_pos h p = ap (λ (b : Bool). cond b 1 0) (ne_eqb h 0 (λ e. omega arith))

none_meet : (h : ℕ) → none h + meet 1 h ≡ 1
unfolding meet
none_meet zero = refl
none_meet (suc h) = ap (λ (n : ℕ). n + 1) (none_pos (suc h) (omega arith))

meet_pos : (t h : ℕ) → 0 < t → meet (suc t) h ≡ meet t h
unfolding meet
meet_pos zero h p = absurd (omega arith)
meet_pos (suc t) zero p = refl
meet_pos (suc t) (suc h) p = refl

pub runs_append : (xs ys : List Bool) → runs_of (xs ++ ys) + meet (tail_of xs) (head_of ys) ≡ runs_of xs + runs_of ys
unfolding head_of tail_of runs_of meet
runs_append [] ys = omega arith
runs_append (false ∷ xs) ys = omega (arith, runs_append xs ys)
runs_append (true ∷ []) ys = omega (arith, none_meet (head_of ys))
runs_append (true ∷ x ∷ xs) ys =
    ⊎_elim
    (λ (f : Full (x ∷ xs) ys).
    omega (
      arith,
      runs_append (x ∷ xs) ys,
      none_pos (head_of ((x ∷ xs) ++ ys)) (omega (arith, f.a)),
      none_pos (head_of (x ∷ xs)) (omega (arith, f.h)),
      ap (λ (n : ℕ). meet n (head_of ys)) (tail_full (x ∷ xs) f.t),
      meet_pos (tail_of (x ∷ xs)) (head_of ys) (omega (arith, f.t)),
    ))
    (λ (f : Broken (x ∷ xs) ys).
    omega (arith, runs_append (x ∷ xs) ys, ap none f.a, ap (λ (n : ℕ). meet n (head_of ys)) (tail_broken (x ∷ xs) f.t)))
    (parts (x ∷ xs) ys)

true_runs : (xs : List Bool) → 0 < runs_of (true ∷ xs)
unfolding head_of runs_of
true_runs [] = omega arith
true_runs (false ∷ xs) = omega arith
true_runs (true ∷ xs) = omega (arith, true_runs xs)

-- a list that ends in a free block has a run
pub tail_runs : (xs : List Bool) → 0 < tail_of xs → 0 < runs_of xs
unfolding tail_of runs_of
tail_runs [] p = absurd (omega arith)
tail_runs (false ∷ xs) p = omega (arith, tail_runs xs p)
tail_runs (true ∷ xs) p = true_runs xs

-- the free blocks at the head of eight before others
pub head_eight : (xs ys : List Bool) → length xs ≡ 8 → head_of (xs ++ ys)
    ≡ cond (eqb (head_of xs) 8) (8 + head_of ys) (head_of xs)
head_eight xs ys e =
    ⊎_elim
    (λ (f : Full xs ys). rw (eq-eqb (head_of xs) 8 (f.h ∙ e)) (f.a ∙ ap (λ (n : ℕ). n + head_of ys) e))
    (λ (f : Broken xs ys). rw (ne_eqb (head_of xs) 8 (λ q. omega (arith, f.h))) f.a)
    (parts xs ys)

pub meet_none : (t h : ℕ) → t ≡ 0 → meet t h ≡ 0
unfolding meet
meet_none zero h e = refl
meet_none (suc t) h e = absurd (omega arith)

pub meet_nothing : (t h : ℕ) → h ≡ 0 → meet t h ≡ 0
unfolding meet
meet_nothing zero h e = refl
meet_nothing (suc t) zero e = refl
meet_nothing (suc t) (suc h) e = absurd (omega arith)

pub tail_longest : (xs : List Bool) → tail_of xs ≤ longest_of xs
unfolding head_of tail_of longest_of
tail_longest [] = omega arith
tail_longest (false ∷ xs) = omega (arith, tail_longest xs)
tail_longest (true ∷ xs) =
    ⊎_elim
    (λ (f : Full xs []). omega (arith, tail_full xs f.t, f.t, f.h))
    (λ (f : Broken xs []). omega (arith, tail_broken xs f.t, tail_longest xs))
    (parts xs [])

-- ---- two lists that do not meet in one run

pub one_side : (t h : ℕ) → meet t h ≡ 0 → (t ≡ 0) ⊎ (h ≡ 0)
unfolding meet
one_side zero h e = inl refl
one_side (suc t) zero e = inr refl
one_side (suc t) (suc h) e = absurd (omega arith)

pub head_apart : (xs ys : List Bool) → 0 < length xs → meet (tail_of xs) (head_of ys) ≡ 0 → head_of (xs ++ ys) ≡ head_of xs
head_apart xs ys p e =
    ⊎_elim
    (λ (f : Full xs ys). ⊎_elim (λ (t : tail_of xs ≡ 0). absurd (omega (arith, f.t)))
    (λ (h : head_of ys ≡ 0). omega (arith, f.a, f.h)) (one_side (tail_of xs) (head_of ys) e))
    (λ (f : Broken xs ys). f.a)
    (parts xs ys)

pub longest_apart : (xs ys : List Bool) → meet (tail_of xs) (head_of ys) ≡ 0
    → longest_of (xs ++ ys) ≡ max (longest_of xs) (longest_of ys)
longest_apart xs ys e =
    ⊎_elim
    (λ (t : tail_of xs ≡ 0). omega (arith, longest_append xs ys, head_longest ys))
    (λ (h : head_of ys ≡ 0). omega (arith, longest_append xs ys, tail_longest xs))
    (one_side (tail_of xs) (head_of ys) e)

-- ---- a list that is not all free, before another and behind one

pub head_short : (xs ys : List Bool) → head_of xs < length xs → head_of (xs ++ ys) ≡ head_of xs
head_short xs ys l = ⊎_elim (λ (f : Full xs ys). absurd (omega (arith, f.h))) (λ (f : Broken xs ys). f.a) (parts xs ys)

pub tail_short : (xs ys : List Bool) → tail_of ys < length ys
    → (tail_of (xs ++ ys) ≡ tail_of ys) × (tail_of (xs ++ ys) < length (xs ++ ys))
unfolding tail_of
tail_short [] ys l = (refl, l)
tail_short (false ∷ xs) ys l = let r = tail_short xs ys l in (r.0, omega (arith, r.1))
tail_short (true ∷ xs) ys l = let r = tail_short xs ys l in
    (tail_broken (xs ++ ys) r.1 ∙ r.0, omega (arith, r.1, tail_broken (xs ++ ys) r.1))
