-- Laws of a part of the card as a list of its blocks: two parts that join, the same blocks under another name, and the free
-- blocks of two parts.
-- Assumes nothing.
use mathlib.Core.Path.{◌≡◌, refl, sym, ap, ap₂, ◌∙◌}
use mathlib.Core.Bool.{Bool, true, false}
use mathlib.Core.List.{List, [], ◌∷◌, ◌++◌}
use Prim.Native.Nat.{ℕ, zero, suc, ◌+◌, ◌<◌}
use native.Mathlib.Nat.{add-zero, zero-add, suc-add}
use native.Mathlib.Omega.{arith}
use Rattle.survey.specs.Survey.{blocks, free_of}

moved : (s j : ℕ) → suc s + j ≡ s + suc j
moved s j = omega arith

pub blocks_join : (f : ℕ → Bool) (s a b : ℕ) → blocks f s (a + b) ≡ blocks f s a ++ blocks f (s + a) b
unfolding blocks
blocks_join f s zero b = ap (blocks f s) (zero-add b) ∙ ap (λ (x : ℕ). blocks f x b) (sym (add-zero s))
blocks_join f s (suc a) b =
    ap (blocks f s) (suc-add a b) ∙ ap (λ (xs : List Bool). f s ∷ xs)
    (blocks_join f (suc s) a b ∙ ap (λ (x : ℕ). blocks f (suc s) a ++ blocks f x b) (moved s a))

pub blocks_same : (f g : ℕ → Bool) (s s' m : ℕ) → ((j : ℕ) → j < m → f (s + j) ≡ g (s' + j)) → blocks f s m ≡ blocks g s' m
unfolding blocks
blocks_same f g s s' zero h = refl
blocks_same f g s s' (suc m) h =
    ap₂ (λ (x : Bool) (xs : List Bool). x ∷ xs) (ap f (sym (add-zero s)) ∙ h 0 (omega arith) ∙ ap g (add-zero s'))
    (blocks_same f g (suc s) (suc s') m (λ j l. ap f (moved s j) ∙ h (suc j) (omega arith) ∙ ap g (sym (moved s' j))))

-- the free blocks of one list before another
pub free_append : (xs ys : List Bool) → free_of (xs ++ ys) ≡ free_of xs + free_of ys
unfolding free_of
free_append [] ys = omega arith
free_append (true ∷ xs) ys = omega (arith, free_append xs ys)
free_append (false ∷ xs) ys = omega (arith, free_append xs ys)
