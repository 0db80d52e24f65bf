-- The rule of the table of bytes, proved at all of its entries by one test that is computed, one entry after the other.
-- Assumes nothing.
use mathlib.Core.Path.{◌≡◌, ◌∙◌, ap₂, subst, sym}
use mathlib.Core.Bool.{Bool, true, false}
use mathlib.Core.List.{List, [], ◌∷◌}
use Prim.Native.Nat.{ℕ, zero, suc, ◌+◌, ◌<◌}
use native.Mathlib.Nat.{add-zero, zero-add, add-suc, suc-add, le_of_suc-le-suc, not-suc-le-zero}
use native.Mathlib.Omega.{arith}
use lib.Dec.{T, eqb, eqb→eq}
use lib.ListN.{length, get_or}
use Rattle.survey_bytes.specs.Bytes.{bits_of, column, Ruled}

abbrev pub both : Bool → Bool → Bool
both true b = b
both false b = false

both_left : (a b : Bool) → T (both a b) → T a
both_left true b t = tt
both_left false b t = t

both_right : (a b : Bool) → T (both a b) → T b
both_right true b t = t
both_right false b t = absurd t

module _ {A : Type 0} (d : A) where
  -- the test f passes at each entry of the list and its place, counted from i
  abbrev pub every : (ℕ → A → Bool) → ℕ → List A → Bool
  every f i [] = true
  every f i (x ∷ xs) = both (f i x) (every f (suc i) xs)

  from : (f : ℕ → A → Bool) (xs : List A) (i : ℕ) → T (every f i xs) → (k : ℕ) → k < length xs → T (f (i + k) (get_or xs k d))
  from f [] i t k h = absurd (not-suc-le-zero h)
  from f (x ∷ xs) i t zero h = subst (λ (m : ℕ). T (f m x)) (sym (add-zero i)) (both_left (f i x) (every f (suc i) xs) t)
  from f (x ∷ xs) i t (suc k) h =
      subst (λ (m : ℕ). T (f m (get_or xs k d))) (suc-add i k ∙ sym (add-suc i k))
      (from f xs (suc i) (both_right (f i x) (every f (suc i) xs) t) k (le_of_suc-le-suc h))

  pub at : (f : ℕ → A → Bool) (xs : List A) → T (every f 0 xs) → (k : ℕ) → k < length xs → T (f k (get_or xs k d))
  at f xs t k h = subst (λ (m : ℕ). T (f m (get_or xs k d))) (zero-add k) (from f xs 0 t k h)

-- the test of one row, and of the whole table
unfoldable pub right : ℕ → ℕ × ℕ → Bool
right b row = both (eqb row.0 (column 0 (bits_of 8 b))) (eqb row.1 (column 1 (bits_of 8 b)))

pub ruled : (rows : List (ℕ × ℕ)) → length rows ≡ 256 → T (every (0, 0) right 0 rows) → Ruled rows
unfolding right
ruled rows e t b h =
    let row : ℕ × ℕ = get_or rows b (0, 0) in
    let own = at (0, 0) right rows t b (omega arith) in
    let first : Bool = eqb row.0 (column 0 (bits_of 8 b)) in
    let second : Bool = eqb row.1 (column 1 (bits_of 8 b)) in
    ap₂ (λ (x y : ℕ). (x, y)) (eqb→eq row.0 (column 0 (bits_of 8 b)) (both_left first second own))
    (eqb→eq row.1 (column 1 (bits_of 8 b)) (both_right first second own))
