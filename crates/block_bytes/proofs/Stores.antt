-- What stores leave of a slice.
-- Assumes nothing.
use mathlib.Core.Path.{◌≡◌, refl, ap}
use mathlib.Core.List.{List, [], ◌∷◌, ◌++◌, append-nil}
use Prim.Native.Nat.{ℕ, zero, suc, ◌+◌, ◌<◌}
use native.Mathlib.Nat.{not-suc-le-zero, le_of_suc-le-suc}
use native.Mathlib.Numerals.{add-one}
use native.Mathlib.Omega.{arith}
use lib.ListN.{length, get_or, set, take, drop, drop_of_length-le, replicate}
use lib.Seq.{take_all}

-- a turn of a copy from the front, and its end
copy_suc : (i : ℕ) (d s : List ℕ) → i < length d → i < length s
    → set (take i s ++ drop i d) i (get_or s i 0) ≡ take (suc i) s ++ drop (suc i) d
copy_suc i [] s h k = absurd (not-suc-le-zero h)
copy_suc i (y ∷ d) [] h k = absurd (not-suc-le-zero k)
copy_suc zero (y ∷ d) (x ∷ s) h k = refl
copy_suc (suc i) (y ∷ d) (x ∷ s) h k = ap (λ (t : List ℕ). x ∷ t) (copy_suc i d s (le_of_suc-le-suc h) (le_of_suc-le-suc k))

pub copy_more : (i : ℕ) (d s : List ℕ) → i < length d → i < length s
    → set (take i s ++ drop i d) i (get_or s i 0) ≡ take (i + 1) s ++ drop (i + 1) d
copy_more i d s h k = rw add-one (copy_suc i d s h k)

pub copied : (d s : List ℕ) (i : ℕ) → length d ≡ length s → i ≡ length s → take i s ++ drop i d ≡ s
copied d s i e h = rw (take_all i s (omega arith), drop_of_length-le d {i = i} (omega arith), append-nil)

-- the end of a fill with zeros
pub filled : (s : List ℕ) (i : ℕ) → i ≡ length s → replicate i 0 ++ drop i s ≡ replicate (length s) 0
filled s i h = rw (drop_of_length-le s {i = i} (omega arith), append-nil, h)
