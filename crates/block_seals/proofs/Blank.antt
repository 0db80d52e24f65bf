-- Blank blocks: a test that gathers the bytes, and what a blank list is.
-- Assumes nothing.
use mathlib.Core.Path.{◌≡◌, refl, sym, ap, ◌∙◌}
use mathlib.Core.Bool.{Bool, true, false, ◌&&◌, and-true, and_assoc}
use mathlib.Core.List.{List, [], ◌∷◌, ◌++◌}
use Prim.Native.Nat.{ℕ, zero, suc, ◌+◌, ◌<◌}
use native.Mathlib.Numerals.{add-one}
use native.Mathlib.Omega.{arith}
use lib.Bits.{bit_or, or_add_and, and_le_r}
use lib.Dec.{eqb}
use lib.ListN.{length, get_or, drop, replicate, drop_of_length-le}
use lib.Seq.{drop-cons}
use borrow.Author.Tests.{ne_eqb, eqb-true}
use Rattle.block_seals.specs.Sealed.{blank}

-- an or of two numbers is 0 exactly if both are
or_both : (t x : ℕ) → eqb (bit_or t x) 0 ≡ eqb t 0 && eqb x 0
or_both zero zero = refl
or_both zero (suc x) = refl
or_both (suc t) x =
    rw (
      ne_eqb (bit_or (suc t) x) 0 (λ e. omega (arith, or_add_and (suc t) x, and_le_r (suc t) x)),
      ne_eqb (suc t) 0 (λ e. omega arith),
    )

module _ (s : List ℕ) (i all : ℕ) where
  -- a turn of the test
  pub gather_more : i < length s → eqb (bit_or all (get_or s i 0)) 0 && blank (drop (i + 1) s) ≡ eqb all 0 && blank (drop i s)
  unfolding blank
  gather_more h = rw (or_both all (get_or s i 0), and_assoc, drop-cons s i 0 h, blank, add-one)

  -- its end
  pub gathered : length s ≡ i → eqb all 0 ≡ eqb all 0 && blank (drop i s)
  unfolding blank
  gathered h = rw (drop_of_length-le s {i = i} (omega arith), blank, and-true)

-- two lists, one after the other
pub blank_append : (xs ys : List ℕ) → blank (xs ++ ys) ≡ blank xs && blank ys
unfolding blank
blank_append [] ys = refl
blank_append (x ∷ xs) ys = ap (λ (r : Bool). eqb x 0 && r) (blank_append xs ys)
    ∙ sym (and_assoc (eqb x 0) (blank xs) (blank ys))

-- both halves of a test that holds
pub and_left : (a b : Bool) → a && b ≡ true → a ≡ true
and_left true b e = refl
and_left false b e = e

pub and_right : (a b : Bool) → a && b ≡ true → b ≡ true
and_right true b e = e
and_right false b e = cc

-- zeros are blank, and a blank list is zeros
pub blank_zeros : (n : ℕ) → blank (replicate n 0) ≡ true
unfolding blank
blank_zeros zero = refl
blank_zeros (suc n) = blank_zeros n

pub blank_is_zeros : (xs : List ℕ) → blank xs ≡ true → xs ≡ replicate (length xs) 0
unfolding blank
blank_is_zeros [] e = refl
blank_is_zeros (x ∷ xs) e =
    ap (λ (y : ℕ). y ∷ xs) (eqb-true x 0 (and_left (eqb x 0) (blank xs) e))
    ∙ ap (λ (l : List ℕ). 0 ∷ l) (blank_is_zeros xs (and_right (eqb x 0) (blank xs) e))
