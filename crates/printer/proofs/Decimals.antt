-- Numbers in decimal.
-- Assumes nothing.
use mathlib.Core.Path.{◌≡◌, refl, sym, ap, ap₂, ◌∙◌}
use mathlib.Core.Logic.{◌⊎◌, inl, inr}
use mathlib.Core.Bool.{Bool, true, false, ◌&&◌}
use mathlib.Core.List.{List, [], ◌∷◌, ◌++◌}
use Prim.Native.Nat.{ℕ, zero, suc, ◌+◌, ◌-◌, ◌*◌, ◌/◌, ◌%◌, ◌≤◌, ◌<◌}
use Rattle.laws.proofs.Bools.{order}
use native.Mathlib.Omega.{arith}
use lib.Dec.{leb}
use lib.ListN.{length, get_or, length-append, get_or-append}
use borrow.Author.Tests.{le-leb}
use Rattle.printer.specs.Decimal.{digits_of, decimal, read_from, all_digits}

-- more digits than there are change nothing
enough : (most more n : ℕ) → n ≤ most → n ≤ more → digits_of most n ≡ digits_of more n
unfolding digits_of
enough zero zero zero h k = refl
enough zero (suc more) zero h k = refl
enough (suc most) zero zero h k = refl
enough (suc most) (suc more) zero h k = refl
enough zero zero (suc n) h k = absurd (omega (arith, h))
enough zero (suc more) (suc n) h k = absurd (omega (arith, h))
enough (suc most) zero (suc n) h k = absurd (omega (arith, k))
enough (suc most) (suc more) (suc n) h k =
    ap (λ (l : List ℕ). l ++ (0x30 + suc n % 10) ∷ []) (enough most more (suc n / 10) (omega (arith, h)) (omega (arith, k)))

pub decimal_less : (n : ℕ) → n < 10 → decimal n ≡ (0x30 + n) ∷ []
unfolding decimal digits_of
decimal_less zero h = refl
decimal_less (suc n) h =
    let none : suc n / 10 ≡ 0 = omega (arith, h) in
    let e : suc n % 10 ≡ suc n = omega (arith, h) in
    ap₂ (λ (m d : ℕ). digits_of n m ++ (0x30 + d) ∷ []) none e
    ∙ ap (λ (l : List ℕ). l ++ (0x30 + suc n) ∷ []) (enough n 0 0 (omega arith) (omega arith))

pub decimal_more : (n : ℕ) → 10 ≤ n → decimal n ≡ decimal (n / 10) ++ (0x30 + n % 10) ∷ []
unfolding decimal digits_of
decimal_more zero h = absurd (omega (arith, h))
decimal_more (suc n) h = ap (λ (l : List ℕ). l ++ (0x30 + suc n % 10) ∷ [])
    (whole (suc n / 10) (omega (arith, h)) (omega (arith, h)))
  where
    whole : (m : ℕ) → 0 < m → m ≤ n → digits_of n m ≡ decimal m
    whole zero p k = absurd (omega (arith, p))
    whole (suc m) p k = enough n (suc m) (suc m) k (omega arith)

-- what holds of every digit, and of a number if it holds of what is before its last digit, holds of every number
pub by_digits : (P : ℕ → Type 0) → ((n : ℕ) → n < 10 → P n) → ((n : ℕ) → 10 ≤ n → P (n / 10) → P n) → (n : ℕ) → P n
by_digits P one more n = below (suc n) n (omega arith)
  where
    below : (b m : ℕ) → m < b → P m
    below zero m h = absurd (omega (arith, h))
    below (suc b) m h = which (order m 10) (below b (m / 10))
      where
        which : (m < 10) ⊎ (10 ≤ m) → (m / 10 < b → P (m / 10)) → P m
        which (inl l) f = one m l
        which (inr g) f = more m g (f (omega (arith, h, g)))

read_last : (xs : List ℕ) (before d : ℕ) → read_from before (xs ++ d ∷ []) ≡ read_from before xs * 10 + (d - 0x30)
unfolding read_from
read_last [] before d = refl
read_last (x ∷ xs) before d = read_last xs (before * 10 + (x - 0x30)) d

read_none : read_from 0 [] ≡ 0
unfolding read_from
read_none = refl

-- the digits read as the number
pub reads_back : (n : ℕ) → read_from 0 (decimal n) ≡ n
reads_back = by_digits (λ n. read_from 0 (decimal n) ≡ n) one more
  where
    one : (n : ℕ) → n < 10 → read_from 0 (decimal n) ≡ n
    one n h = ap (read_from 0) (decimal_less n h) ∙ read_last [] 0 (0x30 + n) ∙ omega (arith, read_none)

    more : (n : ℕ) → 10 ≤ n → read_from 0 (decimal (n / 10)) ≡ n / 10 → read_from 0 (decimal n) ≡ n
    more n h e = ap (read_from 0) (decimal_more n h) ∙ read_last (decimal (n / 10)) 0 (0x30 + n % 10) ∙ omega (arith, e)

-- all are digits
digits_last : (xs : List ℕ) (d : ℕ) → d < 10 → all_digits xs ≡ true → all_digits (xs ++ (0x30 + d) ∷ []) ≡ true
unfolding all_digits
digits_last [] d h e = ap₂ (λ (a b : Bool). a && b && true) (le-leb 0x30 (0x30 + d) (omega arith))
    (le-leb (0x30 + d) 0x39 (omega (arith, h)))
digits_last (x ∷ xs) d h e = which (leb 0x30 x && leb x 0x39) (λ f. digits_last xs d h f) e
  where
    which : (b : Bool) → (all_digits xs ≡ true → all_digits (xs ++ (0x30 + d) ∷ []) ≡ true)
        → (b && all_digits xs) ≡ true → (b && all_digits (xs ++ (0x30 + d) ∷ [])) ≡ true
    which true g f = g f
    which false g f = f

digits_none : all_digits [] ≡ true
unfolding all_digits
digits_none = refl

pub all_digits_lem : (n : ℕ) → all_digits (decimal n) ≡ true
all_digits_lem = by_digits (λ n. all_digits (decimal n) ≡ true) one more
  where
    one : (n : ℕ) → n < 10 → all_digits (decimal n) ≡ true
    one n h = ap all_digits (decimal_less n h) ∙ digits_last [] n h digits_none

    more : (n : ℕ) → 10 ≤ n → all_digits (decimal (n / 10)) ≡ true → all_digits (decimal n) ≡ true
    more n h e = ap all_digits (decimal_more n h) ∙ digits_last (decimal (n / 10)) (n % 10) (omega arith) e

-- there is a digit
some : (n : ℕ) → 0 < length (decimal n)
some n = which (order n 10)
  where
    which : (n < 10) ⊎ (10 ≤ n) → 0 < length (decimal n)
    which (inl h) = omega (arith, ap {B = ℕ} length (decimal_less n h))
    which (inr h) = omega (arith, ap {B = ℕ} length (decimal_more n h), length-append (decimal (n / 10)) ((0x30 + n % 10) ∷ []))

-- only 0 begins with a 0
pub no_leading_zero : (n : ℕ) → get_or (decimal n) 0 0 ≡ 0x30 → n ≡ 0
no_leading_zero = by_digits (λ n. get_or (decimal n) 0 0 ≡ 0x30 → n ≡ 0) one more
  where
    one : (n : ℕ) → n < 10 → get_or (decimal n) 0 0 ≡ 0x30 → n ≡ 0
    one n h e = omega (arith, ap (λ (l : List ℕ). get_or l 0 0) (decimal_less n h), e)

    more : (n : ℕ) → 10 ≤ n → (get_or (decimal (n / 10)) 0 0 ≡ 0x30 → n / 10 ≡ 0) → get_or (decimal n) 0 0 ≡ 0x30 → n ≡ 0
    more n h f e =
        let first : get_or (decimal n) 0 0 ≡ get_or (decimal (n / 10)) 0 0 =
        ap (λ (l : List ℕ). get_or l 0 0) (decimal_more n h)
        ∙ get_or-append (decimal (n / 10)) ((0x30 + n % 10) ∷ []) 0 0 (some (n / 10)) in
        let none : n / 10 ≡ 0 = f (sym first ∙ e) in
        omega (arith, none, h)

-- 10 to the k
unfoldable pub power : ℕ → ℕ
power zero = 1
power (suc k) = 10 * power k

-- a number below 10 to the k has at most k digits, and one if k is 0
pub decimal_length : (k n : ℕ) → n < power (suc k) → length (decimal n) ≤ suc k
unfolding power
decimal_length zero n h = omega (arith, ap {B = ℕ} length (decimal_less n h))
decimal_length (suc k) n h = which (order n 10) (λ z. decimal_length k (n / 10) z)
  where
    which : (n < 10) ⊎ (10 ≤ n) → (n / 10 < power (suc k) → length (decimal (n / 10)) ≤ suc k)
        → length (decimal n) ≤ suc (suc k)
    which (inl l) f = omega (arith, ap {B = ℕ} length (decimal_less n l))
    which (inr g) f =
        let less : n / 10 < power (suc k) = omega (arith, h) in
        omega (arith, ap {B = ℕ} length (decimal_more n g), length-append (decimal (n / 10)) ((0x30 + n % 10) ∷ []), f less)
