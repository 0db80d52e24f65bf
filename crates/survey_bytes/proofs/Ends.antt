-- The ones at the head and at the tail of a byte, by the counts of zeros that work them out.
-- Assumes nothing.
use mathlib.Core.Path.{◌≡◌, refl, sym, ap, ◌∙◌}
use mathlib.Core.Bool.{Bool, true, false, cond}
use mathlib.Core.List.{List, [], ◌∷◌}
use Prim.Native.Nat.compare
use Prim.Native.Nat.{ℕ, zero, suc, ◌+◌, ◌-◌, ◌*◌, ◌/◌, ◌%◌, ◌^◌, ◌<◌, ◌≤◌}
use native.Mathlib.Nat.{mod-lt, mod-one}
use native.Mathlib.Numerals.{one-add}
use native.Mathlib.Omega.{arith}
use lib.Count.{count_leading_zeros, count_trailing_zeros, under, leading_unique}
use lib.Dec.{eqb}
use borrow.Author.Tests.{ne_eqb}
use lib.ListN.{length}
use lib.Pow.{pow-add, pow_pos, mod-pow-add, shr-shr}
use Rattle.survey_bytes.specs.Runs.{head_of, tail_of}
use Rattle.survey_bytes.specs.Bytes.{bits_of}

-- ---- the head

-- how far the k low bits of n are from 2 ^ k, by the h ones at their head
pub record Reach (k n h : ℕ) : Type 0 where
  pub within : h ≤ k
  pub least : 2 ^ k ≤ n % 2 ^ k + 2 ^ (k - h)
  pub most : 2 ^ (k - h) + 2 * (n % 2 ^ k) < 2 * 2 ^ k

top_off : (k n : ℕ) → n % 2 ^ suc k ≡ n / 2 ^ k % 2 * 2 ^ k + n % 2 ^ k
top_off k n = ap (λ (m : ℕ). n % 2 ^ m) (sym (one-add k)) ∙ mod-pow-add n 1 k

-- a 0 before the bits, and a 1
reach_zero : (k n : ℕ) → n / 2 ^ k % 2 ≡ 0 → Reach (suc k) n 0
reach_zero k n e =
    let m : n % 2 ^ suc k ≡ n % 2 ^ k = top_off k n ∙ ap (λ (d : ℕ). d * 2 ^ k + n % 2 ^ k) e ∙ omega arith in
    let s : suc k - 0 ≡ suc k = omega arith in
    let p : 2 ^ (suc k - 0) ≡ 2 ^ suc k = ap (λ (x : ℕ). 2 ^ x) s in
    record { within = omega arith; least = omega (arith, p); most = omega (arith, p, m, mod-lt n (pow_pos k)) }

reach_one : (k n h : ℕ) → n / 2 ^ k % 2 ≡ 1 → Reach k n h → Reach (suc k) n (suc h)
reach_one k n h e r =
    let m : n % 2 ^ suc k ≡ 2 ^ k + n % 2 ^ k = top_off k n ∙ ap (λ (d : ℕ). d * 2 ^ k + n % 2 ^ k) e ∙ omega arith in
    let s : suc k - suc h ≡ k - h = omega arith in
    let p : 2 ^ (suc k - suc h) ≡ 2 ^ (k - h) = ap (λ (x : ℕ). 2 ^ x) s in
    record {
      within = omega (arith, r.within);
      least = omega (arith, p, m, r.least);
      most = omega (arith, p, m, r.most);
    }

pub head_reach : (k n : ℕ) → Reach k n (head_of (bits_of k n))
unfolding bits_of head_of
head_reach zero n = record { within = omega arith; least = omega arith; most = omega (arith, mod-one n) }
head_reach (suc k) n = go (n / 2 ^ k % 2) refl (omega arith) (head_reach k n)
  where
    go : (d : ℕ) → n / 2 ^ k % 2 ≡ d → d < 2 → Reach k n (head_of (bits_of k n))
        → Reach (suc k) n (cond (eqb d 1) (suc (head_of (bits_of k n))) 0)
    go zero e l r = reach_zero k n e
    go (suc zero) e l r = reach_one k n (head_of (bits_of k n)) e r
    go (suc (suc d)) e l r = absurd (omega arith)

-- the zeros at the head of the complement of a byte with 24 zeros behind it
pub head_byte : (b : ℕ) → b < 256 → count_leading_zeros 32 ((2 ^ 32 - 1) - b * 2 ^ 24) ≡ head_of (bits_of 8 b)
head_byte b l =
    let h : ℕ = head_of (bits_of 8 b) in
    let r : Reach 8 b h = head_reach 8 b in
    let s : (8 - h) + 24 ≡ 32 - h = omega (arith, r.within) in
    let p : 2 ^ (32 - h) ≡ 2 ^ (8 - h) * 2 ^ 24 = ap (λ (x : ℕ). 2 ^ x) (sym s) ∙ pow-add 2 (8 - h) 24 in
    let m : b % 2 ^ 8 ≡ b = omega arith in
    sym (leading_unique 32 ((2 ^ 32 - 1) - b * 2 ^ 24) h (32 - h) (omega (arith, r.within))
    (omega (arith, p, m, r.least, l)) (omega (arith, p, m, r.most, l)))

-- ---- the tail

pub bits_length : (k n : ℕ) → length (bits_of k n) ≡ k
unfolding bits_of
bits_length zero n = refl
bits_length (suc k) n = ap suc (bits_length k n)

-- a list ends in no more free blocks than it has
pub tail_length : (xs : List Bool) → tail_of xs ≤ length xs
unfolding tail_of
tail_length [] = omega arith
tail_length (true ∷ xs) = one (eqb (tail_of xs) (length xs)) (tail_length xs)
  where
    one : (b : Bool) → tail_of xs ≤ length xs → cond b (suc (tail_of xs)) (tail_of xs) ≤ suc (length xs)
    one true l = omega arith
    one false l = omega arith
tail_length (false ∷ xs) = omega (arith, tail_length xs)

tail_none : (x : Bool) (xs : List Bool) → 0 < length xs → tail_of xs ≡ 0 → tail_of (x ∷ xs) ≡ 0
unfolding tail_of
tail_none true xs l e = rw (ne_eqb (tail_of xs) (length xs) (λ q. omega arith)) e
tail_none false xs l e = e

tail_more : (x : Bool) (xs ys : List Bool) → tail_of xs ≡ suc (tail_of ys) → length xs ≡ suc (length ys)
    → tail_of (x ∷ xs) ≡ suc (tail_of (x ∷ ys))
unfolding tail_of
tail_more true xs ys e l = rw (e, l, compare.suc-suc (tail_of ys) (length ys)) (one (eqb (tail_of ys) (length ys)) (tail_of ys))
  where
    one : (b : Bool) (t : ℕ) → cond b (suc (suc t)) (suc t) ≡ suc (cond b (suc t) t)
    one true t = refl
    one false t = refl
tail_more false xs ys e l = e

-- an even number ends in a 0
pub tail_even : (k n : ℕ) → n % 2 ≡ 0 → tail_of (bits_of (suc k) n) ≡ 0
unfolding bits_of tail_of
tail_even zero n e =
    let z : n / 2 ^ 0 % 2 ≡ 0 = omega arith in
    rw (z)
tail_even (suc k) n e =
    tail_none (eqb (n / 2 ^ suc k % 2) 1) (bits_of (suc k) n) (omega (arith, bits_length (suc k) n)) (tail_even k n e)

-- an odd one in the tail of its half, and a 1 behind that
pub tail_odd : (k n : ℕ) → n % 2 ≡ 1 → tail_of (bits_of (suc k) n) ≡ suc (tail_of (bits_of k (n / 2)))
unfolding bits_of tail_of
tail_odd zero n e =
    let o : n / 2 ^ 0 % 2 ≡ 1 = omega arith in
    rw (o)
tail_odd (suc k) n e =
    let h : n / 2 ^ suc k ≡ n / 2 / 2 ^ k = sym (shr-shr n 1 k ∙ ap (λ (x : ℕ). n / 2 ^ x) (one-add k)) in
    tail_more (eqb (n / 2 ^ suc k % 2) 1) (bits_of (suc k) n) (bits_of k (n / 2)) (tail_odd k n e)
    (bits_length (suc k) n ∙ ap suc (sym (bits_length k (n / 2))))
    ∙ ap (λ (x : ℕ). suc (tail_of (eqb (x % 2) 1 ∷ bits_of k (n / 2)))) h

trailing_step : (d v : ℕ) → count_trailing_zeros (suc d) v ≡ under (v % 2) (count_trailing_zeros d (v / 2))
unfolding count_trailing_zeros
trailing_step d v = refl

tail_nothing : (n : ℕ) → tail_of (bits_of 0 n) ≡ 0
unfolding bits_of tail_of
tail_nothing n = refl

-- the zeros at the tail of 1 more than the bits
tail_bits : (k d n : ℕ) → k < d → n < 2 ^ k → count_trailing_zeros d (n + 1) ≡ tail_of (bits_of k n)
tail_bits k zero n u l = absurd (omega arith)
tail_bits zero (suc d) n u l =
    let o : (n + 1) % 2 ≡ 1 = omega arith in
    trailing_step d (n + 1) ∙ ap (λ (x : ℕ). under x (count_trailing_zeros d ((n + 1) / 2))) o ∙ sym (tail_nothing n)
tail_bits (suc k) (suc d) n u l = go (n % 2) refl (omega arith) (λ v. tail_bits k d (n / 2) (omega arith) v)
  where
    go : (r : ℕ) → n % 2 ≡ r → r < 2 → (n / 2 < 2 ^ k → count_trailing_zeros d (n / 2 + 1) ≡ tail_of (bits_of k (n / 2)))
        → count_trailing_zeros (suc d) (n + 1) ≡ tail_of (bits_of (suc k) n)
    go zero e v rec =
        let o : (n + 1) % 2 ≡ 1 = omega arith in
        trailing_step d (n + 1) ∙ ap (λ (x : ℕ). under x (count_trailing_zeros d ((n + 1) / 2))) o ∙ sym (tail_even k n e)
    go (suc zero) e v rec =
        let o : (n + 1) % 2 ≡ 0 = omega arith in
        let h : (n + 1) / 2 ≡ n / 2 + 1 = omega arith in
        trailing_step d (n + 1) ∙ ap (λ (x : ℕ). under x (count_trailing_zeros d ((n + 1) / 2))) o
        ∙ ap (λ (x : ℕ). suc (count_trailing_zeros d x)) h ∙ ap suc (rec (omega arith)) ∙ sym (tail_odd k n e)
    go (suc (suc r)) e v rec = absurd (omega arith)

pub tail_byte : (b : ℕ) → b < 256 → count_trailing_zeros 32 (b + 1) ≡ tail_of (bits_of 8 b)
tail_byte b l = tail_bits 8 32 b (omega arith) l
