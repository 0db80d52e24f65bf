-- The sums A and B: several bytes at a time and without a reduction on the way, and how large they get.
-- Assumes nothing.
use mathlib.Core.Path.{◌≡◌, ap, ◌∙◌}
use mathlib.Core.List.{List, [], ◌∷◌}
use Prim.Native.Nat.{ℕ, ◌+◌, ◌*◌, ◌%◌, ◌<◌}
use native.Mathlib.Numerals.{add-one}
use native.Mathlib.Nat.{mod-add-mod, add-mod-mod, mod-lt}
use native.Mathlib.Omega.{arith}
use lib.Dec.{lit<}
use lib.ListN.{length, get_or, drop, drop_of_length-le}
use lib.Seq.{drop-cons}
use Rattle.block_seals.specs.Sealed.{sums}

-- one byte: A gains it, then B gains A, reduced only where the sums are compared
one_byte : (a b i : ℕ) (s : List ℕ) → i < length s
    → sums ((a + get_or s i 0) % 65521) ((b + (a + get_or s i 0)) % 65521) (drop (i + 1) s)
    ≡ sums (a % 65521) (b % 65521) (drop i s)
unfolding sums
one_byte a b i s h = rw (add-one, drop-cons s i 0 h, sums, mod-add-mod a 65521, mod-add-mod b 65521, add-mod-mod b)

-- two bytes, with those at even and at odd places summed apart: after i bytes A is 1 + even + odd, and B is i + 2 · (evens +
-- odds + even) + odd
pub two_bytes : (even odd evens odds x y i : ℕ) (s : List ℕ) → i + 1 < length s → x ≡ get_or s i 0 → y ≡ get_or s (i + 1) 0
    → sums ((1 + (even + x) + (odd + y)) % 65521)
    ((i + 2 + 2 * (evens + even + (odds + odd) + (even + x)) + (odd + y)) % 65521) (drop (i + 2) s)
    ≡ sums ((1 + even + odd) % 65521) ((i + 2 * (evens + odds + even) + odd) % 65521) (drop i s)
two_bytes even odd evens odds x y i s h ex ey =
    let a = 1 + even + odd in
    let b = i + 2 * (evens + odds + even) + odd in
    let ea : 1 + (even + x) + (odd + y) ≡ a + get_or s i 0 + get_or s (i + 1) 0 = omega arith in
    let eb : i + 2 + 2 * (evens + even + (odds + odd) + (even + x)) + (odd + y)
    ≡ b + (a + get_or s i 0) + (a + get_or s i 0 + get_or s (i + 1) 0) = omega arith in
    let ei : i + 2 ≡ i + 1 + 1 = omega arith in
    ap (λ (n : ℕ). sums (n % 65521) ((i + 2 + 2 * (evens + even + (odds + odd) + (even + x)) + (odd + y)) % 65521)
    (drop (i + 2) s)) ea
    ∙ ap (λ (n : ℕ). sums ((a + get_or s i 0 + get_or s (i + 1) 0) % 65521) (n % 65521) (drop (i + 2) s)) eb
    ∙ ap (λ (n : ℕ). sums ((a + get_or s i 0 + get_or s (i + 1) 0) % 65521)
    ((b + (a + get_or s i 0) + (a + get_or s i 0 + get_or s (i + 1) 0)) % 65521) (drop n s)) ei
    ∙ one_byte (a + get_or s i 0) (b + (a + get_or s i 0)) (i + 1) s h
    ∙ one_byte a b i s (omega arith)

-- after all 504 bytes
pub all_bytes : (even odd evens odds i : ℕ) (s : List ℕ) → length s ≡ 504 → i ≡ 504
    → sums ((1 + even + odd) % 65521) ((i + 2 * (evens + odds + even) + odd) % 65521) (drop i s) ≡ sums 1 0 s
    → ((1 + even + odd) % 65521 ≡ (sums 1 0 s).0) × ((504 + 2 * (evens + odds + even) + odd) % 65521 ≡ (sums 1 0 s).1)
unfolding sums
all_bytes even odd evens odds i s h e so_far =
    let over : drop i s ≡ [] = drop_of_length-le s {i = i} (omega arith) in
    let all = rw (over, e) at so_far in
    (ap (λ (p : ℕ × ℕ). p.0) all, ap (λ (p : ℕ × ℕ). p.1) all)

-- both sums stay below 65,521
pub sums_below : (a b : ℕ) (xs : List ℕ) → a < 65521 → b < 65521 → ((sums a b xs).0 < 65521) × ((sums a b xs).1 < 65521)
unfolding sums
sums_below a b [] ha hb = (ha, hb)
sums_below a b (x ∷ xs) ha hb =
    sums_below ((a + x) % 65521) ((b + (a + x) % 65521) % 65521) xs (mod-lt (a + x) (lit< tt))
    (mod-lt (b + (a + x) % 65521) (lit< tt))
