-- A byte that is all free, by its bits: without the first one and with 1 added, it has the first one again.
-- Assumes nothing.
use mathlib.Core.Path.{◌≡◌, refl, sym, ap, ap₂, ◌∙◌}
use mathlib.Core.Bool.{Bool, true, false}
use mathlib.Core.Logic.{⊎_elim}
use mathlib.Core.List.{List, [], ◌∷◌}
use Prim.Native.Nat.{ℕ, zero, suc, ◌+◌, ◌-◌, ◌*◌, ◌/◌, ◌%◌, ◌^◌, ◌<◌, ◌≤◌}
use native.Mathlib.Omega.{arith}
use lib.Bits.{bit_and, and_shr, and_mod, and_mask, and_block}
use lib.Dec.{eqb}
use lib.ListN.{length}
use Rattle.laws.proofs.Bools.{order}
use Rattle.survey_bytes.specs.Runs.{head_of, longest_of}
use Rattle.survey_bytes.specs.Bytes.{bits_of}
use Rattle.survey_words.specs.Passing.{Short}
use Rattle.survey_bytes.proofs.Ends.{Reach, head_reach}

-- the last bits of k bytes, their first bits, and all but the first
abbrev pub lasts : ℕ → ℕ
lasts zero = 0
lasts (suc k) = lasts k * 256 + 1

abbrev pub firsts : ℕ → ℕ
firsts zero = 0
firsts (suc k) = firsts k * 256 + 128

abbrev pub others : ℕ → ℕ
others zero = 0
others (suc k) = others k * 256 + 127

-- ---- a byte that is not all free has no run of 8

head_length : (xs : List Bool) → head_of xs ≤ length xs
unfolding head_of
head_length [] = omega arith
head_length (true ∷ xs) = omega (arith, head_length xs)
head_length (false ∷ xs) = omega arith

longest_length : (xs : List Bool) → longest_of xs ≤ length xs
unfolding head_of longest_of
longest_length [] = omega arith
longest_length (true ∷ xs) = omega (arith, longest_length xs, head_length xs)
longest_length (false ∷ xs) = omega (arith, longest_length xs)

longest_broken : (x : Bool) (xs : List Bool) → head_of (x ∷ xs) < length (x ∷ xs) → longest_of (x ∷ xs) < length (x ∷ xs)
unfolding head_of longest_of
longest_broken true xs l = omega (arith, longest_length xs, l)
longest_broken false xs l = omega (arith, longest_length xs, l)

byte_broken : (b : ℕ) → head_of (bits_of 8 b) < 8 → longest_of (bits_of 8 b) < 8
unfolding bits_of
byte_broken b l = longest_broken (eqb (b / 2 ^ 7 % 2) 1) (bits_of 7 b) l

not_full : (b : ℕ) → b < 255 → longest_of (bits_of 8 b) < 8
not_full b l =
    let h : ℕ = head_of (bits_of 8 b) in
    let r : Reach 8 b h = head_reach 8 b in
    ⊎_elim
    (λ (u : h < 8). byte_broken b u)
    (λ (g : 8 ≤ h).
    let z : 8 - h ≡ 0 = omega arith in
    let p : 2 ^ (8 - h) ≡ 1 = ap (λ (x : ℕ). 2 ^ x) z in
    absurd (omega (arith, p, r.least)))
    (order h 8)

-- ---- the bytes of a word

sum_off : (w k : ℕ) → bit_and w (others k * 256 + 127) + (lasts k * 256 + 1)
    ≡ (bit_and (w / 256) (others k) + lasts k) * 256 + (w % 128 + 1)
sum_off w k =
    let split : w ≡ w / 256 * 256 + w % 256 = omega arith in
    let a : bit_and w (others k * 256 + 127) ≡ bit_and (w / 256) (others k) * 256 + bit_and (w % 256) 127 =
    ap (λ (x : ℕ). bit_and x (others k * 256 + 127)) split
    ∙ and_block 8 (w / 256) (others k) (w % 256) 127 (omega arith) (omega arith) in
    let m : bit_and (w % 256) 127 ≡ w % 256 % 128 = and_mask (w % 256) 7 in
    omega (arith, a, m)

-- the last byte, and the others
last_off : (s w f : ℕ) → s % 256 ≡ w % 128 + 1 → bit_and (bit_and s w) (f * 256 + 128) ≡ 0 → w % 256 < 255
last_off s w f e z =
    let g : 128 ≡ (f * 256 + 128) % 256 = omega arith in
    let low : bit_and (bit_and (s % 256) (w % 256)) 128 ≡ 0 =
    ap₂ bit_and (sym (and_mod s w 8)) g ∙ sym (and_mod (bit_and s w) (f * 256 + 128) 8) ∙ ap (λ (x : ℕ). x % 256) z in
    ⊎_elim
    (λ (u : w % 256 < 255). u)
    (λ (u : 255 ≤ w % 256).
    let v : w % 256 ≡ 255 = omega arith in
    let t : s % 256 ≡ 128 = omega arith in
    let c : bit_and (bit_and 128 255) 128 ≡ 128 = refl in
    absurd (omega (arith, ap₂ (λ (x y : ℕ). bit_and (bit_and x y) 128) t v, c, low)))
    (order (w % 256) 255)

first_off : (s t w f : ℕ) → s / 256 ≡ t → bit_and (bit_and s w) (f * 256 + 128) ≡ 0 → bit_and (bit_and t (w / 256)) f ≡ 0
first_off s t w f e z =
    let g : f ≡ (f * 256 + 128) / 256 = omega arith in
    ap₂ bit_and (ap (λ (x : ℕ). bit_and x (w / 256)) (sym e) ∙ sym (and_shr s w 8)) g
    ∙ sym (and_shr (bit_and s w) (f * 256 + 128) 8)
    ∙ ap (λ (x : ℕ). x / 256) z

pub short : (k w : ℕ) → bit_and (bit_and (bit_and w (others k) + lasts k) w) (firsts k) ≡ 0 → Short k w
short zero w e = tt
short (suc k) w e =
    let s : ℕ = bit_and w (others k * 256 + 127) + (lasts k * 256 + 1) in
    let t : ℕ = bit_and (w / 256) (others k) + lasts k in
    let hi : s / 256 ≡ t = omega (arith, sum_off w k) in
    let lo : s % 256 ≡ w % 128 + 1 = omega (arith, sum_off w k) in
    (not_full (w % 256) (last_off s w (firsts k) lo e), short k (w / 256) (first_off s t w (firsts k) hi e))
