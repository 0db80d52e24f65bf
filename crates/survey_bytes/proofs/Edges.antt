-- The bits of a word that tell where a run goes on from a byte into the next: that they are all 0, and how many are 1.
-- Assumes nothing.
use mathlib.Core.Path.{◌≡◌, sym, ap, ap₂, ◌∙◌}
use Prim.Native.Nat.{ℕ, zero, suc, ◌+◌, ◌*◌, ◌/◌, ◌%◌, ◌<◌, ◌≤◌, min}
use native.Mathlib.Omega.{arith}
use lib.Bits.{bit_and, and_step, and_shr, and_mod, and_mask, and_le_r}
use Rattle.survey_bytes.specs.Bytes.{Apart, crossed}

-- the last bits of k bytes
abbrev pub lasts : ℕ → ℕ
lasts zero = 0
lasts (suc k) = lasts k * 256 + 1

edge_bits : (a b m : ℕ) → bit_and (bit_and a b) (m * 256 + 1) ≡ 0 → min (a % 2) (b % 2) ≡ 0
edge_bits a b m e = omega (arith, and_step (bit_and a b) (m * 256 + 1), and_step a b)

-- a byte further
further : (w m : ℕ) → bit_and (bit_and (w / 256) (w / 128)) (m * 256 + 1) ≡ 0
    → bit_and (bit_and (w / 256 / 256) (w / 256 / 128)) m ≡ 0
further w m e =
    let p : w / 256 / 128 ≡ w / 128 / 256 = omega arith in
    let q : m ≡ (m * 256 + 1) / 256 = omega arith in
    ap₂ bit_and (ap (bit_and (w / 256 / 256)) p ∙ sym (and_shr (w / 256) (w / 128) 8)) q
    ∙ sym (and_shr (bit_and (w / 256) (w / 128)) (m * 256 + 1) 8)
    ∙ ap (λ (x : ℕ). x / 256) e

pub apart : (k w : ℕ) → bit_and (bit_and (w / 256) (w / 128)) (lasts k) ≡ 0 → Apart k w
apart zero w e = tt
apart (suc k) w e = (edge_bits (w / 256) (w / 128) (lasts k) e, apart k (w / 256) (further w (lasts k) e))

-- ---- how many are 1

low_bit : (a b m : ℕ) → bit_and (bit_and a b) (m * 256 + 1) % 256 ≡ min (a % 2) (b % 2)
low_bit a b m =
    let one : (m * 256 + 1) % 256 ≡ 1 = omega arith in
    let e : bit_and a b % 256 % 2 ≡ bit_and a b % 2 = omega arith in
    and_mod (bit_and a b) (m * 256 + 1) 8 ∙ ap (bit_and (bit_and a b % 256)) one ∙ and_mask (bit_and a b % 256) 1 ∙ e
    ∙ omega (arith, and_step a b)

high_bits : (w m : ℕ) → bit_and (bit_and (w / 256) (w / 128)) (m * 256 + 1) / 256
    ≡ bit_and (bit_and (w / 256 / 256) (w / 256 / 128)) m
high_bits w m =
    let p : w / 128 / 256 ≡ w / 256 / 128 = omega arith in
    let q : (m * 256 + 1) / 256 ≡ m = omega arith in
    and_shr (bit_and (w / 256) (w / 128)) (m * 256 + 1) 8
    ∙ ap₂ bit_and (and_shr (w / 256) (w / 128) 8 ∙ ap (bit_and (w / 256 / 256)) p) q

crossed_le : (k w : ℕ) → crossed k w ≤ k
unfolding crossed
crossed_le zero w = omega arith
crossed_le (suc k) w = omega (arith, crossed_le k (w / 256))

pub counted_crossings : (k w : ℕ) → k < 100 → bit_and (bit_and (w / 256) (w / 128)) (lasts k) % 255 ≡ crossed k w
unfolding crossed
counted_crossings zero w l = omega (arith, and_le_r (bit_and (w / 256) (w / 128)) 0)
counted_crossings (suc k) w l =
    let x : ℕ = bit_and (bit_and (w / 256) (w / 128)) (lasts k * 256 + 1) in
    let rec : bit_and (bit_and (w / 256 / 256) (w / 256 / 128)) (lasts k) % 255 ≡ crossed k (w / 256) =
    counted_crossings k (w / 256) (omega arith) in
    let hi : x / 256 ≡ bit_and (bit_and (w / 256 / 256) (w / 256 / 128)) (lasts k) = high_bits w (lasts k) in
    let lo : x % 256 ≡ min (w / 256 % 2) (w / 128 % 2) = low_bit (w / 256) (w / 128) (lasts k) in
    omega (arith, rec, hi, lo, crossed_le k (w / 256))
