-- Numbers and words that are stored are read back as they were, and bytes are those of what is read from them.
-- Assumes nothing.
use mathlib.Core.Path.{◌≡◌, refl, sym, ap, ap₂, subst, ◌∙◌}
use mathlib.Core.Logic.{⊎_elim}
use mathlib.Core.List.{List, [], ◌∷◌, ◌++◌, append_assoc}
use Prim.Native.Nat.{ℕ, zero, suc, ◌+◌, ◌*◌, ◌/◌, ◌%◌, ◌≤◌, ◌<◌}
use native.Mathlib.Omega.{arith}
use lib.ListN.{length, get_or, take, drop, length-append, get_or-eq_default}
use lib.Seq.{take-add, drop-drop}
use Rattle.laws.proofs.Bools.{order}
use Rattle.block_bytes.specs.Numbers.{bytes4, number_at}
use Rattle.block_bytes.proofs.Numbers.{bytes4_length, number_at_lem}
use Rattle.image_frames.specs.Frames.{Bytes, body_of, total_of}
use Rattle.image_frames.specs.Numbers.{bytes8, word_bytes, words_at}
use Rattle.image_frames.proofs.Bodies.{body_length, body_at}
use Rattle.image_frames.proofs.Framing.{bytes_back}

-- the body of an image of bytes is bytes
pub body_bytes : (image : List ℕ) → Bytes image → Bytes (body_of image)
body_bytes image small j =
    ⊎_elim
    (λ (lo : j < 496 * total_of image). subst (λ (x : ℕ). x < 256) (sym (body_at image j lo))
    (small (512 * (j / 496) + 8 + j % 496)))
    (λ (hi : 496 * total_of image ≤ j). subst (λ (x : ℕ). x < 256)
    (sym (get_or-eq_default (body_of image) 0 {n = j} (omega (arith, body_length image)))) (omega arith))
    (order j (496 * total_of image))

-- a number of four bytes
pub number_small : (bytes : List ℕ) (at : ℕ) → Bytes bytes → number_at bytes at < 4294967296
unfolding number_at
number_small bytes at small =
    let a = small at in
    let b = small (at + 1) in
    let c = small (at + 2) in
    let d = small (at + 3) in
    omega arith

high_back : (high low : ℕ) → low < 4294967296 → (high * 4294967296 + low) / 4294967296 ≡ high
high_back high low h = omega arith

low_back : (high low : ℕ) → low < 4294967296 → (high * 4294967296 + low) % 4294967296 ≡ low
low_back high low h = omega arith

-- the bytes of the words that are read
pub words_back : (bytes : List ℕ) (at w : ℕ) → Bytes bytes → at + 8 * w ≤ length bytes
    → word_bytes (words_at bytes at w) ≡ take (8 * w) (drop at bytes)
unfolding word_bytes words_at bytes8
words_back bytes at zero small h = refl
words_back bytes at (suc w) small h =
    let high : ℕ = number_at bytes at in
    let low : ℕ = number_at bytes (at + 4) in
    let l = number_small bytes (at + 4) small in
    let e : 4 + (4 + 8 * w) ≡ 8 * suc w = omega arith in
    let e8 : at + 4 + 4 ≡ at + 8 = omega arith in
    ap₂ (λ (x y : ℕ). (bytes4 x ++ bytes4 y) ++ word_bytes (words_at bytes (at + 8) w)) (high_back high low l)
    (low_back high low l)
    ∙ append_assoc (bytes4 high) (bytes4 low) (word_bytes (words_at bytes (at + 8) w))
    ∙ ap₂ ◌++◌ (bytes_back bytes at small (omega arith))
    (ap₂ ◌++◌ (bytes_back bytes (at + 4) small (omega arith) ∙ ap (take 4) (sym (drop-drop 4 at bytes)))
    (words_back bytes (at + 8) w small (omega arith) ∙ ap (λ (x : ℕ). take (8 * w) (drop x bytes)) (sym e8)
    ∙ ap (take (8 * w)) (sym (drop-drop 4 (at + 4) bytes) ∙ ap (drop 4) (sym (drop-drop 4 at bytes))))
    ∙ sym (take-add 4 (8 * w) (drop 4 (drop at bytes))))
    ∙ sym (take-add 4 (4 + 8 * w) (drop at bytes)) ∙ ap (λ (x : ℕ). take x (drop at bytes)) e

-- words that are stored
pub words_stored : (p words q : List ℕ) (at : ℕ) → length p ≡ at → ((i : ℕ) → get_or words i 0 < 18446744073709551616)
    → words_at (p ++ (word_bytes words ++ q)) at (length words) ≡ words
unfolding word_bytes words_at bytes8
words_stored p [] q at e small = refl
words_stored p (x ∷ words) q at e small =
    let h : List ℕ = bytes4 (x / 4294967296) in
    let l : List ℕ = bytes4 (x % 4294967296) in
    let rest : List ℕ = word_bytes words ++ q in
    let s = small 0 in
    let all : p ++ (((h ++ l) ++ word_bytes words) ++ q) ≡ p ++ (h ++ (l ++ rest)) = simp append_assoc in
    let mid : p ++ (h ++ (l ++ rest)) ≡ (p ++ h) ++ (l ++ rest) = sym (append_assoc p h (l ++ rest)) in
    let last : p ++ (h ++ (l ++ rest)) ≡ ((p ++ h) ++ l) ++ rest = mid ∙ sym (append_assoc (p ++ h) l rest) in
    let lh = bytes4_length (x / 4294967296) in
    let ll = bytes4_length (x % 4294967296) in
    let l1 = length-append p h in
    let l2 = length-append (p ++ h) l in
    let high : number_at (p ++ (h ++ (l ++ rest))) at ≡ x / 4294967296 =
    number_at_lem p (l ++ rest) (x / 4294967296) at e (omega arith) in
    let low : number_at (p ++ (h ++ (l ++ rest))) (at + 4) ≡ x % 4294967296 =
    ap (λ (b : List ℕ). number_at b (at + 4)) mid
    ∙ number_at_lem (p ++ h) rest (x % 4294967296) (at + 4) (omega arith) (omega arith) in
    let whole : x / 4294967296 * 4294967296 + x % 4294967296 ≡ x = omega arith in
    ap (λ (b : List ℕ). (number_at b at * 4294967296 + number_at b (at + 4)) ∷ words_at b (at + 8) (length words)) all
    ∙ ap₂ (λ (y : ℕ) (ys : List ℕ). y ∷ ys) (ap₂ (λ (a b : ℕ). a * 4294967296 + b) high low ∙ whole)
    (ap (λ (b : List ℕ). words_at b (at + 8) (length words)) last
    ∙ words_stored ((p ++ h) ++ l) words q (at + 8) (omega arith) (λ i. small (suc i)))
