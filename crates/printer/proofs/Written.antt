-- Bytes written to a text: two writes, one behind the other, are one write of both.
-- Assumes nothing.
use mathlib.Core.Path.{◌≡◌, refl, sym, ap, ap₂, ◌∙◌, subst}
use mathlib.Core.Logic.{◌⊎◌, inl, inr}
use mathlib.Core.List.{List, [], ◌∷◌, ◌++◌}
use Prim.Native.Nat.{ℕ, suc, ◌+◌, ◌≤◌, ◌<◌, min, max}
use Rattle.laws.proofs.Bools.{order}
use native.Mathlib.Omega.{arith}
use lib.ListN.{length, get_or, take, set, length-append}
use lib.Seq.{sets, length-sets, set_out, take-suc, take_all}
use Rattle.printer.specs.Writing.{behind, written, Writes}

sets_past : (bytes text : List ℕ) (at : ℕ) → length text ≤ at → sets text at bytes ≡ text
sets_past [] text at h = refl
sets_past (b ∷ bytes) text at h =
    ap (λ (l : List ℕ). sets l (suc at) bytes) (set_out text at b h) ∙ sets_past bytes text (suc at) (omega (arith, h))

sets_both : (xs ys text : List ℕ) (at : ℕ) → sets (sets text at xs) (at + length xs) ys ≡ sets text at (xs ++ ys)
sets_both [] ys text at = let e : at + 0 ≡ at = omega arith in ap (λ (i : ℕ). sets text i ys) e
sets_both (x ∷ xs) ys text at =
    let e : at + suc (length xs) ≡ suc at + length xs = omega arith in
    ap (λ (i : ℕ). sets (sets (set text at x) (suc at) xs) i ys) e ∙ sets_both xs ys (set text at x) (suc at)

-- past the end nothing is written, and the place stays
pub written_past : (bytes text : List ℕ) (at : ℕ) → length text ≤ at → written text at bytes ≡ text
unfolding written
written_past bytes text at h = sets_past bytes text at h

pub behind_past : (bytes text : List ℕ) (at : ℕ) → length text ≤ at → behind text at bytes ≡ at
unfolding behind
behind_past bytes text at h = omega (arith, h)

pub written_length : (text : List ℕ) (at : ℕ) (bytes : List ℕ) → length (written text at bytes) ≡ length text
unfolding written
written_length text at bytes = length-sets text at bytes

pub written_none : (text : List ℕ) (at : ℕ) → written text at [] ≡ text
unfolding written
written_none text at = refl

pub behind_none : (text : List ℕ) (at : ℕ) → behind text at [] ≡ at
unfolding behind
behind_none text at = omega arith

-- the second of two writes stands where the first ends, or all of it is past the end
pub written_both : (xs ys text : List ℕ) (at : ℕ)
    → written (written text at xs) (behind text at xs) ys ≡ written text at (xs ++ ys)
unfolding written behind
written_both xs ys text at = which (order (at + length xs) (length text))
  where
    which : (at + length xs < length text) ⊎ (length text ≤ at + length xs)
        → sets (sets text at xs) (max at (min (at + length xs) (length text))) ys ≡ sets text at (xs ++ ys)
    which (inl h) =
        let e : max at (min (at + length xs) (length text)) ≡ at + length xs = omega (arith, h) in
        ap (λ (i : ℕ). sets (sets text at xs) i ys) e ∙ sets_both xs ys text at
    which (inr h) =
        let l : length (sets text at xs) ≡ length text = length-sets text at xs in
        let far : length (sets text at xs) ≤ max at (min (at + length xs) (length text)) = omega (arith, h, l) in
        let last : length (sets text at xs) ≤ at + length xs = omega (arith, h, l) in
        sets_past ys (sets text at xs) (max at (min (at + length xs) (length text))) far
        ∙ sym (sets_past ys (sets text at xs) (at + length xs) last) ∙ sets_both xs ys text at

pub behind_both : (xs ys text text' : List ℕ) (at : ℕ) → length text' ≡ length text
    → behind text' (behind text at xs) ys ≡ behind text at (xs ++ ys)
unfolding behind
behind_both xs ys text text' at l = omega (arith, l, length-append xs ys)

-- `then first second`: what two writes come to
pub then : {xs ys text text' text'' : List ℕ} {at at' at'' : ℕ} → Writes xs text at at' text' → Writes ys text' at' at'' text''
    → Writes (xs ++ ys) text at at'' text''
then {xs} {ys} {text} {text'} {text''} {at} {at'} {at''} w w' =
    let l : length text' ≡ length text = ap length w.leaves ∙ written_length text at xs in
    record {
      ends = w'.ends ∙ ap (λ (i : ℕ). behind text' i ys) w.ends ∙ behind_both xs ys text text' at l;
      leaves = w'.leaves ∙ ap₂ (λ (t : List ℕ) (i : ℕ). written t i ys) w.leaves w.ends ∙ written_both xs ys text at;
    }

-- one byte
pub writes_byte : (b : ℕ) (text : List ℕ) (at : ℕ) → at < length text → Writes (b ∷ []) text at (at + 1) (set text at b)
unfolding written behind
writes_byte b text at h = record { ends = omega (arith, h); leaves = refl }

pub writes_past : (bytes text : List ℕ) (at : ℕ) → length text ≤ at → Writes bytes text at at text
writes_past bytes text at h = record { ends = sym (behind_past bytes text at h); leaves = sym (written_past bytes text at h) }

-- with as many bytes as there is room for, the text is full
pub writes_full : {bytes text text' : List ℕ} {at r : ℕ} → Writes bytes text at r text' → length text ≤ at + length bytes
    → length text' ≤ r
unfolding behind
writes_full {bytes} {text} {text'} {at} {r} w h =
    let l : length text' ≡ length text = ap length w.leaves ∙ written_length text at bytes in
    omega (arith, w.ends, l, h)

pub writes_none : (text : List ℕ) (at : ℕ) → Writes [] text at at text
writes_none text at = record { ends = sym (behind_none text at); leaves = sym (written_none text at) }

-- one byte of a word more
pub writes_next : (word text text' text'' : List ℕ) (at at' at'' i : ℕ) → i < length word
    → Writes (take i word) text at at' text'
    → Writes (get_or word i 0 ∷ []) text' at' at'' text'' → Writes (take (i + 1) word) text at at'' text''
writes_next word text text' text'' at at' at'' i h w w' =
    let e : i + 1 ≡ suc i = omega arith in
    subst (λ (bytes : List ℕ). Writes bytes text at at'' text'') (sym (ap (λ (k : ℕ). take k word) e ∙ take-suc word i 0 h))
    (then w w')

pub writes_all : (word text text' : List ℕ) (at at' i : ℕ) → length word ≤ i → Writes (take i word) text at at' text'
    → Writes word text at at' text'
writes_all word text text' at at' i h = subst (λ (bytes : List ℕ). Writes bytes text at at' text') (take_all i word h)
