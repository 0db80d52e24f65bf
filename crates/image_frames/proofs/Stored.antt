-- Numbers and words stored one behind the other in a body, and read from it.
-- Assumes nothing.
use mathlib.Core.Path.{◌≡◌, refl, sym, ap, ap₂, subst, ◌∙◌}
use mathlib.Core.Logic.{⊎_elim}
use mathlib.Core.Bool.{true}
use mathlib.Core.List.{List, [], ◌∷◌, ◌++◌, append_assoc, append-nil}
use Prim.Native.Nat.{ℕ, zero, suc, ◌+◌, ◌-◌, ◌*◌, ◌/◌, ◌%◌, ◌≤◌, ◌<◌}
use native.Mathlib.Nat.{add-zero}
use native.Mathlib.Numerals.{add-one}
use native.Mathlib.Omega.{arith}
use lib.ListN.{length, get_or, set, take, drop, replicate, length-append, length-replicate, length-drop, length-set}
use lib.ListN.{replicate-append-replicate, get_or-append}
use lib.Seq.{ext_get_or, take-suc, take_all, length-take-le, get_or-take, get_or-drop, get_or-append-add, get_or-set_same}
use lib.Seq.{get_or-set_other}
use borrow.Rule.Slice.PartMut.{mid_of, put_mid, same_len_mid}
use borrow.Author.Tests.{eqb-true, eq-eqb}
use lib.Dec.{eqb}
use Rattle.map_blocks.specs.Blocks.{all}
use Rattle.map_blocks.proofs.Runs.{all_intro, all_elim}
use Rattle.laws.proofs.Bools.{order, both_ways}
use Rattle.block_bytes.specs.Numbers.{bytes4, number_at}
use Rattle.block_seals.specs.Sealed.{blank}
use Rattle.block_seals.proofs.Blank.{blank_zeros, blank_is_zeros}
use Rattle.block_bytes.proofs.Numbers.{bytes4_length}
use Rattle.image_frames.specs.Frames.{body_of, total_of}
use Rattle.block_bytes.specs.Replaced.{replaced}
use Rattle.block_bytes.proofs.Replaced.{replaced_none, replaced_more}
use Rattle.image_frames.specs.Numbers.{place_of, number_in, with_number, bytes8, word_bytes, word_at, words_at}
use Rattle.image_frames.proofs.Bodies.{body_length}
use Rattle.image_frames.proofs.Numbered.{number_behind, stored_length, stored-body}

-- some bytes were written, from number k on, over the body of an image
pub record Written (first : List ℕ) (k : ℕ) (news image : List ℕ) : Type 0 where
  pub long : length image ≡ length first
  pub bytes : body_of image ≡ replaced (body_of first) (4 * k) news

module _ (first : List ℕ) (k : ℕ) where
  pub written_none : Written first k [] first
  written_none = record { long = refl; bytes = sym (replaced_none (body_of first) (4 * k)) }

  -- one number more behind them
  pub written_number : (news image next : List ℕ) (i number : ℕ) → 4 * i ≡ 4 * k + length news → i / 124 < total_of first
      → next ≡ with_number image i number
      → Written first k news image → Written first k (news ++ bytes4 number) next
  written_number news image next i number e h said w =
      let t : total_of image ≡ total_of first = ap (λ (n : ℕ). n / 512) w.long in
      record {
        long = ap length said ∙ stored_length image i number ∙ w.long;
        bytes = ap body_of said ∙ stored-body image i number (omega arith)
            ∙ ap₂ (λ (x : List ℕ) (y : ℕ). replaced x y (bytes4 number)) w.bytes e
            ∙ replaced_more (body_of first) (4 * k) news (omega (arith, body_length first)) (bytes4 number);
      }

  -- zeros up to number i
  pub zeros_none : Written first k (replicate (4 * (k - k)) 0) first
  zeros_none = let e : 0 ≡ 4 * (k - k) = omega arith in subst (λ (n : ℕ). Written first k (replicate n 0) first) e written_none

  pub zeros_more : (image next : List ℕ) (i : ℕ) → k ≤ i → i / 124 < total_of first → next ≡ with_number image i 0
      → Written first k (replicate (4 * (i - k)) 0) image → Written first k (replicate (4 * (i + 1 - k)) 0) next
  unfolding bytes4
  zeros_more image next i o h said w =
      let l : length {A = ℕ} (replicate (4 * (i - k)) 0) ≡ 4 * (i - k) = length-replicate {A = ℕ} (4 * (i - k)) 0 in
      let e : 4 * (i - k) + 4 ≡ 4 * (i + 1 - k) = omega arith in
      subst (λ (l : List ℕ). Written first k l next)
      (replicate-append-replicate {A = ℕ} (4 * (i - k)) 4 0 ∙ ap (λ (n : ℕ). replicate n 0) e)
      (written_number (replicate (4 * (i - k)) 0) image next i 0 (omega arith) h said w)

-- words as bytes
pub bytes8_length : (word : ℕ) → length (bytes8 word) ≡ 8
unfolding bytes8 bytes4
bytes8_length word = refl

pub word_bytes_length : (words : List ℕ) → length (word_bytes words) ≡ 8 * length words
unfolding word_bytes
word_bytes_length [] = refl
word_bytes_length (x ∷ xs) = omega (arith, length-append (bytes8 x) (word_bytes xs), bytes8_length x, word_bytes_length xs)

pub word_bytes_append : (xs ys : List ℕ) → word_bytes (xs ++ ys) ≡ word_bytes xs ++ word_bytes ys
unfolding word_bytes
word_bytes_append [] ys = refl
word_bytes_append (x ∷ xs) ys = ap (λ (l : List ℕ). bytes8 x ++ l) (word_bytes_append xs ys)
    ∙ sym (append_assoc (bytes8 x) (word_bytes xs) (word_bytes ys))

word_behind : (words : List ℕ) (i : ℕ) → i < length words
    → (word_bytes (take i words) ++ bytes4 (get_or words i 0 / 4294967296)) ++ bytes4 (get_or words i 0 % 4294967296)
    ≡ word_bytes (take (i + 1) words)
unfolding word_bytes bytes8
word_behind words i h =
    let x : ℕ = get_or words i 0 in
    append_assoc (word_bytes (take i words)) (bytes4 (x / 4294967296)) (bytes4 (x % 4294967296))
    ∙ ap (λ (l : List ℕ). word_bytes (take i words) ++ l) (sym (append-nil (bytes8 x)))
    ∙ sym (word_bytes_append (take i words) (x ∷ [])) ∙ ap word_bytes (sym (take-suc words i 0 h))
    ∙ ap (λ (n : ℕ). word_bytes (take n words)) (sym (add-one i))

-- a word more
module _ (first : List ℕ) (k : ℕ) (words : List ℕ) where
  pub words_none : Written first k (word_bytes (take 0 words)) first
  unfolding word_bytes
  words_none = written_none first k

  pub words_more : (image next last : List ℕ) (i : ℕ) → i < length words → (k + 2 * i + 1) / 124 < total_of first
      → next ≡ with_number image (k + 2 * i) (get_or words i 0 / 4294967296)
      → last ≡ with_number next (k + 2 * i + 1) (get_or words i 0 % 4294967296)
      → Written first k (word_bytes (take i words)) image → Written first k (word_bytes (take (i + 1) words)) last
  words_more image next last i h inside said said' w =
      let x : ℕ = get_or words i 0 in
      let news : List ℕ = word_bytes (take i words) in
      let l : length (word_bytes (take i words)) ≡ 8 * i = word_bytes_length (take i words)
      ∙ ap (λ (n : ℕ). 8 * n) (length-take-le i words (omega arith)) in
      let l2 : length (word_bytes (take i words) ++ bytes4 (x / 4294967296)) ≡ 8 * i + 4 =
      omega (arith, length-append news (bytes4 (x / 4294967296)), bytes4_length (x / 4294967296)) in
      subst (λ (b : List ℕ). Written first k b last) (word_behind words i h)
      (written_number first k (news ++ bytes4 (x / 4294967296)) next last (k + 2 * i + 1) (x % 4294967296)
      (omega arith) inside said'
      (written_number first k news image next (k + 2 * i) (x / 4294967296) (omega arith) (omega arith) said w))

  pub words_end : (image : List ℕ) (i : ℕ) → length words ≤ i → Written first k (word_bytes (take i words)) image
      → Written first k (word_bytes words) image
  words_end image i h w = subst (λ (l : List ℕ). Written first k (word_bytes l) image) (take_all i words h) w

-- words read
pub words_at_length : (bytes : List ℕ) (at w : ℕ) → length (words_at bytes at w) ≡ w
unfolding words_at
words_at_length bytes at zero = refl
words_at_length bytes at (suc w) = ap suc (words_at_length bytes (at + 8) w)

pub words_at_at : (bytes : List ℕ) (at w i : ℕ) → i < w → get_or (words_at bytes at w) i 0 ≡ word_at bytes (at + 8 * i)
unfolding words_at
words_at_at bytes at zero i h = absurd (omega arith)
words_at_at bytes at (suc w) zero h = let e : at ≡ at + 8 * 0 = omega arith in ap (word_at bytes) e
words_at_at bytes at (suc w) (suc i) h =
    let e : at + 8 + 8 * i ≡ at + 8 * suc i = omega arith in
    words_at_at bytes (at + 8) w i (omega arith) ∙ ap (word_at bytes) e

-- words that stand whole in a frame, in the image and in the body
pub words_together : (image : List ℕ) (k count : ℕ) → k / 124 < total_of image → k % 124 + 2 * count ≤ 124
    → words_at image (place_of k) count ≡ words_at (body_of image) (4 * k) count
words_together image k count inside fit =
    ext_get_or 0 (words_at image (place_of k) count) (words_at (body_of image) (4 * k) count)
    (words_at_length image (place_of k) count ∙ sym (words_at_length (body_of image) (4 * k) count))
    (λ i u.
    let h : i < count = omega (arith, words_at_length image (place_of k) count) in
    let a : place_of k + 8 * i ≡ place_of k + 4 * (2 * i) = omega arith in
    let a' : place_of k + 8 * i + 4 ≡ place_of k + 4 * (2 * i + 1) = omega arith in
    let b : 4 * k + 4 * (2 * i) ≡ 4 * k + 8 * i = omega arith in
    let b' : 4 * k + 4 * (2 * i + 1) ≡ 4 * k + 8 * i + 4 = omega arith in
    words_at_at image (place_of k) count i h
    ∙ ap₂ (λ (x y : ℕ). x * 4294967296 + y)
    (ap (number_at image) a ∙ number_behind image k (2 * i) inside (omega arith) ∙ ap (number_at (body_of image)) b)
    (ap (number_at image) a' ∙ number_behind image k (2 * i + 1) inside (omega arith) ∙ ap (number_at (body_of image)) b')
    ∙ sym (words_at_at (body_of image) (4 * k) count i h))

-- words read from a frame, in front of those that are not: none, and some
pub frame_none : (bytes : List ℕ) (at : ℕ) (words : List ℕ) → words ≡ words_at bytes at 0 ++ drop 0 words
unfolding words_at
frame_none bytes at words = refl

pub frame_some : (image : List ℕ) (k at count : ℕ) (words first : List ℕ) → at ≡ place_of k
    → first ≡ words_at image at (length (take count words)) → count ≤ length words → k / 124 < total_of image
    → k % 124 + 2 * count ≤ 124 → first ++ drop count words ≡ words_at (body_of image) (4 * k) count ++ drop count words
frame_some image k at count words first ea e few inside fit =
    ap (λ (l : List ℕ). l ++ drop count words)
    (e ∙ ap₂ (words_at image) ea (length-take-le count words few) ∙ words_together image k count inside fit)

-- a word of the body, by the numbers that are its halves
pub word_halves : (image : List ℕ) (k i : ℕ)
    → number_in image (k + 2 * i) * 4294967296 + number_in image (k + 2 * i + 1) ≡ word_at (body_of image) (4 * k + 8 * i)
unfolding number_in
word_halves image k i =
    let a : 4 * (k + 2 * i) ≡ 4 * k + 8 * i = omega arith in
    let b : 4 * (k + 2 * i + 1) ≡ 4 * k + 8 * i + 4 = omega arith in
    ap₂ (λ (x y : ℕ). number_at (body_of image) x * 4294967296 + number_at (body_of image) y) a b

-- the words passed are those that are stored from byte `at` on, and there are as many as at first
pub record Reading (bytes : List ℕ) (at : ℕ) (first : List ℕ) (i : ℕ) (words : List ℕ) : Type 0 where
  pub long : length words ≡ length first
  pub read : (j : ℕ) → j < i → get_or words j 0 ≡ word_at bytes (at + 8 * j)

module _ (bytes : List ℕ) (at : ℕ) (first : List ℕ) where
  pub reading_none : Reading bytes at first 0 first
  reading_none = record { long = refl; read = λ j u. absurd (omega arith) }

  pub reading_more : (i : ℕ) (words : List ℕ) (x : ℕ) → i < length words → x ≡ word_at bytes (at + 8 * i)
      → Reading bytes at first i words → Reading bytes at first (i + 1) (set words i x)
  reading_more i words x h e r = record {
    long = length-set words i x ∙ r.long;
    read = λ j u.
        ⊎_elim (λ (lo : j < i). get_or-set_other words i j x 0 (λ (q : j ≡ i). absurd (omega arith)) ∙ r.read j lo)
        (λ (hi : i ≤ j).
        let q : i ≡ j = omega arith in
        ap (λ (y : ℕ). get_or (set words i x) y 0) (sym q) ∙ get_or-set_same words i x 0 h ∙ e
        ∙ ap (λ (y : ℕ). word_at bytes (at + 8 * y)) q) (order j i);
  }

  -- some words more, read to the part behind those that were passed
  pub reading_part : (i from k : ℕ) (words part : List ℕ) → i ≤ length words → from ≡ at + 8 * i
      → k ≤ length (mid_of i (length words - i) words)
      → part ≡ words_at bytes from k ++ drop k (mid_of i (length words - i) words)
      → Reading bytes at first i words → Reading bytes at first (i + k) (put_mid i (length words - i) words part)
  reading_part i from k words part h ef fit e r =
      let mid : List ℕ = mid_of i (length words - i) words in
      let front : List ℕ = take i words in
      let new : List ℕ = words_at bytes from k in
      let behind : List ℕ = drop (length words - i) (drop i words) in
      let front-size : length front ≡ i = length-take-le i words h in
      let new-size : length new ≡ k = words_at_length bytes from k in
      let part-size : length part ≡ length mid =
      omega (arith, ap length e, length-append new (drop k mid), length-drop k mid) in
      record {
        long = same_len_mid i (length words - i) words part part-size ∙ r.long;
        read = λ j u.
            ⊎_elim
            (λ (lo : j < i).
            get_or-append front (part ++ behind) 0 j (omega arith) ∙ get_or-take i words j 0 lo ∙ r.read j lo)
            (λ (hi : i ≤ j).
            let q : j ≡ length front + (j - i) = omega arith in
            let z : from + 8 * (j - i) ≡ at + 8 * j = omega arith in
            ap (λ (y : ℕ). get_or (front ++ (part ++ behind)) y 0) q ∙ get_or-append-add front (part ++ behind) (j - i) 0
            ∙ get_or-append part behind 0 (j - i) (omega arith) ∙ ap (λ (l : List ℕ). get_or l (j - i) 0) e
            ∙ get_or-append new (drop k mid) 0 (j - i) (omega arith)
            ∙ words_at_at bytes from k (j - i) (omega arith) ∙ ap (word_at bytes) z) (order j i);
      }

  pub reading_end : (i : ℕ) (words : List ℕ) → length first ≤ i → Reading bytes at first i words
      → words ≡ words_at bytes at (length first)
  reading_end i words h r =
      let long : length words ≡ length first = r.long in
      ext_get_or 0 words (words_at bytes at (length first)) (long ∙ sym (words_at_length bytes at (length first)))
      (λ j u. r.read j (omega arith) ∙ sym (words_at_at bytes at (length first) j (omega arith)))

-- a number is 0 exactly if its four bytes are
bytes_zero : (bytes : List ℕ) (at y : ℕ) → y < 4 → number_at bytes at ≡ 0 → get_or bytes (at + y) 0 ≡ 0
unfolding number_at
bytes_zero bytes at zero h e = ap (λ (x : ℕ). get_or bytes x 0) (add-zero at) ∙ omega arith
bytes_zero bytes at (suc zero) h e = omega arith
bytes_zero bytes at (suc (suc zero)) h e = omega arith
bytes_zero bytes at (suc (suc (suc zero))) h e = omega arith
bytes_zero bytes at (suc (suc (suc (suc y)))) h e = absurd (omega arith)

number_zero : (bytes : List ℕ) (at : ℕ) → ((y : ℕ) → get_or bytes (at + y) 0 ≡ 0) → number_at bytes at ≡ 0
unfolding number_at
number_zero bytes at h =
    let z : get_or bytes at 0 ≡ 0 = ap (λ (x : ℕ). get_or bytes x 0) (sym (add-zero at)) ∙ h 0 in
    omega (arith, z, h 1, h 2, h 3)

zeros_at : (n y : ℕ) → get_or {A = ℕ} (replicate n 0) y 0 ≡ 0
zeros_at zero y = refl
zeros_at (suc n) zero = refl
zeros_at (suc n) (suc y) = zeros_at n y

-- the fill, number by number
module _ (image : List ℕ) (k : ℕ) where
  zeros_all : ((j : ℕ) → k ≤ j → j < 124 * total_of image → number_in image j ≡ 0) → blank (drop (4 * k) (body_of image)) ≡ true
  unfolding number_in
  zeros_all passed =
      let rest : List ℕ = drop (4 * k) (body_of image) in
      let same : rest ≡ replicate (length rest) 0 =
      ext_get_or 0 rest (replicate (length rest) 0) (sym (length-replicate {A = ℕ} (length rest) 0)) (λ y u.
      let e : 4 * k + y ≡ 4 * (k + y / 4) + y % 4 = omega arith in
      get_or-drop (4 * k) (body_of image) y 0 ∙ ap (λ (x : ℕ). get_or (body_of image) x 0) e
      ∙ bytes_zero (body_of image) (4 * (k + y / 4)) (y % 4) (omega arith)
      (passed (k + y / 4) (omega arith) (omega (arith, length-drop (4 * k) (body_of image), body_length image)))
      ∙ sym (zeros_at (length rest) y)) in
      ap blank same ∙ blank_zeros (length rest)

  zero_behind : blank (drop (4 * k) (body_of image)) ≡ true → (i : ℕ) → k ≤ i → number_in image i ≡ 0
  unfolding number_in
  zero_behind b i o =
      let rest : List ℕ = drop (4 * k) (body_of image) in
      number_zero (body_of image) (4 * i) (λ y.
      let e : 4 * i + y ≡ 4 * k + (4 * (i - k) + y) = omega arith in
      ap (λ (x : ℕ). get_or (body_of image) x 0) e ∙ sym (get_or-drop (4 * k) (body_of image) (4 * (i - k) + y) 0)
      ∙ ap (λ (l : List ℕ). get_or l (4 * (i - k) + y) 0) (blank_is_zeros rest b) ∙ zeros_at (length rest) (4 * (i - k) + y))

  pub zeros_told : (m : ℕ) → m ≡ 124 * total_of image - k
      → all (λ i. eqb (number_in image i) 0) k m ≡ blank (drop (4 * k) (body_of image))
  zeros_told m e =
      both_ways (all (λ i. eqb (number_in image i) 0) k m) (blank (drop (4 * k) (body_of image)))
      (λ h. zeros_all (λ j l u.
      eqb-true (number_in image j) 0 (all_elim (λ i. eqb (number_in image i) 0) k m h j l (omega arith))))
      (λ b. all_intro (λ i. eqb (number_in image i) 0) k m (λ j l u. eq-eqb (number_in image j) 0 (zero_behind b j l)))
