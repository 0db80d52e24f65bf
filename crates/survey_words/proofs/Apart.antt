-- Two bytes of a word, of which the bits at their meeting are not both 1, do not meet in one run.
-- Assumes nothing.
use mathlib.Core.Path.{◌≡◌, subst}
use mathlib.Core.Bool.{Bool}
use mathlib.Core.Logic.{⊎_elim}
use mathlib.Core.List.{List, ◌++◌}
use Prim.Native.Nat.{ℕ, suc, ◌+◌, ◌-◌, ◌/◌, ◌%◌, ◌<◌, ◌≤◌, min}
use native.Mathlib.Omega.{arith}
use Rattle.laws.proofs.Bools.{order}
use Rattle.survey_bytes.specs.Runs.{head_of, tail_of, meet}
use Rattle.survey_bytes.specs.Bytes.{bits_of, Apart}
use Rattle.survey_words.specs.Passing.{Summary}
use Rattle.survey_bytes.proofs.Ends.{tail_even}
use Rattle.survey_words.proofs.Joining.{meet_none, meet_nothing, one_side}
use Rattle.survey_words.proofs.Words.{bytes, word_bits}

pub head_small : (b : ℕ) (ys : List Bool) → b / 128 % 2 ≡ 0 → head_of (bits_of 8 b ++ ys) ≡ 0
unfolding bits_of head_of
head_small b ys e = rw (e)

-- the last two bytes of a number, before others, do not meet
pub bytes_part : (w : ℕ) (ys : List Bool) → min (w / 256 % 2) (w / 128 % 2) ≡ 0
    → meet (tail_of (bits_of 8 (w / 256 % 256))) (head_of (bits_of 8 (w % 256) ++ ys)) ≡ 0
bytes_part w ys e =
    ⊎_elim
    (λ (l : w / 256 % 2 < 1). meet_none _ _ (tail_even 7 (w / 256 % 256) (omega arith)))
    (λ (g : 1 ≤ w / 256 % 2). meet_nothing _ _ (head_small (w % 256) ys (omega arith)))
    (order (w / 256 % 2) 1)

-- a byte of which the last bit and the others do not meet
pub byte_parts : (w h : ℕ) → meet (w % 2) h ≡ 0 → meet (tail_of (bits_of 8 (w % 256))) h ≡ 0
byte_parts w h e =
    ⊎_elim
    (λ (z : w % 2 ≡ 0). meet_none _ _ (tail_even 7 (w % 256) (omega arith)))
    (λ (z : h ≡ 0). meet_nothing _ _ z)
    (one_side (w % 2) h e)

-- ---- a word's bytes from the second on, none of which meets those behind it in a run

-- the numbers are those of the blocks passed, which with byte i of a word and those ahead of it make up `all`, and do not meet
-- byte i; w has these bytes
pub record UnderwayApart (i w : ℕ) (all : List Bool) (h l r : ℕ) : Type 0 where
  pub blocks : List Bool
  pub numbers : Summary h l r blocks
  pub ahead : bytes (8 - i) w blocks ≡ all
  pub apart : i < 8 → meet (tail_of (bits_of 8 (w % 256))) (head_of blocks) ≡ 0

pub all_apart : (i w : ℕ) (all : List Bool) (h l r : ℕ) → 8 ≤ i → UnderwayApart i w all h l r → Summary h l r all
all_apart i w all h l r full u =
    let e : 8 - i ≡ 0 = omega arith in
    subst (Summary h l r) (subst (λ (k : ℕ). bytes k w u.blocks ≡ all) e u.ahead) u.numbers

pub first_apart : (w : ℕ) (ys : List Bool) (h l r : ℕ) → Apart 7 w → Summary h l r (bits_of 8 (w % 256) ++ ys)
    → UnderwayApart 1 (w / 256) (bits_of 64 w ++ ys) h l r
first_apart w ys h l r a s = record {
  blocks = bits_of 8 (w % 256) ++ ys;
  numbers = s;
  ahead = word_bits 8 w ys;
  apart = λ _. bytes_part w ys a.0;
}

-- the bits of two bytes at their meeting, and of those before them
split_apart : (i w : ℕ) → i < 7 → Apart (7 - i) w → (min (w / 256 % 2) (w / 128 % 2) ≡ 0) × Apart (7 - (i + 1)) (w / 256)
split_apart i w few a =
    let e : 7 - i ≡ suc (7 - (i + 1)) = omega arith in
    subst (λ (k : ℕ). Apart k w) e a

pub next_apart : (i w : ℕ) → i < 8 → Apart (7 - i) w → Apart (7 - (i + 1)) (w / 256)
next_apart i w few a =
    ⊎_elim
    (λ (l : i < 7). (split_apart i w l a).1)
    (λ (g : 7 ≤ i). let e : 0 ≡ 7 - (i + 1) = omega arith in subst (λ (k : ℕ). Apart k (w / 256)) e tt)
    (order i 7)

pub byte_apart : (i w : ℕ) (all : List Bool) (h l r h' l' r' : ℕ) → i < 8 → Apart (7 - i) w → UnderwayApart i w all h l r
    → ((zs : List Bool) → Summary h l r zs → meet (tail_of (bits_of 8 (w % 256))) (head_of zs) ≡ 0
    → Summary h' l' r' (bits_of 8 (w % 256) ++ zs))
    → UnderwayApart (i + 1) (w / 256) all h' l' r'
byte_apart i w all h l r h' l' r' few a u step =
    let e : 8 - i ≡ suc (8 - (i + 1)) = omega arith in
    record {
      blocks = bits_of 8 (w % 256) ++ u.blocks;
      numbers = step u.blocks u.numbers (u.apart few);
      ahead = subst (λ (k : ℕ). bytes k w u.blocks ≡ all) e u.ahead;
      apart = λ n. bytes_part w u.blocks (split_apart i w (omega arith) a).0;
    }
