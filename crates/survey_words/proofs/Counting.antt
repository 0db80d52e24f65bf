-- The runs of a word before others, by those of its bytes and the crossings between them.
-- Assumes nothing.
use mathlib.Core.Path.{◌≡◌, refl, ap, ap₂, ◌∙◌}
use mathlib.Core.Bool.{Bool}
use mathlib.Core.Logic.{⊎_elim}
use mathlib.Core.List.{List, [], ◌++◌}
use Prim.Native.Nat.{ℕ, zero, suc, ◌+◌, ◌-◌, ◌/◌, ◌%◌, ◌<◌, ◌≤◌, min}
use native.Mathlib.Omega.{arith}
use Rattle.laws.proofs.Bools.{order}
use Rattle.survey_bytes.specs.Runs.{head_of, tail_of, runs_of, meet}
use Rattle.survey_bytes.specs.Bytes.{bits_of, crossed}
use Rattle.survey_words.specs.Passing.{runs_in}
use Rattle.survey_bytes.proofs.Ends.{tail_even, tail_odd}
use Rattle.survey_words.proofs.Apart.{head_small}
use Rattle.survey_words.proofs.Joining.{meet_none, meet_nothing, runs_append, tail_runs}
use Rattle.survey_words.proofs.Words.{bytes, word_bits, nothing_behind}

head_large : (b : ℕ) (ys : List Bool) → b / 128 % 2 ≡ 1 → 0 < head_of (bits_of 8 b ++ ys)
unfolding bits_of head_of
head_large b ys e = rw (e) (omega arith)

meet_both : (t h : ℕ) → 0 < t → 0 < h → meet t h ≡ 1
unfolding meet
meet_both zero h p q = absurd (omega arith)
meet_both (suc t) zero p q = absurd (omega arith)
meet_both (suc t) (suc h) p q = refl

crossing : (w : ℕ) (ys : List Bool) → meet (tail_of (bits_of 8 (w / 256 % 256))) (head_of (bits_of 8 (w % 256) ++ ys))
    ≡ min (w / 256 % 2) (w / 128 % 2)
crossing w ys =
    ⊎_elim
    (λ (l : w / 256 % 2 < 1). meet_none _ _ (tail_even 7 (w / 256 % 256) (omega arith)) ∙ omega arith)
    (λ (g : 1 ≤ w / 256 % 2). ⊎_elim
    (λ (l : w / 128 % 2 < 1). meet_nothing _ _ (head_small (w % 256) ys (omega arith)) ∙ omega arith)
    (λ (h : 1 ≤ w / 128 % 2). meet_both _ _ (omega (arith, tail_odd 7 (w / 256 % 256) (omega arith)))
    (head_large (w % 256) ys (omega arith)) ∙ omega arith)
    (order (w / 128 % 2) 1))
    (order (w / 256 % 2) 1)

-- the k bytes before the last one
others : (k w : ℕ) (ys : List Bool) → runs_of (bytes k (w / 256) (bits_of 8 (w % 256) ++ ys)) + crossed k w
    ≡ runs_in k (w / 256) + runs_of (bits_of 8 (w % 256) ++ ys)
unfolding crossed runs_in
others zero w ys = omega arith
others (suc k) w ys =
    let zs : List Bool = bits_of 8 (w % 256) ++ ys in
    omega (arith, others k (w / 256) zs, runs_append (bits_of 8 (w / 256 % 256)) zs, crossing w ys)

pub counted : (w : ℕ) (ys : List Bool)
    → runs_of (bits_of 64 w ++ ys) + crossed 7 w + meet (tail_of (bits_of 8 (w % 256))) (head_of ys) ≡ runs_in 8 w + runs_of ys
unfolding runs_in
counted w ys = omega (arith, ap runs_of (word_bits 8 w ys), others 7 w ys, runs_append (bits_of 8 (w % 256)) ys)

head_nothing : head_of [] ≡ 0
unfolding head_of
head_nothing = refl

runs_nothing : runs_of [] ≡ 0
unfolding runs_of
runs_nothing = refl

-- the word alone
pub alone : (w : ℕ) → runs_of (bits_of 64 w) + crossed 7 w ≡ runs_in 8 w
alone w =
    omega (
      arith,
      counted w [],
      meet_nothing (tail_of (bits_of 8 (w % 256))) (head_of []) head_nothing,
      runs_nothing,
      ap runs_of (nothing_behind (bits_of 64 w)),
    )

pub tail_run : (w : ℕ) → 0 < tail_of (bits_of 8 (w % 256)) → 0 < runs_of (bits_of 64 w)
tail_run w p =
    ⊎_elim
    (λ (l : w % 2 < 1). absurd (omega (arith, tail_even 7 (w % 256) (omega arith))))
    (λ (g : 1 ≤ w % 2). tail_runs (bits_of 64 w) (omega (arith, tail_odd 63 w (omega arith))))
    (order (w % 2) 1)

pub runs_word_lem : (w t n head runs r : ℕ) → t ≡ tail_of (bits_of 8 (w % 256)) → n + crossed 7 w ≡ runs_in 8 w
    → r + meet t head ≡ n + runs
    → (ys : List Bool) → head ≡ head_of ys → runs ≡ runs_of ys → r ≡ runs_of (bits_of 64 w ++ ys)
runs_word_lem w t n head runs r et en er ys eh es =
    let q : meet t head ≡ meet (tail_of (bits_of 8 (w % 256))) (head_of ys) = ap₂ meet et eh in
    omega (arith, counted w ys, q)

-- one byte more, and all of them, of the eight of a word
pub runs_more : (i w : ℕ) → i < 8 → runs_in (8 - i) w ≡ runs_of (bits_of 8 (w % 256)) + runs_in (8 - (i + 1)) (w / 256)
unfolding runs_in
runs_more i w few =
    let e : 8 - i ≡ suc (8 - (i + 1)) = omega arith in
    ap (λ (k : ℕ). runs_in k w) e

pub runs_all : (i w : ℕ) → 8 ≤ i → runs_in (8 - i) w ≡ 0
unfolding runs_in
runs_all i w full =
    let e : 8 - i ≡ 0 = omega arith in
    ap (λ (k : ℕ). runs_in k w) e
