-- A survey from the last word to the first: the words passed as blocks, and what is left when all are.
-- Assumes nothing.
use mathlib.Core.Path.{◌≡◌, refl, sym, ap, ap₂, ◌∙◌, subst}
use mathlib.Core.Bool.{Bool, true, false, ◌&&◌}
use mathlib.Core.List.{List, ◌++◌}
use Prim.Native.Nat.{ℕ, ◌+◌, ◌-◌, ◌*◌, ◌/◌, ◌^◌, ◌<◌, ◌≤◌}
use native.Mathlib.Nat.{zero-add}
use native.Mathlib.Omega.{arith}
use lib.Dec.{leb, ltb}
use borrow.Author.Tests.{lt-ltb, le-ltb, le-leb}
use Rattle.map_blocks.specs.Maps.{words_for}
use Rattle.survey_bytes.specs.Runs.{head_of, longest_of, runs_of}
use Rattle.survey_bytes.specs.Bytes.{bits_of}
use Rattle.survey_words.specs.Passing.{Summary}
use Rattle.survey.specs.Survey.{blocks, free_of, counts_of}
use Rattle.survey.specs.Words.{Before}
use Rattle.survey.proofs.Blocks.{blocks_join, blocks_same}
use Rattle.survey.proofs.Taken.{Same, taken_end}
use Rattle.survey.proofs.Words.{word_blocks}
use Rattle.map_blocks.specs.Words.{bit, in_window}
use Rattle.map_blocks.proofs.Bits.{bit_ones}
use Rattle.survey.specs.declared.Counts.{Counts}

module _ (g : ℕ → Bool) (n : ℕ) where
  -- the blocks from word i on, up to the end of the last word; those from n on count as taken
  abbrev pub rest : ℕ → ℕ → List Bool
  rest words i = blocks (in_window g 0 n) (i * 64) ((words - i) * 64)

  -- a word more
  pub rest_more : (words i w : ℕ) → 0 < i → i ≤ words → ((j : ℕ) → j < 64 → bit w j ≡ in_window g 0 n ((i - 1) * 64 + j))
      → bits_of 64 w ++ rest words i ≡ rest words (i - 1)
  rest_more words i w p l shows =
      let f : ℕ → Bool = in_window g 0 n in
      let a : (i - 1) * 64 + 64 ≡ i * 64 = omega arith in
      let b : 64 + (words - i) * 64 ≡ (words - (i - 1)) * 64 = omega arith in
      ap₂ (λ (x y : List Bool). x ++ y)
      (word_blocks w ∙ blocks_same (bit w) f 0 ((i - 1) * 64) 64 (λ j u. ap (bit w) (zero-add j) ∙ shows j u))
      (ap (λ (x : ℕ). blocks f x ((words - i) * 64)) (sym a))
      ∙ sym (blocks_join f ((i - 1) * 64) 64 ((words - i) * 64)) ∙ ap (blocks f ((i - 1) * 64)) b

  -- all words: the first n blocks, and taken ones behind them
  whole : (words : ℕ) → n ≤ words * 64 → Same (rest words 0) (blocks g 0 n)
  whole words l =
      let f : ℕ → Bool = in_window g 0 n in
      let e : (words - 0) * 64 ≡ n + (words * 64 - n) = omega arith in
      let inside : blocks f 0 n ≡ blocks g 0 n = blocks_same f g 0 0 n
      (λ j u. ap₂ (λ (x y : Bool). (x && y) && g (0 + j)) (le-leb 0 (0 + j) (omega arith))
      (lt-ltb (0 + j) n (omega arith))) in
      subst (λ (xs : List Bool). Same xs (blocks g 0 n))
      (sym (ap (blocks f 0) e ∙ blocks_join f 0 n (words * 64 - n)
      ∙ ap₂ (λ (xs : List Bool) (x : ℕ). xs ++ blocks f x (words * 64 - n)) inside (zero-add n)))
      (taken_end f (blocks g 0 n) n (words * 64 - n)
      (λ b u. ap (λ (x : Bool). (leb 0 b && x) && g b) (le-ltb b n u) ∙ none (leb 0 b) (g b)))
    where
      none : (x y : Bool) → ((x && false) && y) ≡ false
      none true y = refl
      none false y = refl

  pub counted : (words free head longest runs : ℕ) → n ≤ words * 64 → free ≡ free_of (rest words 0)
      → Summary head longest runs (rest words 0)
      → ◌≡◌ {A = Counts} (record { free = free; runs = runs; longest = longest }) (counts_of g n)
  unfolding counts_of
  counted words free head longest runs l e s =
      let same : Same (rest words 0) (blocks g 0 n) = whole words l in
      let a : free ≡ free_of (blocks g 0 n) = e ∙ same.frees in
      let b : runs ≡ runs_of (blocks g 0 n) = s.counts ∙ same.runs in
      let c : longest ≡ longest_of (blocks g 0 n) = s.longests ∙ same.longest in
      cc

-- nothing is passed yet
pub nothing : (g : ℕ → Bool) (n words : ℕ) → Summary 0 0 0 (rest g n words words) × (0 ≡ free_of (rest g n words words))
unfolding blocks free_of head_of longest_of runs_of
nothing g n words =
    let e : (words - words) * 64 ≡ 0 = omega arith in
    rw e (record { heads = refl; longests = refl; counts = refl }, refl)

-- ---- the mask of a word: the last one's, and that of the words before it

pub part_before : (n m : ℕ) → 0 < n → ((j : ℕ) → j < 64
    → bit m j ≡ (leb 0 ((n - 1) / 64 * 64 + j) && ltb ((n - 1) / 64 * 64 + j) n)) → Before n (words_for n) m
part_before n m p h =
    let e : (n - 1) / 64 ≡ words_for n - 1 = omega arith in
    λ q. subst (λ (i : ℕ). (j : ℕ) → j < 64 → bit m j ≡ (leb 0 (i * 64 + j) && ltb (i * 64 + j) n)) e h

pub ones_before : (n i : ℕ) → i * 64 ≤ n → Before n i (2 ^ 64 - 1)
ones_before n i l p j u = bit_ones j u ∙ sym
    (ap₂ ◌&&◌ (le-leb 0 ((i - 1) * 64 + j) (omega arith)) (lt-ltb ((i - 1) * 64 + j) n (omega arith)))
