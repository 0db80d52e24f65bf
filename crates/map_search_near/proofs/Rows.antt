-- The words of a map that a search by masks goes through: their blocks, their starts, and the words in which no run starts.
-- Assumes nothing.
use mathlib.Core.Path.{◌≡◌, refl, sym, ap, ap₂, ◌∙◌}
use mathlib.Core.Logic.{⊎_elim}
use mathlib.Core.Bool.{Bool, true, false, ◌&&◌}
use mathlib.Core.List.{List}
use Prim.Native.Nat.{ℕ, ◌+◌, ◌-◌, ◌*◌, ◌/◌, ◌%◌, ◌^◌, ◌≤◌, ◌<◌}
use native.Mathlib.Omega.{arith}
use lib.Dec.{leb, ltb}
use lib.Bits.{bit_and}
use lib.Count.{count_leading_zeros, leading_le}
use lib.ListN.{get_or}
use borrow.Author.Tests.{le-leb, leb-true, lt-ltb}
use Rattle.map_blocks.specs.Blocks.{free, all, on_step}
use Rattle.map_blocks.specs.Words.{bit}
use Rattle.laws.proofs.Bools.{and_both, and_right, not_true, clash, order}
use Rattle.map_blocks.proofs.Bits.{bit_and_lem, bit_zero, ones_shr}
use Rattle.map_blocks.proofs.Maps.{free_bit}
use Rattle.map_blocks.proofs.Runs.{all_part, all_same}
use Rattle.map_search_word.proofs.Ends.{First, first_set}
use Rattle.map_search_starts.specs.Starts.{Marks, Often, NoRun}

-- ---- blocks and starts as bits

pub word_marks : (map : List ℕ) (i base w : ℕ) → base ≡ i * 64 → w ≡ get_or map i 0 → Marks (free map) base w
word_marks map i base w e is j l =
    let p : i * 64 + j ≡ base + j = omega arith in
    ap (λ (x : ℕ). bit x j) is ∙ sym (free_bit map i j l) ∙ ap (free map) p

and_true : (a b : Bool) → b ≡ true → (a && b) ≡ a
and_true true b e = e
and_true false b e = refl

-- the starts of a word, from block c on
pub from_marks : (q : ℕ → Bool) (c base s p : ℕ) → Marks q base s
    → ((j : ℕ) → j < 64 → bit p j ≡ (leb c (base + j) && ltb (base + j) (base + 64)))
    → Marks (λ (b : ℕ). q b && leb c b) base (bit_and s p)
from_marks q c base s p marks part j l =
    bit_and_lem s p j ∙ ap₂ ◌&&◌ (marks j l)
    (part j l ∙ and_true (leb c (base + j)) (ltb (base + j) (base + 64)) (lt-ltb (base + j) (base + 64) (omega arith)))

pub all_marks : (q : ℕ → Bool) (c base s : ℕ) → c ≤ base → Marks q base s → Marks (λ (b : ℕ). q b && leb c b) base s
all_marks q c base s l marks j u =
    marks j u ∙ sym (and_true (q (base + j)) (leb c (base + j)) (le-leb c (base + j) (omega arith)))

-- ---- words in which no run starts

-- a run that lies in a word
in_word : (map : List ℕ) (u j m : ℕ) → j + m ≤ 64 → all (bit (get_or map u 0)) j m ≡ all (free map) (u * 64 + j) m
in_word map u j m h = all_same (bit (get_or map u 0)) (free map) j (u * 64 + j) m (λ i l.
    sym (free_bit map u (j + i) (omega arith)) ∙ ap (free map) (moved (u * 64) j i))
  where
    moved : (b j i : ℕ) → b + (j + i) ≡ b + j + i
    moved b j i = omega arith

pub no_sixteen : (map : List ℕ) (i : ℕ) → ((u j : ℕ) → i ≤ u → u < i + 9 → all (bit (get_or map u 0)) j 16 ≡ false) → (k t : ℕ)
    → 31 ≤ k → i * 64 ≤ t → t < (i + 8) * 64 → all (free map) t k ≡ false
no_sixteen map i none k t l a b =
    ⊎_elim
    (λ (u : t % 64 < 49). all_part (free map) t k (t / 64 * 64 + t % 64) 16 (omega arith) (omega arith)
    (sym (in_word map (t / 64) (t % 64) 16 (omega arith)) ∙ none (t / 64) (t % 64) (omega arith) (omega arith)))
    (λ (u : 49 ≤ t % 64). all_part (free map) t k ((t / 64 + 1) * 64 + 0) 16 (omega arith) (omega arith)
    (sym (in_word map (t / 64 + 1) 0 16 (omega arith)) ∙ none (t / 64 + 1) 0 (omega arith) (omega arith)))
    (order (t % 64) 49)

-- no start has a pair
pub no_pair : (map : List ℕ) (k i x mostly step : ℕ)
    → ((u j : ℕ) → i ≤ u → u < i + 8 → j < 64 → all (free map) (u * 64 + j) k ≡ true → bit x j ≡ true) → Often step mostly
    → bit_and x mostly ≡ 0 → NoRun (on_step step) (free map) k (i * 64) ((i + 8) * 64)
no_pair map k i x mostly step may often z t a b on =
    let e : t ≡ t / 64 * 64 + t % 64 = omega arith in
    not_true (all (free map) t k) (λ h. clash (bit (bit_and x mostly) (t % 64))
    (bit_and_lem x mostly (t % 64) ∙ and_both (bit x (t % 64)) (bit mostly (t % 64))
    (may (t / 64) (t % 64) (omega arith) (omega arith) (omega arith) (ap (λ (b : ℕ). all (free map) b k) (sym e) ∙ h))
    (often t on))
    (ap (λ (w : ℕ). bit w (t % 64)) z ∙ bit_zero (t % 64)))

-- ---- the first free block

-- before the first bit of a word
zero_bits : (w : ℕ) → w < 2 ^ 64 → (j : ℕ) → j < count_leading_zeros 64 w → bit w j ≡ false
zero_bits w b j l =
    ⊎_elim (λ (u : 0 < w). (first_set w u b).before j l)
    (λ (u : w ≤ 0). let z : w ≡ 0 = omega arith in ap (λ (x : ℕ). bit x j) z ∙ bit_zero j) (order 0 w)

pub zeros_taken : (map : List ℕ) (i : ℕ) → get_or map i 0 < 2 ^ 64 → (t : ℕ) → i * 64 ≤ t
    → t < i * 64 + count_leading_zeros 64 (get_or map i 0) → free map t ≡ false
zeros_taken map i b t a u =
    let e : i * 64 + (t - i * 64) ≡ t = omega arith in
    let l : count_leading_zeros 64 (get_or map i 0) ≤ 64 = leading_le 64 (get_or map i 0) in
    ap (free map) (sym e) ∙ free_bit map i (t - i * 64) (omega arith) ∙ zero_bits (get_or map i 0) b (t - i * 64) (omega arith)

module _ (map : List ℕ) (from : ℕ) where
  -- the word of `from`, and those of its blocks that are not before it
  abbrev there : ℕ
  there = bit_and (get_or map (from / 64) 0) ((2 ^ 64 - 1) / 2 ^ (from % 64))

  there_bit : (j : ℕ) → j < 64 → bit there j ≡ (bit (get_or map (from / 64) 0) j && leb (from % 64) j)
  there_bit j l = bit_and_lem (get_or map (from / 64) 0) ((2 ^ 64 - 1) / 2 ^ (from % 64)) j
      ∙ ap (λ (x : Bool). bit (get_or map (from / 64) 0) j && x) (ones_shr (from % 64) j (omega arith) l)

  -- a block of it without a bit
  no_block : (t : ℕ) → from ≤ t → t < from / 64 * 64 + 64 → bit there (t - from / 64 * 64) ≡ false → free map t ≡ false
  no_block t a b z =
      let j : ℕ = t - from / 64 * 64 in
      let e : from / 64 * 64 + (t - from / 64 * 64) ≡ t = omega arith in
      ap (free map) (sym e) ∙ free_bit map (from / 64) (t - from / 64 * 64) (omega arith)
      ∙ sym (and_true (bit (get_or map (from / 64) 0) (t - from / 64 * 64)) (leb (from % 64) (t - from / 64 * 64))
      (le-leb (from % 64) (t - from / 64 * 64) (omega arith)))
      ∙ sym (there_bit (t - from / 64 * 64) (omega arith)) ∙ z

  pub none_free : there ≡ 0 → (t : ℕ) → from ≤ t → t < from / 64 * 64 + 64 → free map t ≡ false
  none_free z t a b = no_block t a b (ap (λ (x : ℕ). bit x (t - from / 64 * 64)) z ∙ bit_zero (t - from / 64 * 64))

  pub first_free : 0 < there → there < 2 ^ 64
      → (from ≤ from / 64 * 64 + count_leading_zeros 64 there)
      × ((t : ℕ) → from ≤ t → t < from / 64 * 64 + count_leading_zeros 64 there → free map t ≡ false)
  first_free p b =
      let first : First there (count_leading_zeros 64 there) = first_set there p b in
      let l : count_leading_zeros 64 there < 64 = first.within in
      let a : from % 64 ≤ count_leading_zeros 64 there = leb-true (from % 64) (count_leading_zeros 64 there)
      (and_right (bit (get_or map (from / 64) 0) (count_leading_zeros 64 there))
      (leb (from % 64) (count_leading_zeros 64 there))
      (sym (there_bit (count_leading_zeros 64 there) l) ∙ first.here)) in
      (omega arith, λ t u v. no_block t u (omega arith) (first.before (t - from / 64 * 64) (omega arith)))
