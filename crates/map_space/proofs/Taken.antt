-- The taken blocks of a word, from a start on: what their bits tell of the blocks before and behind.
-- Assumes nothing.
use mathlib.Core.Path.{◌≡◌, sym, ap, subst, ◌∙◌}
use mathlib.Core.Logic.{⊎_elim}
use mathlib.Core.Bool.{Bool, true, false, not, ◌&&◌}
use mathlib.Core.List.{List}
use Prim.Native.Nat.{ℕ, ◌+◌, ◌-◌, ◌*◌, ◌/◌, ◌%◌, ◌^◌, ◌≤◌, ◌<◌}
use native.Mathlib.Omega.{arith}
use lib.Dec.{leb}
use lib.ListN.{get_or}
use borrow.Author.Tests.{le-leb, leb-true, not-false, not-true}
use Rattle.map_blocks.specs.Blocks.{free}
use Rattle.map_blocks.specs.Words.{bit}
use Rattle.laws.proofs.Bools.{and_left, and_right, clash, order}
use Rattle.map_blocks.proofs.Bits.{bit_zero, bit_not, bit_shl, bit_past}
use Rattle.map_blocks.proofs.Maps.{free_bit}
use Rattle.map_search_word.proofs.Ends.{First}

-- the bits of w are the taken blocks, from `start` on, of the word whose first block is `base`
abbrev pub Takes : (ℕ → Bool) → ℕ → ℕ → ℕ → Type 0
Takes g start base w = (j : ℕ) → j < 64 → bit w j ≡ (leb start (base + j) && not (g (base + j)))

module _ (g : ℕ → Bool) (start base w : ℕ) (takes : Takes g start base w)
    (held : (t : ℕ) → start ≤ t → t < base → g t ≡ true) where
  at : (t : ℕ) → base ≤ t → t < base + 64 → bit w (t - base) ≡ (leb start t && not (g t))
  at t a b = let e : base + (t - base) ≡ t = omega arith in
      takes (t - base) (omega arith) ∙ ap (λ (x : ℕ). leb start x && not (g x)) e

  no_bit : (t : ℕ) → start ≤ t → base ≤ t → t < base + 64 → bit w (t - base) ≡ false → g t ≡ true
  no_bit t l a b e = not-false (g t) (ap (λ (x : Bool). x && not (g t)) (sym (le-leb start t l)) ∙ sym (at t a b) ∙ e)

  pub none_taken : w ≡ 0 → (t : ℕ) → start ≤ t → t < base + 64 → g t ≡ true
  none_taken z t l b = ⊎_elim (λ u. held t l u)
      (λ u. no_bit t l u b (ap (λ (x : ℕ). bit x (t - base)) z ∙ bit_zero (t - base))) (order t base)

  module _ (r : ℕ) (first : First w r) where
    here : (leb start (base + r) && not (g (base + r))) ≡ true
    here = sym (takes r first.within) ∙ first.here

    pub from_start : start ≤ base + r
    from_start = leb-true start (base + r) (and_left (leb start (base + r)) (not (g (base + r))) here)

    pub is-taken : g (base + r) ≡ false
    is-taken = not-true (g (base + r)) (and_right (leb start (base + r)) (not (g (base + r))) here)

    pub before-taken : (t : ℕ) → start ≤ t → t < base + r → g t ≡ true
    before-taken t l b = let w : r < 64 = first.within in
        ⊎_elim (λ u. held t l u) (λ u. no_bit t l u (omega arith) (first.before (t - base) (omega arith))) (order t base)

-- the word of the start, shifted to it
module _ (map : List ℕ) (start w : ℕ) (is : w ≡ get_or map (start / 64) 0) (b : w < 2 ^ 64) where
  abbrev head : ℕ
  head = (((2 ^ 64 - 1) - w) * 2 ^ (start % 64)) % 2 ^ 64

  head_bit : (j : ℕ) → start % 64 + j < 64 → bit head j ≡ not (free map (start + j))
  head_bit j l =
      let e : start / 64 * 64 + (start % 64 + j) ≡ start + j = omega arith in
      bit_shl ((2 ^ 64 - 1) - w) (start % 64) j ∙ bit_not w (start % 64 + j) b l
      ∙ ap not (ap (λ (x : ℕ). bit x (start % 64 + j)) is ∙ sym (free_bit map (start / 64) (start % 64 + j) l)
      ∙ ap (free map) e)

  in_word : (t : ℕ) → start ≤ t → t < start / 64 * 64 + 64 → bit head (t - start) ≡ false → free map t ≡ true
  in_word t l u e =
      let same : start + (t - start) ≡ t = omega arith in
      subst (λ (x : ℕ). free map x ≡ true) same (not-false (free map (start + (t - start)))
      (sym (head_bit (t - start) (omega arith)) ∙ e))

  pub head_free : head ≡ 0 → (t : ℕ) → start ≤ t → t < start / 64 * 64 + 64 → free map t ≡ true
  head_free z t l u = in_word t l u (ap (λ (x : ℕ). bit x (t - start)) z ∙ bit_zero (t - start))

  module _ (r : ℕ) (first : First head r) where
    within : start % 64 + r < 64
    within = ⊎_elim (λ u. u) (λ u. absurd (clash (bit head r) first.here
        (bit_shl ((2 ^ 64 - 1) - w) (start % 64) r ∙ bit_past ((2 ^ 64 - 1) - w) (start % 64 + r) u)))
        (order (start % 64 + r) 64)

    pub head-taken : free map (start + r) ≡ false
    head-taken = not-true (free map (start + r)) (sym (head_bit r within) ∙ first.here)

    pub head-before : (t : ℕ) → start ≤ t → t < start + r → free map t ≡ true
    head-before t l u = let v : start % 64 + r < 64 = within in
        in_word t l (omega arith) (first.before (t - start) (omega arith))

-- a word behind that of the start
pub later_word : (map : List ℕ) (start i w : ℕ) → w ≡ get_or map i 0 → w < 2 ^ 64 → start ≤ i * 64
    → Takes (free map) start (i * 64) ((2 ^ 64 - 1) - w)
later_word map start i w is b a j l =
    bit_not w j b l ∙ ap not (ap (λ (x : ℕ). bit x j) is ∙ sym (free_bit map i j l))
    ∙ sym (ap (λ (x : Bool). x && not (free map (i * 64 + j))) (le-leb start (i * 64 + j) (omega arith)))
