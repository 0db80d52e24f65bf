-- A run of blocks tested word by word: the word at block `base` has, under its mask, the blocks lo to hi - 1 that lie in it. g
-- is what is tested of a block.
-- Assumes nothing.
use mathlib.Core.Path.{◌≡◌, sym, ap, ◌∙◌}
use mathlib.Core.Bool.{Bool, true, false, ◌&&◌}
use Prim.Native.Nat.{ℕ, ◌+◌, ◌-◌, ◌≤◌, ◌<◌}
use native.Mathlib.Omega.{arith}
use lib.Dec.{leb, ltb}
use borrow.Author.Tests.{lt-ltb, ltb-true, le-leb, leb-true}
use Rattle.map_blocks.specs.Blocks.{all}
use Rattle.map_blocks.specs.Words.{bit, has_all}
use Rattle.laws.proofs.Bools.{and_left, and_right, and_both, not_true, clash}
use Rattle.map_blocks.proofs.Masks.{has_all_elim, has_all_intro}
use Rattle.map_blocks.proofs.Runs.{all_elim}

module _ (g : ℕ → Bool) (lo hi base w m : ℕ) (mask : (j : ℕ) → j < 64 → bit m j ≡ (leb lo (base + j) && ltb (base + j) hi))
    (shows : (j : ℕ) → j < 64 → bit w j ≡ g (base + j)) where
  pub holds : has_all w m ≡ true → (t : ℕ) → base ≤ t → t < base + 64 → lo ≤ t → t < hi → g t ≡ true
  holds e t a b c d =
      let q : base + (t - base) ≡ t = omega arith in
      ap g (sym q) ∙ sym (shows (t - base) (omega arith))
      ∙ has_all_elim w m e (t - base) (omega arith)
      (mask (t - base) (omega arith) ∙ ap (λ (x : ℕ). leb lo x && ltb x hi) q
      ∙ and_both (leb lo t) (ltb t hi) (le-leb lo t c) (lt-ltb t hi d))

  pub fails : (k : ℕ) → hi ≡ lo + k → has_all w m ≡ false → all g lo k ≡ false
  fails k r e =
      not_true (all g lo k) (λ h. clash (has_all w m) (has_all_intro w m (λ j u b.
      let inside : (leb lo (base + j) && ltb (base + j) hi) ≡ true = sym (mask j u) ∙ b in
      let a : lo ≤ base + j = leb-true lo (base + j) (and_left (leb lo (base + j)) (ltb (base + j) hi) inside) in
      let c : base + j < hi = ltb-true (base + j) hi (and_right (leb lo (base + j)) (ltb (base + j) hi) inside) in
      shows j u ∙ all_elim g lo k h (base + j) a (omega arith))) e)
