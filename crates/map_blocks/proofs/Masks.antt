-- Masks: the bits of a word that a run of blocks covers, and the test that a word has them all.
-- Assumes nothing.
use mathlib.Core.Path.{◌≡◌, refl, sym, ◌∙◌}
use mathlib.Core.Bool.{Bool, true, false, not, ◌&&◌, ◌||◌}
use Prim.Native.Nat.{ℕ, ◌-◌, ◌≤◌, ◌<◌}
use native.Mathlib.Omega.{arith}
use lib.Dec.{leb, ltb}
use borrow.Author.Tests.{lt-ltb, le-leb, ltb-true, leb-true}
use Rattle.map_blocks.specs.Blocks.{all}
use Rattle.map_blocks.specs.Words.{bit, has_all, Mask}
use Rattle.laws.proofs.Bools.{both_ways, and_left, and_right, and_both}
use Rattle.map_blocks.proofs.Runs.{all_intro, all_elim}

-- the test at one bit: it passes where the mask has a 0 or the word a 1
module _ where
  passes : (m w : Bool) → (not m || w) ≡ true → m ≡ true → w ≡ true
  passes true w p e = p
  passes false w p e = absurd (mathlib.Core.Bool.false≢true e)

  pass : (m w : Bool) → (m ≡ true → w ≡ true) → (not m || w) ≡ true
  pass true w h = h refl
  pass false w h = refl

pub has_all_elim : (w m : ℕ) → has_all w m ≡ true → (j : ℕ) → j < 64 → bit m j ≡ true → bit w j ≡ true
unfolding has_all
has_all_elim w m e j l b = passes (bit m j) (bit w j)
    (all_elim (λ i. not (bit m i) || bit w i) 0 64 e j (omega arith) (omega arith)) b

pub has_all_intro : (w m : ℕ) → ((j : ℕ) → j < 64 → bit m j ≡ true → bit w j ≡ true) → has_all w m ≡ true
unfolding has_all
has_all_intro w m h = all_intro (λ i. not (bit m i) || bit w i) 0 64 (λ j a b. pass (bit m j) (bit w j) (h j (omega arith)))

-- a word that covers a mask has a run of ones there
pub has_all_run : (w m lo hi : ℕ) → hi ≤ 64 → Mask lo hi m → has_all w m ≡ all (bit w) lo (hi - lo)
has_all_run w m lo hi l mask =
    both_ways (has_all w m) (all (bit w) lo (hi - lo))
    (λ e. all_intro (bit w) lo (hi - lo) (λ j a b.
    has_all_elim w m e j (omega arith) (mask j (omega arith)
    ∙ and_both (leb lo j) (ltb j hi) (le-leb lo j a) (lt-ltb j hi (omega arith)))))
    (λ e. has_all_intro w m (λ j u b.
    let in-mask : (leb lo j && ltb j hi) ≡ true = sym (mask j u) ∙ b in
    let a : lo ≤ j = leb-true lo j (and_left (leb lo j) (ltb j hi) in-mask) in
    let c : j < hi = ltb-true j hi (and_right (leb lo j) (ltb j hi) in-mask) in
    all_elim (bit w) lo (hi - lo) e j a (omega arith)))
