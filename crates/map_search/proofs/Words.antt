-- The search at words one after the other: what a part of them shows, and what is known behind words that are all taken.
-- Assumes nothing.
use mathlib.Core.Path.{◌≡◌, sym, ap, ◌∙◌}
use mathlib.Core.Logic.{⊎_elim}
use mathlib.Core.Bool.{Bool, false}
use mathlib.Core.List.{List}
use Prim.Native.Nat.{ℕ, ◌+◌, ◌-◌, ◌*◌, ◌/◌, ◌%◌, ◌≤◌, ◌<◌}
use native.Mathlib.Omega.{arith}
use lib.ListN.{get_or}
use Rattle.map_blocks.specs.Words.{bit}
use Rattle.map_search_word.specs.Scan.{Carried}
use Rattle.map_search.specs.Search.{HasBits}
use Rattle.laws.proofs.Bools.{order}
use Rattle.map_blocks.proofs.Runs.{all_break}
use Rattle.map_blocks.proofs.Bits.{bit_zero}
use Rattle.map_search_word.proofs.Scan.{inside}

pub shows_part : (map : List ℕ) (first stop a b : ℕ) (f : ℕ → Bool) → first ≤ a → b ≤ stop → HasBits map first stop f
    → HasBits map a b f
shows_part map first stop a b f l u shows = λ i j c d. shows i j (omega arith) (omega arith)

-- words that are all taken
pub past_taken : (f : ℕ → Bool) (k base end s : ℕ) → base < end → ((t : ℕ) → base ≤ t → t < end → f t ≡ false)
    → Carried f k base s → Carried f k end 0
past_taken f k base end s l taken at = let h : s < k = at.short in record {
  room = omega arith;
  short = omega arith;
  held = λ t a b. absurd (omega arith);
  none = λ t a.
      ⊎_elim (λ u. ⊎_elim (λ v. at.none t v) (λ g. all_break f t k base (omega arith) (omega arith)
      (taken base (omega arith) l)) (order (t + s) base))
      (λ g. all_break f t k t (omega arith) (omega arith) (taken t g (omega arith))) (order t base);
}

-- words that are 0 show no free block
pub zero_words : (map : List ℕ) (first stop i m : ℕ) (f : ℕ → Bool) → HasBits map first stop f → first ≤ i → i + m ≤ stop
    → ((t : ℕ) → i ≤ t → t < i + m → get_or map t 0 ≡ 0) → (b : ℕ) → i * 64 ≤ b → b < (i + m) * 64 → f b ≡ false
zero_words map first stop i m f shows a c zero b l u =
    let e : b / 64 * 64 + b % 64 ≡ b = omega arith in
    ap f (sym e) ∙ sym (shows (b / 64) (b % 64) (omega arith) (omega arith) (omega arith))
    ∙ ap (λ (w : ℕ). bit w (b % 64)) (zero (b / 64) (omega arith) (omega arith)) ∙ bit_zero (b % 64)

-- a word that is 0
pub past_word : (f : ℕ → Bool) (k base w : ℕ) → ((j : ℕ) → j < 64 → bit w j ≡ f (base + j)) → w ≡ 0 → Carried f k base 0
    → Carried f k (base + 64) 0
past_word f k base w same e at =
    past_taken f k base (base + 64) 0 (omega arith)
    (λ t a b. sym (inside f k base 0 w same at t a b) ∙ ap (λ (x : ℕ). bit x (t - base)) e ∙ bit_zero (t - base)) at
