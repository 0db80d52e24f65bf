-- The search at one word: what each of its ways out knows. f says which blocks are free, and the word's bits are f's from
-- `base` on.
-- Assumes nothing.
use mathlib.Core.Path.{◌≡◌, sym, ap, ◌∙◌}
use mathlib.Core.Logic.{◌⊎◌, inl, inr, ⊎_elim}
use mathlib.Core.Bool.{Bool, true, false}
use Prim.Native.Nat.{ℕ, ◌+◌, ◌-◌, ◌≤◌, ◌<◌}
use native.Mathlib.Omega.{arith}
use Rattle.map_blocks.specs.Blocks.{all}
use Rattle.map_blocks.specs.Words.{bit, has_all, Mask}
use Rattle.map_search_word.specs.Scan.{Core, Tail, Carried, Least}
use Rattle.laws.proofs.Bools.{not_true, clash, order}
use Rattle.map_blocks.proofs.Runs.{all_intro, all_elim, all_break, all_part, all_same}
use Rattle.map_blocks.proofs.Bits.{bit_past}
use Rattle.map_blocks.proofs.Masks.{has_all_intro, has_all_run}
use Rattle.map_search_word.proofs.Ends.{First}

-- ---- the word alone

-- the test of the first p bits
pub prefix : (w m p : ℕ) → p ≤ 64 → Mask 0 p m → has_all w m ≡ all (bit w) 0 p
prefix w m p l mask = let e : p - 0 ≡ p = omega arith in has_all_run w m 0 p l mask ∙ ap (all (bit w) 0) e

-- a word that lacks a bit of the core has no run of k
pub core_fails : (w m k : ℕ) → Core k m → has_all w m ≡ false → (j : ℕ) → j + k ≤ 64 → all (bit w) j k ≡ false
core_fails w m k core e j l =
    not_true (all (bit w) j k) (λ h. clash (has_all w m) (has_all_intro w m (λ t u b.
    let middle : (64 - k ≤ t) × (t < k) = core t u b in
    all_elim (bit w) j k h t (omega arith) (omega arith))) e)

-- a word with no run of k does not end in k ones
pub tail_below : (w r k : ℕ) → ((j : ℕ) → j + k ≤ 64 → all (bit w) j k ≡ false) → Tail w r → r < k
tail_below w r k none tail =
    let l : r ≤ 64 = tail.within in
    ⊎_elim (λ u. u)
    (λ g. absurd (clash (all (bit w) (64 - k) k)
    (all_intro (bit w) (64 - k) k (λ t a b. tail.held t (omega arith) (omega arith))) (none (64 - k) (omega arith))))
    (order r k)

-- ---- the word behind s free blocks

module _ (f : ℕ → Bool) (k base s w : ℕ) (same : (j : ℕ) → j < 64 → bit w j ≡ f (base + j)) (at : Carried f k base s) where
  -- a block of the word
  pub inside : (t : ℕ) → base ≤ t → t < base + 64 → bit w (t - base) ≡ f t
  inside t a b = let e : base + (t - base) ≡ t = omega arith in same (t - base) (omega arith) ∙ ap f e

  -- a run that lies in the word
  run : (j m : ℕ) → j + m ≤ 64 → all (bit w) j m ≡ all f (base + j) m
  run j m h = all_same (bit w) f j (base + j) m (λ i l. same (j + i) (omega arith) ∙ ap f (moved base j i))
    where
      moved : (b j i : ℕ) → b + (j + i) ≡ b + j + i
      moved b j i = omega arith

  -- the whole word is free, and more is wanted
  pub whole : s + 64 < k → ((j : ℕ) → j < 64 → bit w j ≡ true) → Carried f k (base + 64) (s + 64)
  whole l h = record {
    room = let r : s ≤ base = at.room in omega arith;
    short = l;
    held = λ t a b. ⊎_elim (λ u. at.held t (omega arith) u) (λ g. sym (inside t g b) ∙ h (t - base) (omega arith))
        (order t base);
    none = λ t a. at.none t (omega arith);
  }

  -- the runs that start before the word all fail in its first m bits, which they hold
  pub head_fails : (m : ℕ) → s < k → m ≤ k - s → m ≤ 64 → all (bit w) 0 m ≡ false → (t : ℕ) → base ≤ t + s → t < base
      → all f t k ≡ false
  head_fails m h l u e t a b = all_part f t k (base + 0) m (omega arith) (omega arith) (sym (run 0 m (omega arith)) ∙ e)

  -- on to the next word
  pub next : (r : ℕ) → Tail w r → r < k → ((t : ℕ) → base ≤ t + s → t < base → all f t k ≡ false)
      → ((j : ℕ) → j + k ≤ 64 → all (bit w) j k ≡ false) → Carried f k (base + 64) r
  next r tail l early within = let lr : r ≤ 64 = tail.within in record {
    room = omega arith;
    short = l;
    held = λ t a b. sym (inside t (omega arith) b) ∙ tail.held (t - base) (omega arith) (omega arith);
    none = λ t a. ⊎_elim (λ u. ⊎_elim (λ v. at.none t v) (λ g. early t g u) (order (t + s) base))
        (λ g. late t g a lr (order 64 (t - base + k))) (order t base);
  }
    where
      late : (t : ℕ) → base ≤ t → t + r < base + 64 → r ≤ 64 → (64 < t - base + k) ⊎ (t - base + k ≤ 64) → all f t k ≡ false
      late t g a lr (inl u) = all_break f t k (base + (63 - r)) (omega arith) (omega arith)
          (sym (same (63 - r) (omega arith)) ∙ tail.stop (63 - r) (omega arith))
      late t g a lr (inr u) = let e : base + (t - base) ≡ t = omega arith in
          ap (λ (x : ℕ). all f x k) (sym e) ∙ sym (run (t - base) k u) ∙ within (t - base) u

  -- the run before the word goes on in it
  pub head_hit : s < k → all (bit w) 0 (k - s) ≡ true → k - s ≤ 64 → Least f k (base - s)
  head_hit h e l = let r : s ≤ base = at.room in record {
    fits = all_intro f (base - s) k (λ t a b.
        ⊎_elim (λ u. at.held t (omega arith) u)
        (λ g. sym (inside t g (omega arith)) ∙ all_elim (bit w) 0 (k - s) e (t - base) (omega arith) (omega arith))
        (order t base));
    none = λ t a. at.none t (omega arith);
  }

  -- a run in the word
  pub gap_hit : (g r : ℕ) → ((j : ℕ) → bit g j ≡ all (bit w) j k) → First g r
      → ((t : ℕ) → base ≤ t + s → t < base → all f t k ≡ false) → Least f k (base + r)
  gap_hit g r says first early =
      let whole : all (bit w) r k ≡ true = sym (says r) ∙ first.here in
      let lr : r < 64 = first.within in
      let fits : r + k ≤ 64 =
      ⊎_elim (λ (u : 64 < r + k). absurd (clash (bit w 64) (all_elim (bit w) r k whole 64 (omega arith) u)
      (bit_past w 64 (omega arith)))) (λ u. u) (order 64 (r + k)) in
      record {
        fits = sym (run r k fits) ∙ whole;
        none = λ t a. ⊎_elim (λ u. ⊎_elim (λ v. at.none t v) (λ g. early t g u) (order (t + s) base))
            (λ g. let e : base + (t - base) ≡ t = omega arith in
            ap (λ (x : ℕ). all f x k) (sym e) ∙ sym (run (t - base) k (omega arith)) ∙ sym (says (t - base))
            ∙ first.before (t - base) (omega arith)) (order t base);
      }
