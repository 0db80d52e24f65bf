-- A search within a window: what it knows at the window's ends, the words inside it, and that the run it finds is the least
-- fit.
-- Assumes nothing.
use Rattle.std.specs.Prelude.{Option, Some, None}
use mathlib.Core.Path.{◌≡◌, refl, sym, ap, ap₂, ◌∙◌}
use mathlib.Core.Logic.{⊎_elim}
use mathlib.Core.Bool.{Bool, true, false, ◌&&◌}
use mathlib.Core.List.{List}
use Prim.Native.Nat.{ℕ, ◌+◌, ◌-◌, ◌*◌, ◌≤◌, ◌<◌}
use native.Mathlib.Omega.{arith}
use lib.Dec.{leb, ltb}
use borrow.Author.Tests.{lt-ltb, le-ltb, ltb-true, le-leb, lt-leb, leb-true}
use Rattle.map_blocks.specs.Blocks.{free, all, fit, least_fit}
use Rattle.map_blocks.specs.Words.{in_window}
use Rattle.map_search_word.specs.Scan.{Carried}
use Rattle.map_search.specs.Search.{HasBits, Finds}
use Rattle.laws.proofs.Bools.{and_left, and_right, and_both, clash, order}
use Rattle.map_blocks.proofs.Fits.{Fits, is_fit, no_fit, on_one}
use Rattle.map_blocks.proofs.Maps.{free_bit}
use Rattle.map_blocks.proofs.Least.{least_at, least_none}
use Rattle.map_blocks.proofs.Runs.{all_intro, all_elim, all_break}

module _ (g : ℕ → Bool) (from before : ℕ) where
  -- no block before `from`, and none from `before` on
  outside_before : (b : ℕ) → b < from → in_window g from before b ≡ false
  outside_before b l = ap (λ (x : Bool). (x && ltb b before) && g b) (lt-leb from b l)

  pub outside_after : (b : ℕ) → before ≤ b → in_window g from before b ≡ false
  outside_after b l = ap (λ (x : Bool). (leb from b && x) && g b) (le-ltb b before l) ∙ none (leb from b) (g b)
    where
      none : (x y : Bool) → ((x && false) && y) ≡ false
      none true y = refl
      none false y = refl

  pub at_start : (k base : ℕ) → 0 < k → base ≤ from → Carried (in_window g from before) k base 0
  at_start k base h l = record {
    room = omega arith;
    short = h;
    held = λ t a b. absurd (omega arith);
    none = λ t a. all_break (in_window g from before) t k t (omega arith) (omega arith) (outside_before t (omega arith));
  }

  pub at_end : (k base s : ℕ) → before ≤ base → Carried (in_window g from before) k base s → (t : ℕ)
      → all (in_window g from before) t k ≡ false
  at_end k base s l at t =
      let h : s < k = at.short in
      ⊎_elim (λ u. at.none t u)
      (λ u. all_break (in_window g from before) t k (t + (k - 1)) (omega arith) (omega arith)
      (outside_after (t + (k - 1)) (omega arith))) (order (t + s) base)

  -- ---- runs within the window are fits

  pub run_fit : (k t : ℕ) → 0 < k → all (in_window g from before) t k ≡ true → (from ≤ t) × (t + k ≤ before)
      × (all g t k ≡ true)
  run_fit k t h e =
      let parts : (b : ℕ) → t ≤ b → b < t + k → in_window g from before b ≡ true =
      λ b l u. all_elim (in_window g from before) t k e b l u in
      let lo : from ≤ t =
      leb-true from t (and_left (leb from t) (ltb t before)
      (and_left (leb from t && ltb t before) (g t) (parts t (omega arith) (omega arith)))) in
      let q : ℕ = t + (k - 1) in
      let hi : q < before =
      ltb-true q before (and_right (leb from q) (ltb q before)
      (and_left (leb from q && ltb q before) (g q) (parts q (omega arith) (omega arith)))) in
      (lo, omega arith, all_intro g t k (λ b l u. and_right (leb from b && ltb b before) (g b) (parts b l u)))

  pub fit_run : (step k t : ℕ) → Fits g from before step k t → all (in_window g from before) t k ≡ true
  fit_run step k t h =
      let a : from ≤ t = h.low in
      let b : t + k ≤ before = h.high in
      all_intro (in_window g from before) t k (λ c l u.
      and_both (leb from c && ltb c before) (g c) (and_both (leb from c) (ltb c before) (le-leb from c (omega arith))
      (lt-ltb c before (omega arith)))
      (all_elim g t k h.free c l u))

  no_run : (step k t : ℕ) → all (in_window g from before) t k ≡ false → fit g from before step k t ≡ false
  no_run step k t e =
      no_fit g from before step k t (λ h. clash (all (in_window g from before) t k) (fit_run step k t h) e)

  -- what a search has found is the least fit
  pub told_least : (k : ℕ) → 0 < k → (r : Option ℕ) → Finds (in_window g from before) k r → r ≡ least_fit g from before 1 k
  unfolding least_fit
  told_least k h (Some s) told =
      let run = run_fit k s h told.fits in
      let u : s + k ≤ before = run.1 in
      sym (least_at (fit g from before 1 k) 0 before s (omega arith) (omega arith)
      (is_fit g from before 1 k s (record { low = run.0; high = u; free = run.2; placed = on_one s }))
      (λ t a b. no_run 1 k t (told.none t b)))
  told_least k h None told = sym (least_none (fit g from before 1 k) 0 before (λ t a b. no_run 1 k t (told t)))

-- the words that lie in the window whole
pub whole_words : (map : List ℕ) (from before first stop : ℕ) → from ≤ first * 64 → stop * 64 ≤ before
    → HasBits map first stop (in_window (free map) from before)
whole_words map from before first stop a b i j c d l =
    sym (free_bit map i j l)
    ∙ sym (ap₂ (λ (x y : Bool). (x && y) && free map (i * 64 + j)) (le-leb from (i * 64 + j) (omega arith))
    (lt-ltb (i * 64 + j) before (omega arith)))
