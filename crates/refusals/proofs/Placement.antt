-- The figures of a reserve: what row 15 says of them, and that a fit within them is a fit of the card.
-- Assumes nothing.
use Rattle.std.specs.Prelude.{Option, Some, None}
use mathlib.Core.Path.{◌≡◌, refl}
use mathlib.Core.Bool.{Bool, true, false, ◌||◌, true≢false}
use mathlib.Core.List.{List}
use Prim.Native.Nat.{ℕ, ◌+◌, ◌≤◌, ◌<◌}
use native.Mathlib.Omega.{arith}
use lib.Dec.{eqb, leb, ltb}
use borrow.Author.Tests.{eqb-false, leb-false, ltb-false}
use Rattle.map_blocks.specs.Blocks.{free, fit, least_fit}
use Rattle.map_blocks.proofs.Fits.{fit_is, is_fit, on_one}
use Rattle.map_blocks.proofs.Least.{least_passes}
use Rattle.catalogue_standings.specs.Searches.{none, start_at}
use Rattle.laws.proofs.Bools.{neither_left, neither_right}
use Rattle.summary_search.proofs.Searches.{by_fits}
use Rattle.refusals.specs.Guides.{found_by}
use Rattle.refusals.specs.Placement.{misfigured, fit_within, least_within}
use Rattle.refusals.specs.declared.Figures.{Figures}

-- row 15 does not hold
pub record Figured (n : ℕ) (g : Figures) : Type 0 where
  pub stepped : g.step ≡ 0 → ⊥
  pub ordered : g.from < g.before
  pub inside : g.before ≤ n

pub figured : (n : ℕ) (g : Figures) → misfigured n g ≡ false → Figured n g
figured n g e =
    let first : (eqb g.step 0 || leb g.before g.from) ≡ false = neither_left _ (ltb n g.before) e in
    record {
      stepped = eqb-false g.step 0 (neither_left _ (leb g.before g.from) first);
      ordered = leb-false g.before g.from (neither_right (eqb g.step 0) _ first);
      inside = ltb-false n g.before (neither_right (eqb g.step 0 || leb g.before g.from) _ e);
    }

-- a fit within figures that lie inside the card is a fit of the card
pub plain_fit : (f : ℕ → Bool) (n : ℕ) (g : Figures) (k s : ℕ) → g.before ≤ n → fit_within f g k s ≡ true
    → fit f 0 n 1 k s ≡ true
plain_fit f n g k s l e =
    let h = fit_is f g.from g.before g.step k s e in
    let high : s + k ≤ g.before = h.high in
    is_fit f 0 n 1 k s (record { low = omega arith; high = omega arith; free = h.free; placed = on_one s })

is_found : (o : Option ℕ) → none o ≡ false → o ≡ Some (start_at o)
is_found (Some s) e = refl
is_found None e = absurd (true≢false e)

-- the least fit is a fit, where one was found
pub least_fits : (f : ℕ → Bool) (g : Figures) (k : ℕ) → none (least_within f g k) ≡ false
    → fit_within f g k (start_at (least_within f g k)) ≡ true
unfolding least_fit
least_fits f g k h = (least_passes (fit_within f g k) 0 g.before _ (is_found _ h)).test

-- so is what a search finds, by the map alone and by any summary
pub found_fit : (guided : Bool) (summary map : List ℕ) (g : Figures) (k : ℕ) → 0 < k → none (found_by guided summary map g k)
    ≡ false
    → fit_within (free map) g k (start_at (found_by guided summary map g k)) ≡ true
found_fit true summary map g k some h = by_fits map summary g.from g.before g.step k some _ (is_found _ h)
found_fit false summary map g k some h = least_fits (free map) g k h
