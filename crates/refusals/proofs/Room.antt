-- What an accepted reserve or grow has room for: its blocks lie inside the card, and the free count has as many.
-- Assumes nothing.
use mathlib.Core.Path.{◌≡◌, refl}
use mathlib.Core.Bool.{Bool, true, false, true≢false}
use Prim.Native.Nat.{ℕ, ◌+◌, ◌≤◌}
use native.Mathlib.Omega.{arith}
use borrow.Author.Tests.{eqb-false, ltb-false, not-false}
use Rattle.map_blocks.specs.Blocks.{free, fit}
use Rattle.map_blocks.proofs.Fits.{fit_is}
use Rattle.catalogue_standings.specs.Searches.{start_at}
use Rattle.refusals.specs.Effects.{reserve_verdict, reserve_start, grow_verdict}
use Rattle.catalogue_standings.specs.Rows.{Verdict, accepted}
use Rattle.catalogue_standings.specs.Standings.{is_absent, is_paused, is_complete, is_damaged, start_of, length_of}
use Rattle.refusals.specs.Table.{View, on, reserve, grow, table_of}
use Rattle.refusals.specs.Views.{view_on}
use Rattle.catalogue_standings.specs.declared.Standing.{Standing}
use Rattle.catalogue_standings.specs.declared.Standing.TheVariants.{Absent, Paused, PausedWith, Open, Complete, Damaged}
use Rattle.catalogue_standings.proofs.Rows.{clear}
use lib.ListN.{length}
use Rattle.laws.proofs.Bools.{and_left}
use Rattle.refusals.specs.Guides.{guide_fits, found_by}
use Rattle.refusals.specs.Lent.{Lent}
use Rattle.refusals.specs.Placement.{Placement, figures_in}
use Rattle.refusals.specs.declared.Figures.{Figures}
use Rattle.refusals.proofs.Lent.{Sized, standing, lengths_fit, sized}
use Rattle.refusals.proofs.Placement.{figured, plain_fit, found_fit}
use Rattle.catalogue_standings.proofs.Openings.{open_extent}

-- ---- where the blocks lie

pub record Room (q : Lent) (start k : ℕ) : Type 0 where
  pub sizes : Sized q
  pub guides : guide_fits q.guided q.summary (length q.map) ≡ true
  pub inside : start + k ≤ q.n
  pub enough : k ≤ q.spare

pub fit_inside : (f : ℕ → Bool) (n k s : ℕ) → fit f 0 n 1 k s ≡ true → s + k ≤ n
fit_inside f n k s e = (fit_is f 0 n 1 k s e).high

-- the one standing that grow admits
pub only_open : (s : Standing) → is_damaged s ≡ false → is_absent s ≡ false → is_paused s ≡ false → is_complete s ≡ false
    → s ≡ Open (start_of s) (length_of s)
only_open Absent d a p c = absurd (true≢false a)
only_open Paused d a p c = absurd (true≢false p)
only_open (PausedWith s l) d a p c = absurd (true≢false p)
only_open (Open s l) d a p c = refl
only_open (Complete s l) d a p c = absurd (true≢false c)
only_open Damaged d a p c = absurd (true≢false d)

abbrev pub view_of : Lent → View
view_of q = view_on q

module _ (q : Lent) (k : ℕ) (p : Placement) where
  abbrev pub reserve_verdict_on : Verdict
  reserve_verdict_on = reserve_verdict q k p

  abbrev pub reserve_start_on : ℕ
  reserve_start_on = reserve_start q k p

  pub reserve_room : reserve_verdict_on ≡ accepted → Room q reserve_start_on k
  unfolding reserve_verdict reserve_start view_on table_of
  reserve_room h =
      let rows = table_of (view_of q) (on q.sheet (reserve q.limits k p)) in
      let g : Figures = figures_in q.n p in
      let f = free q.map in
      let least : ℕ = start_at (found_by q.guided q.summary q.map g k) in
      let fits = plain_fit f q.n g k least (figured q.n g (clear 15 rows h).0).inside
      (found_fit q.guided q.summary q.map g k (omega (arith, eqb-false k 0 (clear 3 rows h).0))
      (clear 10 rows h).0) in
      record {
        sizes = sized q (not-false _ (clear 1 rows h).0);
        guides = and_left _ (lengths_fit q) (not-false _ (clear 1 rows h).0);
        inside = fit_inside f q.n k least fits;
        enough = ltb-false q.spare k (clear 4 rows h).1.0;
      }

  -- and they lie within its figures
  pub reserve_within : reserve_verdict_on ≡ accepted
      → (reserve_start_on + k ≤ (figures_in q.n p).before) × ((figures_in q.n p).before ≤ q.n)
  unfolding reserve_verdict reserve_start view_on table_of
  reserve_within h =
      let rows = table_of (view_of q) (on q.sheet (reserve q.limits k p)) in
      let g : Figures = figures_in q.n p in
      let f = free q.map in (
        (fit_is f g.from g.before g.step k (start_at (found_by q.guided q.summary q.map g k))
            (found_fit q.guided q.summary q.map g k (omega (arith, eqb-false k 0 (clear 3 rows h).0))
            (clear 10 rows h).0)).high,
        (figured q.n g (clear 15 rows h).0).inside,
      )

module _ (q : Lent) (k : ℕ) where
  abbrev pub grow_verdict_on : Verdict
  grow_verdict_on = grow_verdict q k

  pub grow_room : grow_verdict_on ≡ accepted → Room q (q.entry.start + q.entry.length) k
  unfolding grow_verdict view_on table_of
  grow_room h =
      let rows = table_of (view_of q) (on q.sheet (grow q.limits k)) in
      let s : Standing = standing q in
      let x =
      open_extent q.n (free q.map) q.entry (start_of s) (length_of s)
      (only_open s (clear 4 rows h).0 (clear 5 rows h).0 (clear 6 rows h).0 (clear 8 rows h).0) in
      let inside = fit_inside (free q.map) q.n k (start_of s + length_of s) (not-false _ (clear 11 rows h).0) in
      record {
        sizes = sized q (not-false _ (clear 1 rows h).0);
        guides = and_left _ (lengths_fit q) (not-false _ (clear 1 rows h).0);
        inside = omega (arith, x.starts, x.lasts, inside);
        enough = ltb-false q.spare k (clear 4 rows h).1.0;
      }
