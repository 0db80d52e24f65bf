-- What the first rows say of a call that shows a place of a Complete sheet: the verdict in each case, and where none of them
-- holds, what the sheet and the place are.
-- Assumes nothing.
use Rattle.std.specs.Prelude.{Ok, Err}
use Rattle.catalogue_standings.specs.Refusals.{number}
use Rattle.catalogue_standings.specs.declared.Refusal.{Refusal}
use mathlib.Core.Path.{◌≡◌, refl, ap, ◌∙◌}
use mathlib.Core.Bool.{false, true≢false}
use mathlib.Core.List.{List, []}
use Prim.Native.Nat.{ℕ, ◌+◌, ◌*◌, ◌<◌, ◌≤◌}
use native.Mathlib.Omega.{arith}
use lib.ListN.{length}
use borrow.Author.Tests.{not-false}
use Rattle.map_blocks.specs.Blocks.{free}
use Rattle.catalogue_standings.specs.Openings.{row_of}
use Rattle.catalogue_standings.specs.Rows.{Row, accepted, refused, first_of}
use Rattle.catalogue_standings.specs.Standings.{start_of, length_of, is_absent, is_paused, is_open, is_damaged}
use Rattle.catalogue_standings.specs.declared.Standing.{Standing}
use Rattle.catalogue_standings.specs.declared.Standing.TheVariants.{Absent, Paused, PausedWith, Open, Complete, Damaged}
use Rattle.catalogue_standings.proofs.Openings.{Extent, NotComplete, opened, closed, skip, stop, none_left, complete_extent}
use Rattle.catalogue_standings.proofs.Rows.{clear, first_then}
use Rattle.refusals.specs.Effects.{showing_verdict}
use Rattle.refusals.specs.Lent.{Lent}
use Rattle.refusals.specs.Table.{opening, showing}
use Rattle.refusals.specs.Views.{view_on}
use Rattle.refusals.proofs.Admitted.{complete_else, complete_passes}
use Rattle.refusals.proofs.Beginnings.{behind}
use Rattle.refusals.proofs.Lent.{Sized, standing, first, all_fits, sized}
use Rattle.refusals.proofs.Places.{beyond, unsized, placed, well_placed, block-number, block-bytes}
use Rattle.refusals.proofs.Room.{view_of}

-- the one standing that a show admits
only_complete : (s : Standing) → is_damaged s ≡ false → is_absent s ≡ false → is_paused s ≡ false → is_open s ≡ false
    → s ≡ Complete (start_of s) (length_of s)
only_complete Absent d a p o = absurd (true≢false a)
only_complete Paused d a p o = absurd (true≢false p)
only_complete (PausedWith s l) d a p o = absurd (true≢false p)
only_complete (Open s l) d a p o = absurd (true≢false o)
only_complete (Complete s l) d a p o = refl
only_complete Damaged d a p o = absurd (true≢false d)

module _ (q : Lent) (place : ℕ) (buffer : List ℕ) where
  abbrev pub showing_rows : List Row → List Row
  showing_rows rows = opening (view_of q) q.sheet (showing (view_of q) place buffer rows)

  pub showing_shut : (why : Refusal) → first q ≡ Err why → showing_verdict q place buffer ≡ refused (number why)
  unfolding showing_verdict view_on
  showing_shut why h = closed _ _ _ _ _ _ why h

  pub showing_other : (s : Standing) → first q ≡ Ok s → NotComplete s → showing_verdict q place buffer ≡ refused (row_of s)
  unfolding showing_verdict view_on
  showing_other s h differs = complete_else _ _ _ _ _ _ s h differs

  module _ (start blocks : ℕ) (h : first q ≡ Ok (Complete start blocks)) where
    lasts : length_of (standing q) ≡ blocks
    lasts = ap length_of (opened q.turned (all_fits q) q.sheets q.sheet (standing q) (Complete start blocks) [] h).same

    pub showing-past-end : blocks ≤ place → showing_verdict q place buffer ≡ refused 3
    unfolding showing_verdict view_on
    showing-past-end b =
        complete_passes _ _ _ _ _ _ start blocks h
        ∙ stop 3 _ _ (beyond (length_of (standing q)) place (length buffer) (omega (arith, lasts)))

    module _ (listed : place < blocks) where
      pub showing-misfit : (length buffer ≡ 496 → ⊥) → showing_verdict q place buffer ≡ refused 3
      unfolding showing_verdict view_on
      showing-misfit d =
          complete_passes _ _ _ _ _ _ start blocks h
          ∙ stop 3 _ _ (unsized (length_of (standing q)) place (length buffer) (omega (arith, lasts)) d)

      pub showing-passes : length buffer ≡ 496 → showing_verdict q place buffer ≡ accepted
      unfolding showing_verdict view_on
      showing-passes d =
          complete_passes _ _ _ _ _ _ start blocks h
          ∙ skip 3 _ _ _ (placed (length_of (standing q)) place (length buffer) (omega (arith, lasts)) d) none_left

  -- the rows behind them decide, where none of them holds
  pub showing_then : (rows : List Row) → first_of (showing_rows rows) ≡ behind (showing_verdict q place buffer) rows
  unfolding showing_verdict
  showing_then rows = first_then (showing_rows []) rows

  -- ---- where none of them holds

  pub record Shown : Type 0 where
    pub sizes : Sized q
    pub extent : Extent q.n (free q.map) q.entry (start_of (standing q)) (length_of (standing q))
    pub listed : place < length_of (standing q)
    pub whole : length buffer ≡ 496

  pub shown : showing_verdict q place buffer ≡ accepted → Shown
  unfolding showing_verdict view_on
  shown h =
      let rows = showing_rows [] in
      let fits = well_placed (length_of (standing q)) place (length buffer) (clear 3 rows h).0 in
      record {
        sizes = sized q (not-false _ (clear 1 rows h).0);
        extent = complete_extent q.n (free q.map) q.entry (start_of (standing q)) (length_of (standing q))
            (only_complete (standing q) (clear 4 rows h).0 (clear 5 rows h).0 (clear 6 rows h).0 (clear 7 rows h).0);
        listed = fits.0;
        whole = fits.1;
      }

  module _ (opens : showing_verdict q place buffer ≡ accepted) where
    pub number_fits : q.entry.start + place < 262144
    number_fits =
        let s = shown opens in
        omega (arith, block-number s.sizes s.extent s.listed, s.extent.starts)

    pub in-card : 512 * (q.entry.start + place) + 512 ≤ length q.card
    in-card =
        let s = shown opens in
        omega (arith, block-bytes s.sizes s.extent s.listed, s.extent.starts)

    -- and so does place 0
    pub first-in-card : 512 * q.entry.start + 512 ≤ length q.card
    first-in-card = omega (arith, in-card)

    pub sized-buffer : length buffer ≡ 496
    sized-buffer = (shown opens).whole
