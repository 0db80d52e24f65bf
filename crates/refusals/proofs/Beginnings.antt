-- What the first rows say of a call that gives blocks to an Absent sheet, and of one that adds blocks to an Open one: the
-- verdict in each case, and what comes of the rows behind them.
-- Assumes nothing.
use Rattle.std.specs.Prelude.{Ok, Err}
use Rattle.catalogue_standings.specs.Refusals.{number}
use Rattle.catalogue_standings.specs.declared.Refusal.{Refusal}
use mathlib.Core.Path.{◌≡◌, refl, ◌∙◌}
use mathlib.Core.List.{List, []}
use mathlib.Core.Bool.{true}
use Prim.Native.Nat.{ℕ, ◌<◌}
use borrow.Author.Tests.{eq-eqb, ne_eqb, eqb-false, not-false}
use Rattle.map_blocks.specs.Blocks.{free}
use Rattle.catalogue_standings.specs.Openings.{row_of}
use Rattle.catalogue_standings.specs.Rows.{Row, Verdict, accepted, refused, first_of, settle}
use Rattle.catalogue_standings.specs.Standings.{start_of, length_of}
use Rattle.catalogue_standings.specs.declared.Standing.{Standing}
use Rattle.catalogue_standings.specs.declared.Standing.TheVariants.{Absent, Open}
use Rattle.catalogue_standings.proofs.Openings.{NotAbsent, NotOpen, Extent, closed, skip, stop, none_left}
use Rattle.catalogue_standings.proofs.Openings.{open_extent}
use Rattle.catalogue_standings.proofs.Rows.{clear, first_then}
use Rattle.refusals.specs.Effects.{giving_verdict, adding_verdict}
use lib.ListN.{length}
use Rattle.laws.proofs.Bools.{and_left}
use Rattle.refusals.specs.Guides.{guide_fits}
use Rattle.refusals.specs.Lent.{Lent, within}
use Rattle.refusals.specs.Table.{opening, giving, adding}
use Rattle.refusals.specs.Views.{view_on}
use Rattle.refusals.proofs.Admitted.{absent_else, absent_passes, open_else, open_passes}
use Rattle.refusals.proofs.Lent.{Sized, standing, first, lengths_fit, sized, below_last}
use Rattle.refusals.proofs.Room.{view_of, only_open}

-- these rows read nothing of wings and limits
module _ (held : ℕ) (limits : List ℕ) (q : Lent) (k : ℕ) where
  pub giving_within : giving_verdict q k ≡ giving_verdict (within held limits q) k
  unfolding giving_verdict view_on
  giving_within = refl

  pub adding_within : adding_verdict q k ≡ adding_verdict (within held limits q) k
  unfolding adding_verdict view_on
  adding_within = refl

-- the verdict of any rows behind those that came first
abbrev pub behind : Verdict → List Row → Verdict
behind v rows = settle v (first_of rows) refused

module _ (q : Lent) (k : ℕ) where
  abbrev pub giving_rows : List Row → List Row
  giving_rows rows = opening (view_of q) q.sheet (giving (view_of q) k rows)

  abbrev pub adding_rows : List Row → List Row
  adding_rows rows = opening (view_of q) q.sheet (adding (view_of q) k rows)

  -- ---- an Absent sheet

  pub giving_shut : (why : Refusal) → first q ≡ Err why → giving_verdict q k ≡ refused (number why)
  unfolding giving_verdict view_on
  giving_shut why h = closed _ _ _ _ _ _ why h

  pub giving_other : (s : Standing) → first q ≡ Ok s → NotAbsent s → giving_verdict q k ≡ refused (row_of s)
  unfolding giving_verdict view_on
  giving_other s h differs = absent_else _ _ _ _ _ _ s h differs

  pub giving_nothing : first q ≡ Ok Absent → k ≡ 0 → giving_verdict q k ≡ refused 3
  unfolding giving_verdict view_on
  giving_nothing h z = absent_passes _ _ _ _ _ _ h ∙ stop 3 _ _ (eq-eqb k 0 z)

  pub giving_passes : first q ≡ Ok Absent → (k ≡ 0 → ⊥) → giving_verdict q k ≡ accepted
  unfolding giving_verdict view_on
  giving_passes h z = absent_passes _ _ _ _ _ _ h ∙ skip 3 _ _ _ (ne_eqb k 0 z) none_left

  pub giving_then : (rows : List Row) → first_of (giving_rows rows) ≡ behind (giving_verdict q k) rows
  unfolding giving_verdict
  giving_then rows = first_then (giving_rows []) rows

  pub record Given : Type 0 where
    pub sizes : Sized q
    pub guides : guide_fits q.guided q.summary (length q.map) ≡ true
    pub some : k ≡ 0 → ⊥
    pub below : q.sheet < 1024

  pub given : giving_verdict q k ≡ accepted → Given
  unfolding giving_verdict view_on
  given h = record {
    sizes = sized q (not-false _ (clear 1 (giving_rows []) h).0);
    guides = and_left _ (lengths_fit q) (not-false _ (clear 1 (giving_rows []) h).0);
    some = eqb-false k 0 (clear 3 (giving_rows []) h).0;
    below = below_last q (not-false _ (clear 1 (giving_rows []) h).0) (clear 2 (giving_rows []) h).0;
  }

  -- ---- an Open sheet

  pub adding_shut : (why : Refusal) → first q ≡ Err why → adding_verdict q k ≡ refused (number why)
  unfolding adding_verdict view_on
  adding_shut why h = closed _ _ _ _ _ _ why h

  pub adding_other : (s : Standing) → first q ≡ Ok s → NotOpen s → adding_verdict q k ≡ refused (row_of s)
  unfolding adding_verdict view_on
  adding_other s h differs = open_else _ _ _ _ _ _ s h differs

  pub adding_nothing : (start blocks : ℕ) → first q ≡ Ok (Open start blocks) → k ≡ 0 → adding_verdict q k ≡ refused 3
  unfolding adding_verdict view_on
  adding_nothing start blocks h z = open_passes _ _ _ _ _ _ start blocks h ∙ stop 3 _ _ (eq-eqb k 0 z)

  pub adding_passes : (start blocks : ℕ) → first q ≡ Ok (Open start blocks) → (k ≡ 0 → ⊥) → adding_verdict q k ≡ accepted
  unfolding adding_verdict view_on
  adding_passes start blocks h z = open_passes _ _ _ _ _ _ start blocks h ∙ skip 3 _ _ _ (ne_eqb k 0 z) none_left

  pub adding_then : (rows : List Row) → first_of (adding_rows rows) ≡ behind (adding_verdict q k) rows
  unfolding adding_verdict
  adding_then rows = first_then (adding_rows []) rows

  -- what is added to begins where the entry says, and lies inside n
  pub record Added : Type 0 where
    pub sizes : Sized q
    pub guides : guide_fits q.guided q.summary (length q.map) ≡ true
    pub some : k ≡ 0 → ⊥
    pub below : q.sheet < 1024
    pub extent : Extent q.n (free q.map) q.entry (start_of (standing q)) (length_of (standing q))

  pub added : adding_verdict q k ≡ accepted → Added
  unfolding adding_verdict view_on
  added h =
      let rows = adding_rows [] in
      record {
        sizes = sized q (not-false _ (clear 1 rows h).0);
        guides = and_left _ (lengths_fit q) (not-false _ (clear 1 rows h).0);
        some = eqb-false k 0 (clear 3 rows h).0;
        below = below_last q (not-false _ (clear 1 rows h).0) (clear 2 rows h).0;
        extent = open_extent q.n (free q.map) q.entry (start_of (standing q)) (length_of (standing q))
            (only_open (standing q) (clear 4 rows h).0 (clear 5 rows h).0 (clear 6 rows h).0 (clear 8 rows h).0);
      }
