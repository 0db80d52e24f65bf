-- What the rows of accept and its effects say: the verdict in each case, and what the call then hands back and leaves.
-- Assumes nothing.
use mathlib.Core.Path.{◌≡◌}
use mathlib.Core.Bool.{Bool}
use mathlib.Core.List.{List, ◌∷◌}
use Prim.Native.Nat.{ℕ}
use borrow.Author.Tests.{ltb-false, not-false}
use Rattle.map_blocks.specs.Blocks.{free}
use Rattle.catalogue_wings.specs.Wings.{wing_of}
use Rattle.catalogue_standings.specs.Rows.{Verdict, accepted, refused, settle}
use Rattle.refusals.specs.Effects.{giving_verdict, run_verdict, accept_verdict, accept_out, accept_map, accept_card}
use Rattle.refusals.specs.Effects.{accept_summary}
use Rattle.refusals.specs.Lent.{Lent}
use Rattle.refusals.specs.Shares.{over_limit}
use Rattle.refusals.specs.Table.{on, accept, limit_row, run_rows, table_of}
use Rattle.refusals.specs.Views.{view_on}
use Rattle.refusals.specs.declared.Out.{Out}
use Rattle.refusals.proofs.Beginnings.{giving_then}
use Rattle.laws.proofs.Bools.{and_left}
use Rattle.refusals.proofs.Lent.{lengths_fit, sized}
use Rattle.refusals.proofs.Taken.{Leaves}
use Rattle.refusals.proofs.Room.{Room, view_of, fit_inside}
use Rattle.catalogue_standings.proofs.Rows.{clear}

module _ (q : Lent) (start k : ℕ) where
  abbrev pub accept_verdict_on : Verdict
  accept_verdict_on = accept_verdict q start k

  -- the limit of the sheet's wing is passed
  abbrev pub over : Bool
  over = over_limit q.limits (wing_of q.sheet) q.held k

  abbrev pub run : Verdict
  run = run_verdict 17 over (free q.map) q.n q.spare start k

  pub verdict_behind : accept_verdict_on ≡ settle (giving_verdict q k) run refused
  unfolding accept_verdict run_verdict view_on table_of
  verdict_behind = giving_then q k (limit_row (view_of q) q.limits k ∷ run_rows 17 (view_of q) start k)

  -- ---- where the blocks of an accepted call lie

  pub accept_room : accept_verdict_on ≡ accepted → Room q start k
  unfolding accept_verdict view_on table_of
  accept_room h =
      let rows = table_of (view_of q) (on q.sheet (accept q.limits start k)) in
      record {
        sizes = sized q (not-false _ (clear 1 rows h).0);
        guides = and_left _ (lengths_fit q) (not-false _ (clear 1 rows h).0);
        inside = fit_inside (free q.map) q.n k start (not-false _ (clear 17 rows h).0);
        enough = ltb-false q.spare k (clear 4 rows h).1.0;
      }

  -- ---- what the call hands back and leaves

  pub taken : (r : Out) (map summary card : List ℕ) → Leaves q accept_verdict_on start k r map summary card
      → (r ≡ accept_out q start k) × (map ≡ accept_map q start k) × (summary ≡ accept_summary q start k)
      × (card ≡ accept_card q start k)
  unfolding accept_out accept_map accept_summary accept_card
  taken r map summary card h = h
