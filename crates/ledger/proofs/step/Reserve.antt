-- Reserve: Absent becomes Open at the least fit within its figures.
-- Assumes nothing.
use Prim.Native.Nat.{ℕ, ◌<◌}
use mathlib.Core.Path.{◌≡◌, refl, ap, ◌∙◌}
use mathlib.Core.Bool.{Bool, false}
use mathlib.Core.List.{List, [], ◌∷◌}
use native.Mathlib.Omega.{arith}
use lib.Dec.{eqb, leb}
use lib.ListN.{length}
use borrow.Author.Tests.{eqb-false}
use Rattle.map_blocks.specs.Blocks as map-blocks
use Rattle.map_blocks.specs.Blocks.{least_fit}
use Rattle.laws.proofs.Bools.{not_true}
use Rattle.map_blocks.proofs.Fits.{fit_is}
use Rattle.catalogue_standings.specs.Searches.{start_at, none}
use Rattle.catalogue_standings.specs.Standings.{is_paused, is_open, is_complete}
use Rattle.catalogue_standings.specs.Rows.{Row, row, accepted, first_of, before}
use Rattle.refusals.specs.Effects as effects
use Rattle.refusals.specs.Table.{Ask, reserve, rows_for, lowest_blank, table_of}
use Rattle.refusals.specs.Placement.{Placement, figures_in, misfigured, fit_within, least_within}
use Rattle.refusals.specs.declared.Figures.{Figures}
use Rattle.refusals.proofs.Placement.{figured, plain_fit, least_fits}
use Rattle.catalogue_standings.proofs.Rows.{clear, onwards, from_there}
use Rattle.ledger.specs.Calls.{Call, on, turned_in}
use Rattle.ledger.specs.Ledger.{Sheet, standing_in, sheet_at, free_in, least_in, space_in, view_in, listed, rows_in, verdict_in}
use Rattle.ledger.specs.Ledger.{deed_in, view_by}
use Rattle.ledger.specs.Answers.{told_in}
use Rattle.ledger.specs.Claim.{Came, Searched}
use Rattle.ledger.proofs.Plain.{end_of}
use Rattle.ledger.proofs.Agreement.{map_in, state_of, Matches, NeverRows, Sharing, says_on, free_map, verdict-within}
use Rattle.ledger.proofs.Results as results
use Rattle.ledger.proofs.Results.{Result, out-back, plain_back, result-of}
use Rattle.ledger.proofs.Search.{searched}
use Rattle.ledger.proofs.Rows.{Never}
use Rattle.ledger.proofs.Taking.{Shown, shown, enough, taken, takes}

module _ (n : ℕ) (l : List Sheet) (card : List ℕ) (k : Matches n l card) (role i : ℕ) (limits : List ℕ) (m : ℕ)
    (placement : Placement) where
  abbrev call : Call
  call = on role i (reserve limits m placement)

  abbrev ask : Ask
  ask = reserve limits m placement

  abbrev g : Figures
  g = figures_in n placement

  abbrev rows : List Row
  rows = rows_in n l call

  abbrev start : ℕ
  start = least_in n l m placement

  pub seen : leb (length l) i ≡ false → is_paused (standing_in (sheet_at l i)) ≡ false → is_open (standing_in (sheet_at l i))
      ≡ false
      → is_complete (standing_in (sheet_at l i)) ≡ false
      → eqb m 0 ≡ false → misfigured n g ≡ false → none (least_within (free_in n l) g m) ≡ false
      → Shown n l card k role i m start
  seen h2 h6 h7 h8 h3 h15 h10 =
      shown n l card k role i m start h2 h6 h7 h8 h3
      (plain_fit (free_in n l) n g m start (figured n g h15).inside (least_fits (free_in n l) g m h10))

  -- whoever calls: an offer has these rows by another name
  pub never_for : (t : Bool)
      → Never (row 2 (leb (length l) i) ∷ row 21 t ∷ []) (rows_for (view_by n l t i) (reserve limits m placement))
  unfolding rows_for
  never_for t = (
    (λ h. enough n l card k role i m start (seen (clear 2 _ h).0 (clear 6 _ h).0 (clear 7 _ h).0 (clear 8 _ h).0
        (clear 3 _ h).0 (clear 15 _ h).0 (clear 10 _ h).0)),
    tt,
  )

  never : NeverRows n l card k role i (reserve limits m placement)
  never = never_for (turned_in role (reserve limits m placement))

  sharing : Sharing n l role i ask
  unfolding rows_for
  sharing x y same = ap
      (λ (h : ℕ). says_on n l role i ask (record { blank = y.blank; sound = y.sound; term = y.term; held = h })) same

  ends_so : end_of (state_of n l card) call ≡ taken n l card k role i m start (free_in n l) (verdict_in n l call)
  unfolding effects.reserve_out effects.reserve_map effects.reserve_card effects.taken_out effects.taken_map effects.taken_card
      rows_for
  ends_so =
      ap (taken n l card k role i m (start_at (least_within (map-blocks.free (map_in n l)) g m)) (map-blocks.free (map_in n l)))
      (verdict-within n l card k role i ask limits sharing never)
      ∙ ap (λ (f : ℕ → Bool). taken n l card k role i m (start_at (least_within f g m)) f (verdict_in n l call)) (free_map n l)

  accepts : verdict_in n l call ≡ accepted → results.Done n l card call (taken n l card k role i m start (free_in n l) accepted)
  unfolding table_of listed deed_in
  accepts h =
      takes n l card k role i m start (reserve limits m placement) (record {
        ledger_is = refl;
        values_are = refl;
        grants_are = refl;
        returns_are = refl;
        left_is = refl;
        note_is = refl;
      }) (seen (clear 2 rows h).0 (clear 6 rows h).0 (clear 7 rows h).0 (clear 8 rows h).0 (clear 3 rows h).0
      (clear 15 rows h).0 (clear 10 rows h).0)

  -- no start from `before` on is a fit, and the verdict is that of the search alone
  by_search : Came 10 n l call → Searched 10 (fit_within (free_in n l) g m) (space_in n l) (told_in n l call)
  unfolding table_of listed before onwards first_of deed_in least_fit
  by_search came =
      let some : 0 < m = omega (arith, eqb-false m 0 (clear 3 (before 10 rows) came).0) in
      searched 10 (omega arith) (fit_within (free_in n l) g m) (space_in n l) g.before
      (λ s le. not_true _ (λ q. omega (arith, (fit_is (free_in n l) g.from g.before g.step m s q).high)))
      (verdict_in n l call) (lowest_blank (view_in n l i)) (from_there 10 rows came)

  pub reserve_result : Result n l card call (verdict_in n l call)
  unfolding table_of listed deed_in
  reserve_result = result-of n l card k call (taken n l card k role i m start (free_in n l)) ends_so refl accepts
      (plain_back n l card k call _ refl (out-back n l card k i)) by_search
