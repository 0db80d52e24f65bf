-- Accept: Absent becomes Open at the start that is asked for.
-- Assumes nothing.
use Prim.Native.Nat.{ℕ}
use mathlib.Core.Path.{◌≡◌, refl, ap, ◌∙◌}
use mathlib.Core.Bool.{Bool}
use mathlib.Core.List.{List}
use native.Mathlib.Omega.{arith}
use borrow.Author.Tests.{not-false}
use Rattle.map_blocks.specs.Blocks as map-blocks
use Rattle.map_blocks.specs.Blocks.{fit}
use Rattle.catalogue_standings.specs.Rows.{Row, accepted, first_of, before}
use Rattle.refusals.specs.Effects as effects
use Rattle.refusals.specs.Table.{Ask, accept, rows_for, lowest_blank, table_of}
use Rattle.catalogue_standings.proofs.Rows.{clear, onwards, from_there}
use Rattle.ledger.specs.Calls.{Call, on}
use Rattle.ledger.specs.Ledger.{Sheet, free_in, space_in, view_in, listed, rows_in, verdict_in, deed_in}
use Rattle.ledger.specs.Answers.{told_in}
use Rattle.ledger.specs.Claim.{Came, Searched}
use Rattle.ledger.proofs.Plain.{end_of}
use Rattle.ledger.proofs.Agreement.{map_in, state_of, Matches, NeverRows, Sharing, says_on, free_map, verdict-within}
use Rattle.ledger.proofs.Results as results
use Rattle.ledger.proofs.Results.{Result, out-back, plain_back, result-of}
use Rattle.ledger.proofs.Search.{only, asked}
use Rattle.ledger.proofs.Taking.{shown, enough, taken, takes}

module _ (n : ℕ) (l : List Sheet) (card : List ℕ) (k : Matches n l card) (role i : ℕ) (limits : List ℕ) (start m : ℕ) where
  abbrev call : Call
  call = on role i (accept limits start m)

  abbrev ask : Ask
  ask = accept limits start m

  abbrev rows : List Row
  rows = rows_in n l call

  never : NeverRows n l card k role i (accept limits start m)
  unfolding rows_for
  never = (
    (λ h. enough n l card k role i m start (shown n l card k role i m start (clear 2 _ h).0 (clear 6 _ h).0 (clear 7 _ h).0
        (clear 8 _ h).0 (clear 3 _ h).0 (not-false _ (clear 17 _ h).0))),
    tt,
  )

  sharing : Sharing n l role i ask
  unfolding rows_for
  sharing x y same = ap
      (λ (h : ℕ). says_on n l role i ask (record { blank = y.blank; sound = y.sound; term = y.term; held = h })) same

  ends_so : end_of (state_of n l card) call ≡ taken n l card k role i m start (free_in n l) (verdict_in n l call)
  unfolding effects.accept_out effects.accept_map effects.accept_card effects.taken_out effects.taken_map effects.taken_card
      rows_for
  ends_so =
      ap (taken n l card k role i m start (map-blocks.free (map_in n l)))
      (verdict-within n l card k role i ask limits sharing never)
      ∙ ap (λ (f : ℕ → Bool). taken n l card k role i m start f (verdict_in n l call)) (free_map n l)

  accepts : verdict_in n l call ≡ accepted → results.Done n l card call (taken n l card k role i m start (free_in n l) accepted)
  unfolding table_of listed deed_in
  accepts h =
      takes n l card k role i m start (accept limits start m) (record {
        ledger_is = refl;
        values_are = refl;
        grants_are = refl;
        returns_are = refl;
        left_is = refl;
        note_is = refl;
      }) (shown n l card k role i m start (clear 2 rows h).0 (clear 6 rows h).0 (clear 7 rows h).0 (clear 8 rows h).0
      (clear 3 rows h).0 (not-false _ (clear 17 rows h).0))

  abbrev fits : ℕ → Bool
  fits s = fit (free_in n l) 0 n 1 m s

  -- the verdict is that of the run which is asked for
  by_search : Came 17 n l call → Searched 17 (only 17 (omega arith) fits (space_in n l) start) (space_in n l) (told_in n l call)
  unfolding table_of listed before onwards first_of deed_in
  by_search came =
      asked 17 (omega arith) fits (space_in n l) start (verdict_in n l call) (lowest_blank (view_in n l i))
      (from_there 17 rows came)

  pub accept_result : Result n l card call (verdict_in n l call)
  unfolding table_of listed deed_in
  accept_result = result-of n l card k call (taken n l card k role i m start (free_in n l)) ends_so refl accepts
      (plain_back n l card k call _ refl (out-back n l card k i)) by_search
