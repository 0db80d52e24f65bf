-- Release: any standing but Absent becomes Absent, and its blocks free.
-- Assumes nothing.
use Prim.Native.Nat.{ℕ, ◌+◌, ◌<◌}
use mathlib.Core.Path.{◌≡◌, refl, ap}
use mathlib.Core.Bool.{true, false≢true}
use mathlib.Core.List.{List}
use native.Mathlib.Omega.{arith}
use lib.ListN.{length}
use borrow.Author.Tests.{leb-false, le-ltb}
use Rattle.catalogue.specs.Entries.{absent_mark}
use Rattle.map_blocks.specs.Maps.{marked}
use Rattle.catalogue.specs.declared.Entry.{Entry}
use Rattle.catalogue_standings.specs.Rows.{Row, Verdict, accepted, settle}
use Rattle.catalogue_standings.specs.declared.Answer.TheVariants.{Done}
use Rattle.refusals.specs.Effects as effects
use Rattle.refusals.specs.Effects.{entry_of, out_of, refusal_out}
use Rattle.refusals.specs.Table.{release, rows_for, table_of}
use Rattle.catalogue_standings.proofs.Rows.{clear}
use Rattle.ledger.specs.Calls.{Call, on}
use Rattle.ledger.specs.Ledger.{Sheet, Absent, start_in, length_in, sheet_at, spare_in, listed, rows_in, verdict_in, deed_in}
use Rattle.ledger.proofs.Plain.{End, end_of}
use Rattle.ledger.proofs.Agreement.{map_in, state_of, Matches, verdict-at}
use Rattle.ledger.proofs.Wings.{entry_at_lem}
use Rattle.ledger.proofs.Cover.{length_held}
use Rattle.ledger.proofs.Keeping.{keep_release}
use Rattle.ledger.proofs.Listed.{spare_is}
use Rattle.ledger.proofs.Results as results
use Rattle.ledger.proofs.Results.{Result, outEnd, out-back, plain_back, one-sheet, result-of}

module _ (n : ℕ) (l : List Sheet) (card : List ℕ) (k : Matches n l card) (role i : ℕ) where
  abbrev call : Call
  call = on role i release

  abbrev rows : List Row
  rows = rows_in n l call

  -- where the entry is e
  abbrev freed : Entry → Verdict → End
  freed e v =
      outEnd n l card k i (settle v (out_of (spare_in n l + e.length) (entry_of absent_mark 0 0) Done)
      (refusal_out (spare_in n l) e))
      (settle v (marked (map_in n l) e.start e.length true) (λ number. map_in n l)) card

  abbrev ends : Verdict → End
  ends = freed (results.e n l card k i)

  ends_so : end_of (state_of n l card) call ≡ ends (verdict_in n l call)
  unfolding effects.release_out effects.release_map rows_for
  ends_so =
      ap ends
      (verdict-at n l card k role i release (λ x y. refl)
      (λ h. le-ltb n (spare_in n l + length_in (sheet_at l i)) (omega (arith, spare_is n l k.sound, length_held l i)), tt))

  accepts : verdict_in n l call ≡ accepted → results.Done n l card call (ends accepted)
  unfolding table_of listed deed_in
  accepts h =
      let lt : i < length l = leb-false (length l) i (clear 2 rows h).0 in
      let x : Sheet = sheet_at l i in
      one-sheet n l card k role i release (ends accepted) (record {
        inside = lt;
        sheet = Absent;
        becomes = refl;
        spare = spare_in n l + length_in x;
        marks = marked (map_in n l) (start_in x) (length_in x) true;
        card_left = card;
        entry = entry_of absent_mark 0 0;
        answer = Done;
        changed = keep_release n l card k i lt;
        stored = refl;
        ends_so = ap (λ (e : Entry). freed e accepted) (entry_at_lem l i lt);
        says_so = (refl, refl);
        moved = omega arith;
        noted_here = λ p m was holds. absurd (false≢true holds);
        noted_there = λ j p m ne. refl;
      })

  pub release_result : Result n l card call (verdict_in n l call)
  unfolding table_of listed deed_in
  release_result = result-of n l card k call ends ends_so refl accepts
      (plain_back n l card k call _ refl (out-back n l card k i)) tt
