-- Standing: mark, start and length, and nothing changes.
-- Assumes nothing.
use Prim.Native.Nat.{ℕ, ◌<◌}
use mathlib.Core.Path.{◌≡◌, refl, ap}
use mathlib.Core.List.{List, [], map}
use lib.ListN.{length}
use borrow.Author.Tests.{leb-false}
use Rattle.catalogue.specs.declared.Entry.{Entry}
use Rattle.catalogue_standings.specs.Rows.{Row, Verdict, accepted, settle}
use Rattle.catalogue_standings.specs.declared.Answer.TheVariants.{Reads, Refused}
use Rattle.refusals.specs.Effects as effects
use Rattle.refusals.specs.Table.{standing, rows_for, table_of}
use Rattle.catalogue_standings.proofs.Rows.{clear}
use Rattle.card.specs.Calls.{told}
use Rattle.ledger.specs.Calls.{Call, on}
use Rattle.ledger.specs.Ledger.{Sheet, sheet_at, spare_in, listed, rows_in, verdict_in, deed_in}
use Rattle.ledger.specs.Claim.{entry_in}
use Rattle.ledger.proofs.Plain.{End, ending, end_of}
use Rattle.ledger.proofs.Agreement.{map_in, state_of, Matches, verdict-at}
use Rattle.ledger.proofs.Wings.{entry_at_lem}
use Rattle.ledger.proofs.Results as results
use Rattle.ledger.proofs.Results.{Result, plain_back, no_change, result-of}

module _ (n : ℕ) (l : List Sheet) (card : List ℕ) (k : Matches n l card) (role i : ℕ) where
  abbrev call : Call
  call = on role i standing

  abbrev rows : List Row
  rows = rows_in n l call

  abbrev tells_of : Entry → Verdict → End
  tells_of e v =
      ending (told (record { blocks = n; free = spare_in n l }) (settle v (Reads e.mark e.start e.length) Refused))
      (map_in n l) (map entry_in l) card []

  abbrev ends : Verdict → End
  ends = tells_of (results.e n l card k i)

  ends_so : end_of (state_of n l card) call ≡ ends (verdict_in n l call)
  unfolding effects.standing_answer rows_for
  ends_so = ap ends (verdict-at n l card k role i standing (λ x y. refl) tt)

  accepts : verdict_in n l call ≡ accepted → results.Done n l card call (ends accepted)
  unfolding table_of listed deed_in
  accepts h =
      let lt : i < length l = leb-false (length l) i (clear 2 rows h).0 in
      let x = entry_in (sheet_at l i) in
      no_change n l card k call (ends accepted) (Reads x.mark x.start x.length) refl refl (λ j p m. refl)
      (ap (λ (e : Entry). tells_of e accepted) (entry_at_lem l i lt)) (refl, refl)

  pub standing_result : Result n l card call (verdict_in n l call)
  unfolding table_of listed deed_in
  standing_result = result-of n l card k call ends ends_so refl accepts (plain_back n l card k call _ refl (λ number. refl))
      tt
