-- What pause and resume share: the mark of a sheet changes, and nothing else of it; it keeps its blocks and what they hold.
-- Assumes nothing.
use Prim.Native.Nat.{ℕ, ◌<◌}
use mathlib.Core.Path.{◌≡◌, refl, ap, ◌∙◌}
use mathlib.Core.Bool.{false}
use mathlib.Core.List.{List, []}
use native.Mathlib.Omega.{arith}
use lib.ListN.{length, set}
use borrow.Author.Tests.{leb-false}
use Rattle.catalogue.specs.declared.Entry.{Entry}
use Rattle.catalogue_standings.specs.Rows.{Verdict, accepted, settle}
use Rattle.catalogue_standings.specs.declared.Answer.TheVariants.{Done}
use Rattle.refusals.specs.Effects.{entry_of, out_of, refusal_out}
use Rattle.refusals.specs.Table as table
use Rattle.refusals.specs.Table.{Ask, table_of, verdict_of}
use Rattle.catalogue_standings.proofs.Rows.{clear, says}
use Rattle.ledger.specs.Calls.{Call, on, turned_in}
use Rattle.ledger.specs.Ledger.{Sheet, start_in, length_in, sheet_at, spare_in, listed, rows_in, verdict_in, Unnoted, Deed}
use Rattle.ledger.specs.Ledger.{leaves, deed_in}
use Rattle.ledger.specs.Claim.{note_of}
use Rattle.ledger.proofs.Plain.{End, end_of}
use Rattle.ledger.proofs.Agreement.{map_in, state_of, Matches, Plain, NeverRows, at, verdict-at}
use Rattle.ledger.proofs.Wings.{entry_at_lem}
use Rattle.ledger.proofs.Results as results
use Rattle.ledger.proofs.Results.{Result, outEnd, out-back, plain_back, one-sheet, result-of}
use Rattle.ledger.proofs.SameBlocks.{SameBlocks, has_same, keep_blocks}

module _ (n : ℕ) (l : List Sheet) (card : List ℕ) (k : Matches n l card) (role i : ℕ) (a : Ask) (mark : ℕ)
    (change : Sheet → Sheet)
  where
    abbrev call : Call
    call = on role i a

    abbrev x : Sheet
    x = sheet_at l i

    -- where the entry has this start and length
    abbrev marked : Entry → Verdict → End
    marked e v =
        outEnd n l card k i (settle v (out_of (spare_in n l) (entry_of mark e.start e.length) Done)
        (refusal_out (spare_in n l) (results.e n l card k i))) (map_in n l) card

    abbrev ends : Verdict → End
    ends = marked (results.e n l card k i)

    -- what is the call's own: the sheet becomes `change` of it, with this mark
    pub record ChangesMark : Type 0 where
      pub ends_so : end_of (state_of n l card) call ≡ ends (verdict_of (at n l card k (turned_in role a) i) (table.on i a))
      pub plain : Plain n l role i a
      pub never : NeverRows n l card k role i a
      pub no_row_0 : says 0 (rows_in n l call) ≡ false
      pub no_row_9 : says 9 (rows_in n l call) ≡ false
      -- it does so in every ledger: what is noted of a call is read in the one without sheets
      pub does : (n : ℕ) (l : List Sheet) → deed_in n l call ≡ leaves (set l i (change (sheet_at l i)))
      pub same : verdict_in n l call ≡ accepted → SameBlocks mark (change x) x

    accepts : ChangesMark → verdict_in n l call ≡ accepted → results.Done n l card call (ends accepted)
    unfolding table_of listed
    accepts m h =
        let lt : i < length l = leb-false (length l) i (clear 2 (rows_in n l call) h).0 in
        let same = m.same h in
        let unnoted : note_of call ≡ Unnoted = ap (λ (d : Deed). d.note) (m.does 0 []) in
        one-sheet n l card k role i a (ends accepted) (record {
          inside = lt;
          sheet = change x;
          becomes = ap (λ (d : Deed). d.ledger) (m.does n l);
          spare = spare_in n l;
          marks = map_in n l;
          card_left = card;
          entry = entry_of mark (start_in x) (length_in x);
          answer = Done;
          changed = keep_blocks n l card k i lt (change x) same;
          stored = same.entry;
          ends_so = rw (m.does n l) (ap (λ (e : Entry). marked e accepted) (entry_at_lem l i lt));
          says_so = rw (m.does n l) (refl, refl);
          moved = rw (m.does n l) (omega (arith, same.lasts));
          noted_here = rw unnoted (has_same same);
          noted_there = λ j p q ne. rw unnoted;
        })

    pub changes-mark : ChangesMark → Result n l card call (verdict_in n l call)
    changes-mark m =
        result-of n l card k call ends (m.ends_so ∙ ap ends (verdict-at n l card k role i a m.plain m.never))
        m.no_row_0
        (accepts m) (plain_back n l card k call _ m.no_row_9 (rw (m.does n l) (out-back n l card k i)))
        (rw (m.does n l) tt)
