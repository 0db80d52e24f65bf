-- Put: a place of an Open sheet becomes the payload, and its block the sealed one.
-- Assumes nothing.
use Prim.Native.Nat.{ℕ, ◌+◌, ◌<◌}
use mathlib.Core.Path.{◌≡◌, refl, sym, ap, subst, ◌∙◌}
use mathlib.Core.Bool.{Bool, true, false, cond}
use mathlib.Core.List.{List, [], map}
use native.Mathlib.Omega.{arith}
use lib.Dec.{eqb, leb}
use lib.ListN.{length, get_or, set, length-set}
use lib.Seq.{get_or-set_same, get_or-set_other}
use borrow.Author.Tests.{leb-false, eqb-true, eqb-false, eq-eqb, ne_eqb, not-false}
use Rattle.catalogue.specs.Entries.{open_mark}
use Rattle.blocks_of_card.specs.Card.{with_block}
use Rattle.block_seals.specs.Sealed.{sealed}
use Rattle.catalogue.specs.declared.Entry.{Entry}
use Rattle.catalogue.proofs.Storing.{stored_back}
use Rattle.catalogue_standings.specs.Rows.{Row, Verdict, accepted, settle}
use Rattle.catalogue_standings.specs.declared.Answer.TheVariants.{Done, Refused}
use Rattle.refusals.specs.Effects as effects
use Rattle.refusals.specs.Effects.{entry_of}
use Rattle.refusals.specs.Table.{put, rows_for, table_of}
use Rattle.catalogue_standings.proofs.Rows.{clear}
use Rattle.card.specs.Calls.{told}
use Rattle.ledger.specs.Calls.{Call, on}
use Rattle.ledger.specs.Ledger.{Place, Blank, Payload, Sheet, Open, length_in, sheet_at, spare_in, put_in, listed, rows_in}
use Rattle.ledger.specs.Ledger.{verdict_in, deed_in}
use Rattle.ledger.specs.Claim.{entry_in}
use Rattle.ledger.proofs.Plain.{End, ending, end_of}
use Rattle.ledger.proofs.Agreement.{map_in, state_of, Matches, verdict-on}
use Rattle.ledger.proofs.Wings.{entry_at_lem}
use Rattle.ledger.proofs.Keeping.{keep-put}
use Rattle.laws.proofs.Bools.{neither_left, neither_right}
use Rattle.ledger.proofs.Results as results
use Rattle.ledger.proofs.Results.{Result, plain_back, one-sheet, result-of}
use Rattle.ledger.proofs.Sheets.{was_open, Has}

module _ (n : ℕ) (l : List Sheet) (card : List ℕ) (k : Matches n l card) (role i p : ℕ) (payload : List ℕ) where
  abbrev call : Call
  call = on role i (put p payload)

  abbrev rows : List Row
  rows = rows_in n l call

  abbrev e : Entry
  e = results.e n l card k i

  -- where the entries are these, and the sheet starts there
  abbrev written : List Entry → ℕ → Verdict → End
  written entries start v =
      ending (told (record { blocks = n; free = spare_in n l }) (settle v Done Refused)) (map_in n l) entries
      (settle v (with_block card (start + p) (sealed i p payload)) (λ number. card)) []

  abbrev ends : Verdict → End
  ends = written (map entry_in l) e.start

  ends_so : end_of (state_of n l card) call ≡ ends (verdict_in n l call)
  unfolding effects.put_answer effects.put_card rows_for
  ends_so = ap ends (verdict-on n l card k role i (put p payload) (λ x y alike. refl) tt)

  put_at : (ps : List Place) (q : ℕ) (m : Place) → p < length ps → get_or ps q Blank ≡ m → (t : Bool) → eqb q p ≡ t
      → get_or (set ps p (Payload payload)) q Blank ≡ cond t (Payload payload) m
  put_at ps q m lp was true h = rw (eqb-true q p h) (get_or-set_same ps p (Payload payload) Blank lp)
  put_at ps q m lp was false h = get_or-set_other ps p q (Payload payload) Blank (eqb-false q p h) ∙ was

  accepts : verdict_in n l call ≡ accepted → results.Done n l card call (ends accepted)
  unfolding table_of listed deed_in
  accepts h =
      let lt : i < length l = leb-false (length l) i (clear 2 rows h).0 in
      let o = was_open (sheet_at l i) (clear 5 rows h).0 (clear 6 rows h).0 (clear 8 rows h).0 in
      let three = (clear 3 rows h).0 in
      let w : length (set o.1 p (Payload payload)) ≡ length o.1 = length-set o.1 p (Payload payload) in
      let lp : p < length o.1 = omega (
        arith,
        leb-false (length_in (sheet_at l i)) p (neither_left _ _ three),
        ap length_in o.2,
      ) in
      let len : length payload ≡ 496 = eqb-true (length payload) 496
      (not-false _ (neither_right (leb (length_in (sheet_at l i)) p) _ three)) in
      let was : e ≡ entry_of open_mark o.0 (length o.1) = entry_at_lem l i lt ∙ ap entry_in o.2 in
      one-sheet n l card k role i (put p payload) (ends accepted) (record {
        inside = lt;
        sheet = Open o.0 (set o.1 p (Payload payload));
        becomes = ap (λ (y : Sheet). set l i (put_in p payload y)) o.2;
        spare = spare_in n l;
        marks = map_in n l;
        card_left = with_block card (o.0 + p) (sealed i p payload);
        entry = e;
        answer = Done;
        changed = keep-put n l card k i lt o.0 o.1 o.2 p payload lp len;
        stored = was ∙ ap (entry_of open_mark o.0) (sym w);
        ends_so = ap (λ (y : Entry). written (map entry_in l) y.start accepted) was
            ∙ ap (λ (es : List Entry). written es o.0 accepted) (sym (stored_back (map entry_in l) i));
        says_so = (refl, refl);
        moved = omega (arith, w, ap length_in o.2);
        noted_here = λ q m had holds. rw (eq-eqb i i refl)
            (put_at o.1 q m lp (subst (Has q m) o.2 had refl) (eqb q p) refl);
        noted_there = λ j q m ne. rw (ne_eqb j i ne);
      })

  pub put_result : Result n l card call (verdict_in n l call)
  unfolding table_of listed deed_in
  put_result = result-of n l card k call ends ends_so refl accepts (plain_back n l card k call _ refl (λ number. refl))
      tt
