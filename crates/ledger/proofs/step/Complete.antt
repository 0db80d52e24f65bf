-- Complete: an Open sheet without a blank place becomes Complete; with 9 goes the ledger's lowest blank place.
-- Assumes nothing.
use Prim.Native.Nat.{ℕ, ◌+◌, ◌<◌}
use mathlib.Core.Path.{◌≡◌, refl, sym, ap, subst, ◌∙◌}
use mathlib.Core.Bool.{Bool, true, false, cond, not, ◌||◌}
use mathlib.Core.List.{List, [], ◌∷◌, map}
use native.Mathlib.Omega.{arith}
use lib.Dec.{eqb, leb}
use lib.ListN.{length, get_or, set, length-map}
use borrow.Author.Tests.{leb-false, eqb-true}
use Rattle.catalogue.specs.Entries.{complete_mark, open_mark}
use Rattle.map_blocks.specs.Blocks.{all, least}
use Rattle.map_blocks.proofs.Least.{least_same}
use Rattle.map_blocks.proofs.Runs.{all_intro, all_same}
use Rattle.catalogue.specs.declared.Entry.{Entry}
use Rattle.catalogue_standings.specs.Answers.{number_of, values_of}
use Rattle.catalogue_standings.specs.Rows.{Row, Verdict, accepted, refused, settle}
use Rattle.catalogue_standings.specs.Searches.{start_at}
use Rattle.catalogue_standings.specs.Standings.{length_of}
use Rattle.catalogue_standings.specs.declared.Standing.{Standing}
use Rattle.catalogue_standings.specs.declared.Answer.{Answer}
use Rattle.catalogue_standings.specs.declared.Answer.TheVariants as answers
use Rattle.catalogue_standings.specs.declared.Answer.TheVariants.{Done, Refused}
use Rattle.refusals.specs.Lent.{called_by, lent}
use Rattle.refusals.specs.Effects as effects
use Rattle.refusals.specs.Effects.{entry_of, out_of}
use Rattle.refusals.specs.Table.{complete, rows_for, lowest_blank, table_of}
use Rattle.refusals.specs.Views.{view_on}
use Rattle.catalogue_standings.proofs.Rows.{clear, same_number}
use Rattle.ledger.specs.Calls.{Call, on, turned_in}
use Rattle.ledger.specs.Ledger.{Place, Blank, Sheet, Complete, length_in, is_blank, bytes_of, sheet_at, place_at}
use Rattle.ledger.specs.Ledger.{spare_in, view_in, complete_in, listed, rows_in, verdict_in, deed_in}
use Rattle.ledger.specs.Claim.{entry_in}
use Rattle.ledger.proofs.Plain.{End, end_of}
use Rattle.ledger.proofs.Agreement.{map_in, state_of, Matches, NeverRows, OwnPlaces, on-card, blank-same}
use Rattle.ledger.proofs.Wings.{entry_at_lem}
use Rattle.ledger.proofs.Agreement.{stands_same, verdict-on}
use Rattle.ledger.proofs.Keeping.{keep-complete}
use Rattle.ledger.proofs.Listed.{full, or_not, beyond_in, turned_in_lem}
use Rattle.ledger.proofs.Results as results
use Rattle.ledger.proofs.Results.{Result, Back, outEnd, stored-again, one-sheet, result-of}
use Rattle.ledger.proofs.Sheets.{was_open, Has}

module _ (n : ℕ) (l : List Sheet) (card : List ℕ) (k : Matches n l card) (role i : ℕ) where
  abbrev call : Call
  call = on role i complete

  abbrev rows : List Row
  rows = rows_in n l call

  abbrev e : Entry
  e = results.e n l card k i

  abbrev turns : Bool
  turns = turned_in role complete

  own : OwnPlaces n l role i complete
  unfolding rows_for
  own x y alike =
      let m : ℕ = length_in (sheet_at l i) in
      let either : all (λ p. x.blank p || x.sound p) 0 m ≡ all (λ p. y.blank p || y.sound p) 0 m =
      all_same (λ p. x.blank p || x.sound p) (λ p. y.blank p || y.sound p) 0 0 m
      (λ j h. ap (λ (t : Bool). t || x.sound (0 + j)) (alike.blank (0 + j) (omega arith))
      ∙ ap (λ (t : Bool). y.blank (0 + j) || t) (alike.sound (0 + j) (omega arith))) in
      let each : all (λ p. not (x.blank p)) 0 m ≡ all (λ p. not (y.blank p)) 0 m =
      all_same (λ p. not (x.blank p)) (λ p. not (y.blank p)) 0 0 m (λ j h. ap not (alike.blank (0 + j) (omega arith))) in
      rw (either, each)

  never : NeverRows n l card k role i complete
  unfolding rows_for
  never = (λ h. ap not (all_intro _ 0 (length_in (sheet_at l i)) (λ p a b. or_not (is_blank (place_at l i p)))), tt)

  -- the place that goes with 9
  abbrev given : ℕ
  given = effects.blank_place (called_by turns (lent n (spare_in n l) (map_in n l) card (length (map entry_in l)) e i))

  abbrev answer : ℕ → Answer
  answer number = cond (eqb number 9) (answers.Blank given) (Refused number)

  -- where the entry becomes this one
  abbrev stored : Entry → Verdict → End
  stored entry v =
      outEnd n l card k i (settle v (out_of (spare_in n l) entry Done) (λ number. out_of (spare_in n l) e (answer number)))
      (map_in n l) card

  abbrev ends : Verdict → End
  ends = stored (entry_of complete_mark e.start e.length)

  verdict : effects.complete_verdict (called_by turns (lent n (spare_in n l) (map_in n l) card (length (map entry_in l)) e i))
      ≡ verdict_in n l call
  unfolding effects.complete_verdict
  verdict = verdict-on n l card k role i complete own never

  ends_so : end_of (state_of n l card) call ≡ ends (verdict_in n l call)
  unfolding effects.complete_out
  ends_so = ap ends verdict

  accepts : verdict_in n l call ≡ accepted → results.Done n l card call (ends accepted)
  unfolding table_of listed deed_in
  accepts h =
      let lt : i < length l = leb-false (length l) i (clear 2 rows h).0 in
      let o = was_open (sheet_at l i) (clear 5 rows h).0 (clear 6 rows h).0 (clear 8 rows h).0 in
      let filled = full l i o.0 o.1 o.2 (clear 9 rows h).0 in
      let w : length (map bytes_of o.1) ≡ length o.1 = length-map o.1 bytes_of in
      let was : e ≡ entry_of open_mark o.0 (length o.1) = entry_at_lem l i lt ∙ ap entry_in o.2 in
      one-sheet n l card k role i complete (ends accepted) (record {
        inside = lt;
        sheet = Complete o.0 (map bytes_of o.1);
        becomes = ap (λ (y : Sheet). set l i (complete_in y)) o.2;
        spare = spare_in n l;
        marks = map_in n l;
        card_left = card;
        entry = entry_of complete_mark o.0 (length o.1);
        answer = Done;
        changed = keep-complete n l card k i lt o.0 o.1 o.2 filled;
        stored = ap (entry_of complete_mark o.0) (sym w);
        ends_so = ap (λ (y : Entry). stored (entry_of complete_mark y.start y.length) accepted) was;
        says_so = (refl, refl);
        moved = omega (arith, w, ap length_in o.2);
        noted_here = λ p m had holds. ap (λ (ps : List Place). get_or ps p Blank) filled ∙ subst (Has p m) o.2 had refl;
        noted_there = λ j p m ne. refl;
      })

  -- the place given is the ledger's
  given_same : verdict_in n l call ≡ refused 9 → given ≡ lowest_blank (view_in n l i)
  unfolding effects.blank_place lowest_blank view_on
  given_same nine =
      ap (λ (s : Standing). start_at (least (on-card n l card k turns i).blank 0 (length_of s)))
      (stands_same n l card k turns i lt)
      ∙ ap start_at (least_same (on-card n l card k turns i).blank (λ p. is_blank (place_at l i p)) 0 (length_in (sheet_at l i))
      (λ p low high. blank-same n l card k turns i lt p (omega arith)))
    where
      in_list : (t : Bool) → leb (length l) i ≡ t → i < length l
      in_list true out = absurd (go turns refl)
        where
          go : (t : Bool) → turns ≡ t → ⊥
          go true e = let q : ◌≡◌ {A = ℕ} 21 9 = same_number 21 9 (sym (turned_in_lem n l role i complete e) ∙ nine) in omega
              arith
          go false e = let q : ◌≡◌ {A = ℕ} 2 9 = same_number 2 9
              (sym (beyond_in n l role i complete e out) ∙ nine) in omega arith
      in_list false q = leb-false (length l) i q

      lt : i < length l
      lt = in_list (leb (length l) i) refl

  refuses : Back n l card call (λ number. ends (refused number))
  unfolding deed_in
  refuses = record {
    answer = answer;
    ends_so = λ number. stored-again n l card k i (answer number);
    says_so = λ number h. with-place number h (eqb number 9) refl;
  }
    where
      with-place : (number : ℕ) → verdict_in n l call ≡ refused number → (t : Bool) → eqb number 9 ≡ t
          → (number_of (answer number) ≡ number)
          × (values_of (answer number) ≡ cond (eqb number 9) (lowest_blank (view_in n l i) ∷ []) [])
      with-place number h true q =
          let nine : number ≡ 9 = eqb-true number 9 q in
          rw (q) (sym nine, ap (λ (p : ℕ). p ∷ []) (given_same (h ∙ ap refused nine)))
      with-place number h false q = rw (q) (refl, refl)

  pub complete_result : Result n l card call (verdict_in n l call)
  unfolding table_of listed deed_in
  complete_result = result-of n l card k call ends ends_so refl accepts refuses tt
