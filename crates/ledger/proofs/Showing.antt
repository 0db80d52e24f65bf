-- What show and the dated show share: of a Complete sheet, a place's payload goes to the buffer, and nothing changes.
-- Assumes nothing.
use Prim.Native.Nat.{ℕ, ◌+◌, ◌≤◌, ◌<◌}
use mathlib.Core.Path.{◌≡◌, refl, ap, subst, ◌∙◌}
use mathlib.Core.Bool.{Bool, false, not}
use mathlib.Core.List.{List, [], map}
use native.Mathlib.Omega.{arith}
use lib.ListN.{length, get_or}
use borrow.Author.Tests.{leb-false}
use Rattle.blocks_of_card.specs.Card.{block_of}
use Rattle.block_seals.specs.Sealed.{payload_of}
use Rattle.catalogue.specs.declared.Entry.{Entry}
use Rattle.catalogue_standings.specs.Standings.{is_absent, is_paused, is_open}
use Rattle.catalogue_standings.specs.Rows.{Verdict, accepted, settle}
use Rattle.catalogue_standings.specs.declared.Answer.TheVariants.{Done, Refused}
use Rattle.refusals.specs.Table as table
use Rattle.refusals.specs.Table.{Ask, misplaced, table_of, verdict_of}
use Rattle.catalogue_standings.proofs.Rows.{clear, says}
use Rattle.card.specs.Calls.{told}
use Rattle.ledger.specs.Calls.{Call, on, turned_in}
use Rattle.ledger.specs.Ledger.{Blank, Sheet, standing_in, length_in, places_in, is_blank, bytes_of, sheet_at, place_at}
use Rattle.ledger.specs.Ledger.{spare_in}
use Rattle.ledger.specs.Ledger.{view_in, listed, rows_in, verdict_in, Unnoted, Deed, leaves, ◌and◌, fills, deed_in}
use Rattle.ledger.specs.Claim.{entry_in, note_of}
use Rattle.ledger.proofs.Plain.{End, ending, end_of}
use Rattle.ledger.proofs.Agreement.{map_in, state_of, Matches, NeverRows, OwnPlaces, on-card, verdict-on, payload_block}
use Rattle.ledger.proofs.Wings.{entry_at_lem}
use Rattle.laws.proofs.Bools.{neither_left}
use Rattle.ledger.proofs.Results as results
use Rattle.ledger.proofs.Results.{Result, plain_back, no_change, result-of}
use Rattle.ledger.proofs.Sheets.{was_complete, payload_at}

module _ (n : ℕ) (l : List Sheet) (i p : ℕ) (buffer : List ℕ) where
  abbrev pub misses : Bool
  misses = misplaced (view_in n l i) p buffer

  -- where row 3 does not hold, the sheet has the place, and those before it
  pub inside : misses ≡ false → (q : ℕ) → q ≤ p → q < length_in (sheet_at l i)
  inside h q le = omega (arith, leb-false (length_in (sheet_at l i)) p (neither_left _ _ h))

  -- where rows 5 to 7 and 3 do not hold, the sheet is Complete, and these places are filled
  abbrev pub Passed : Type 0
  Passed = (is_absent (standing_in (sheet_at l i)) ≡ false) × (is_paused (standing_in (sheet_at l i)) ≡ false)
      × (is_open (standing_in (sheet_at l i)) ≡ false) × (misses ≡ false)

  filled : Passed → (q : ℕ) → q ≤ p → is_blank (place_at l i q) ≡ false
  filled h q le =
      let o = was_complete (sheet_at l i) h.0 h.1 h.2 in
      ap (λ (y : Sheet). is_blank (get_or (places_in y) q Blank)) o.2
      ∙ payload_at o.1 q (subst (λ (y : Sheet). q < length_in y) o.2 (inside h.3 q le))

  -- so that no row 4 for their blocks holds
  pub sound_there : Passed → (q : ℕ) → q ≤ p → not ((view_in n l i).sound q) ≡ false
  sound_there h q le = ap (λ (t : Bool). not (not t)) (filled h q le)

module _ (n : ℕ) (l : List Sheet) (card : List ℕ) (k : Matches n l card) (role i p : ℕ) (buffer : List ℕ) (a : Ask) where
  abbrev call : Call
  call = on role i a

  -- where these bytes go to the buffer
  abbrev filling : List ℕ → Verdict → End
  filling bytes v =
      ending (told (record { blocks = n; free = spare_in n l }) (settle v Done Refused)) (map_in n l) (map entry_in l) card
      (settle v bytes (λ number. buffer))

  -- where the sheet starts there
  abbrev showing : ℕ → Verdict → End
  showing start = filling (payload_of (block_of card (start + p)))

  abbrev ends : Verdict → End
  ends = showing (results.e n l card k i).start

  -- what is the call's own: it fills its buffer with the place, and changes nothing
  pub record ShowsPlace : Type 0 where
    pub ends_so : end_of (state_of n l card) call ≡ ends (verdict_of (on-card n l card k (turned_in role a) i) (table.on i a))
    pub own : OwnPlaces n l role i a
    pub never : NeverRows n l card k role i a
    pub no_row_0 : says 0 (rows_in n l call) ≡ false
    pub no_row_9 : says 9 (rows_in n l call) ≡ false
    -- it does so in every ledger: what is noted of a call is read in the one without sheets
    pub does : (n : ℕ) (l : List Sheet) → deed_in n l call ≡ leaves l and fills buffer (bytes_of (place_at l i p))
    pub passed : verdict_in n l call ≡ accepted → Passed n l i p buffer

  accepts : ShowsPlace → verdict_in n l call ≡ accepted → results.Done n l card call (ends accepted)
  unfolding table_of listed
  accepts s h =
      let lt : i < length l = leb-false (length l) i (clear 2 (rows_in n l call) h).0 in
      let lp : p < length_in (sheet_at l i) = inside n l i p buffer (s.passed h).3 p (omega arith) in
      let full = filled n l i p buffer (s.passed h) p (omega arith) in
      let unnoted : note_of call ≡ Unnoted = ap (λ (d : Deed). d.note) (s.does 0 []) in
      no_change n l card k call (ends accepted) Done (rw (s.does n l)) (rw (s.does n l)) (λ j q m. rw unnoted)
      (rw (s.does n l) (ap (λ (e : Entry). showing e.start accepted) (entry_at_lem l i lt)
      ∙ ap (λ (bytes : List ℕ). filling (payload_of bytes) accepted) (k.blocks i p lp)
      ∙ ap (λ (bytes : List ℕ). filling bytes accepted) (payload_block i p (place_at l i p) full ((k.sound.fine i).sized p))))
      (rw (s.does n l) (refl, refl))

  pub shows_place : ShowsPlace → Result n l card call (verdict_in n l call)
  shows_place s =
      result-of n l card k call ends (s.ends_so ∙ ap ends (verdict-on n l card k role i a s.own s.never)) s.no_row_0
      (accepts s) (plain_back n l card k call _ s.no_row_9 (λ number. rw (s.does n l))) (rw (s.does n l) tt)
