-- Close: every sheet with places gets its new start, and keeps them (document 02 (l)).
-- Assumes nothing.
use Prim.Native.Nat.{ℕ, ◌+◌, ◌*◌}
use mathlib.Core.Path.{◌≡◌, refl, sym, ap, ◌∙◌}
use mathlib.Core.Bool.{Bool, true, false, cond}
use mathlib.Core.List.{List, [], map}
use lib.ListN.{length, length-replicate}
use borrow.Author.Tests.{eq-eqb}
use Rattle.laws.proofs.Bools.{and_both}
use Rattle.catalogue_standings.specs.Rows.{Verdict, accepted, refused, first_of}
use Rattle.catalogue_standings.specs.declared.Answer.TheVariants.{Done, Refused}
use Rattle.image_soundness.specs.Scratch.{scratch_words}
use Rattle.image.specs.Table.{save_fits}
use Rattle.closing.specs.Closed.{closed_card}
use Rattle.closing.specs.Table.{close_fits}
use Rattle.closing.proofs.Closes.{verdict-0}
use Rattle.card.specs.Calls.{Kept, told}
use Rattle.card.specs.Public.{end_close}
use Rattle.card.proofs.TurnedAway.{turned_close}
use Rattle.card.specs.Closings.{close_outcome_by, close_map_by, close_entries_by, close_card_by}
use Rattle.roles.specs.Roles as roles
use Rattle.roles.specs.Roles.{turned_away}
use Rattle.card.proofs.Closings.{verdict_by, close_accepted}
use Rattle.ledger.specs.Calls.{close}
use Rattle.ledger.specs.Ledger.{Sheet, closed_in, spare_in, verdict_in, deed_in}
use Rattle.ledger.specs.Claim.{entry_in}
use Rattle.ledger.specs.Lists.{saved_of}
use Rattle.ledger.proofs.Plain.{End, ending, came, lends, end_of, scratch_of}
use Rattle.ledger.proofs.Agreement.{map_in, state_of, Matches, shape_fits_lem, sheets_fit_lem}
use Rattle.ledger.proofs.Closed.{entries_closed, map_closed, spare_closed, kept_closed, held_closed, has_closed}
use Rattle.ledger.proofs.Results as results
use Rattle.ledger.proofs.Results.{Result, result-of, plain_back}
use Rattle.ledger.proofs.Soundness.{kept_sound}

module _ (n : ℕ) (l : List Sheet) (card : List ℕ) (k : Matches n l card) (role : ℕ) where
  abbrev scratch : List ℕ
  scratch = scratch_of (state_of n l card)

  fits : close_fits n (spare_in n l) true (length (map entry_in l)) (length (map_in n l)) (length card) (length scratch) ≡ true
  unfolding close_fits save_fits
  fits =
      and_both _ _
      (and_both _ _
      (and_both _ _ (and_both _ _ (shape_fits_lem n l card k) (sheets_fit_lem n l card k))
      (eq-eqb (length scratch) (scratch_words (length (map_in n l)))
      (length-replicate (scratch_words (length (map_in n l))) 0)))
      (eq-eqb (length card) (512 * n) k.room))
      refl

  accepted_then : verdict_by false false [] (state_of n l card) scratch ≡ accepted
  accepted_then = verdict-0 false (saved_of (state_of n l card)) true (length card) (length scratch) refl fits
      (kept_sound n l card k)

  abbrev left : List ℕ
  left = closed_card (map entry_in l) card

  -- what a closing that is not turned away comes to
  abbrev closes : End
  closes =
      let s = state_of n l card in
      ending (close_outcome_by false false [] s scratch) (close_map_by false false [] s scratch)
      (close_entries_by false false [] s scratch)
      (close_card_by false false [] s scratch) []

  closes_so : closes ≡ results.end_in n l card (closed_in l) left Done []
  closes_so =
      let a = close_accepted false false [] (state_of n l card) scratch accepted_then in
      λ t. ending (told-then t) (words_then t) (sheets-then t) (a.bytes t) []
    where
      told-then : closes.outcome ≡ told (record { blocks = n; free = spare_in n (closed_in l) }) Done
      told-then =
          (close_accepted false false [] (state_of n l card) scratch accepted_then).outcome
          ∙ ap (λ (s : ℕ). told (record { blocks = n; free = s }) Done) (sym (spare_closed n l card k))

      words_then : closes.map ≡ map_in n (closed_in l)
      words_then = (close_accepted false false [] (state_of n l card) scratch accepted_then).words ∙ map_closed n l card k

      sheets-then : closes.entries ≡ map entry_in (closed_in l)
      sheets-then = (close_accepted false false [] (state_of n l card) scratch accepted_then).sheets ∙ entries_closed l

  abbrev ends : Verdict → End
  ends accepted = results.end_in n l card (closed_in l) left Done []
  ends (refused number) = results.end_in n l card l card (Refused number) []

  -- turned away or not
  ends_so : end_of (state_of n l card) (close role) ≡ ends (verdict_in n l (close role))
  unfolding first_of
  ends_so = go (turned_away role roles.close)
    where
      s : Kept
      s = state_of n l card

      go : (t : Bool) → came (end_close t false s (lends s [])) ≡ ends (cond t (refused 21) accepted)
      go true = ap came (turned_close false s (lends s []))
      go false = closes_so

  pub close_result : Result n l card (close role) (verdict_in n l (close role))
  unfolding deed_in
  close_result =
      result-of n l card k (close role) ends ends_so refl
      (λ h. record {
        card_left = left;
        answer = Done;
        ends_so = refl;
        says_so = (refl, refl);
        kept_left = kept_closed n l card k;
        sum = ap (λ (b : ℕ). b + 0) (held_closed l);
        noted_so = λ j p m was. has_closed l j p m was;
      })
      (plain_back n l card k (close role) (λ number. ends (refused number)) refl (λ number. refl)) tt
