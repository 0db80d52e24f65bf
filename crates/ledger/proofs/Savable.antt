-- Every state that a list of calls from a fresh card leaves, guided by whatever summaries, is sound (document 01, "Saved
-- image"), so that it can be saved: `every_list_sound` and `every_list_saves`.
-- Assumes nothing.
use Prim.Native.Nat.{ℕ, ◌*◌}
use mathlib.Core.Path.{◌≡◌, refl, sym, ap, subst, ◌∙◌}
use mathlib.Core.Bool.{false, true, not, ◌&&◌}
use mathlib.Core.List.{List, [], map}
use lib.Dec.{eqb}
use lib.ListN.{length}
use borrow.Author.Tests.{eq-eqb}
use Rattle.laws.proofs.Bools.{and_both}
use Rattle.catalogue_standings.specs.Limits.{shape_fits, sheets_fit}
use Rattle.catalogue_standings.specs.Rows.{accepted, first_of}
use Rattle.catalogue_standings.proofs.Openings.{skip}
use Rattle.image_soundness.specs.Scratch.{scratch_words}
use Rattle.image_soundness.specs.Sound as saved
use Rattle.image.specs.Image.{frames_for}
use Rattle.image.specs.Table.{save_fits, save_rows, save_verdict}
use Rattle.ledger.specs.Ledger.{Sheet, spare_in, after, begun}
use Rattle.ledger.specs.Claim.{entry_in}
use Rattle.card.specs.Calls.{Kept}
use Rattle.card.specs.Public.{End}
use Rattle.ledger.specs.Lists.{Made, Runs, ByAny, heard_in, heard_replies, fresh_state, saved_of}
use Rattle.ledger.proofs.Agreement.{map_in, state_of, Matches, shape_fits_lem, sheets_fit_lem}
use Rattle.ledger.proofs.Demand.{Left, left_by_any}
use Rattle.ledger.proofs.Fresh.{Limits}
use Rattle.ledger.proofs.Soundness.{kept_sound}

none_left : first_of [] ≡ accepted
unfolding first_of
none_left = refl

module _ (n : ℕ) (l : List Sheet) (card : List ℕ) (k : Matches n l card) where
  -- with a scratch of its length and a buffer of the image's length, save is accepted
  pub kept_saves : (scratchlen bufferlen : ℕ) → scratchlen ≡ scratch_words (length (map_in n l))
      → bufferlen ≡ 512 * frames_for n (length (map entry_in l))
      → save_verdict false (saved_of (state_of n l card)) scratchlen bufferlen ≡ accepted
  unfolding save_verdict save_rows save_fits
  kept_saves scratchlen bufferlen es eb =
      let fits : (shape_fits n (spare_in n l) (length (map_in n l)) && sheets_fit (length (map entry_in l))
      && eqb scratchlen (scratch_words (length (map_in n l)))) ≡ true =
      and_both _ _ (and_both _ _ (shape_fits_lem n l card k) (sheets_fit_lem n l card k))
      (eq-eqb scratchlen (scratch_words (length (map_in n l))) es) in
      skip 21 _ _ _ refl (skip 1 _ _ _ (ap not fits) (skip 4 _ _ _ (ap not (kept_sound n l card k))
      (skip 12 _ _ _ (ap not (eq-eqb bufferlen (512 * frames_for n (length (map entry_in l))) eb)) none_left)))

-- ---- after a list

module _ (n c : ℕ) (card : List ℕ) (limits : Limits n c) (room : length card ≡ 512 * n) (made : List Made) (es : List End)
    (t : Kept) (any : ByAny (fresh_state n c card) made) (runs : Runs (fresh_state n c card) made es t) where
  left : Left n (begun c) (heard_in made es) (heard_replies made es) t
  left = left_by_any n c card limits room made es t any runs

  pub every_list_sound : saved.sound (saved_of t) ≡ true
  every_list_sound =
      ap (λ (s : Kept). saved.sound (saved_of s)) left.state_left
      ∙ kept_sound n (after n (begun c) (heard_in made es)) left.card_left left.kept_left

  pub every_list_saves : (scratchlen bufferlen : ℕ) → scratchlen ≡ scratch_words (length t.map)
      → bufferlen ≡ 512 * frames_for t.shape.blocks (length t.entries)
      → save_verdict false (saved_of t) scratchlen bufferlen ≡ accepted
  every_list_saves scratchlen bufferlen =
      subst (λ (s : Kept). scratchlen ≡ scratch_words (length s.map)
      → bufferlen ≡ 512 * frames_for s.shape.blocks (length s.entries)
      → save_verdict false (saved_of s) scratchlen bufferlen ≡ accepted)
      (sym left.state_left) (kept_saves n (after n (begun c) (heard_in made es)) left.card_left
      left.kept_left scratchlen bufferlen)
