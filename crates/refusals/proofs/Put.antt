-- What the rows of put and its effects say: the verdict in each case, and what the call then hands back and leaves.
-- Assumes nothing.
use Rattle.std.specs.Prelude.{Result, Ok, Err}
use Rattle.catalogue_standings.specs.Refusals.{number}
use Rattle.catalogue_standings.specs.declared.Refusal.{Refusal}
use mathlib.Core.Path.{◌≡◌, refl, sym, ap, ◌∙◌, subst}
use mathlib.Core.List.{List, [], ◌∷◌}
use Prim.Native.Nat.{ℕ, ◌+◌, ◌*◌, ◌<◌, ◌≤◌}
use lib.ListN.{length}
use Rattle.blocks_of_card.specs.Card.{with_block}
use Rattle.block_seals.specs.Sealed.{sealed}
use Rattle.map_blocks.specs.Blocks.{free}
use Rattle.refusals.specs.Lent.{Lent}
use Rattle.refusals.specs.Effects.{put_verdict, put_answer, put_card}
use Rattle.catalogue_standings.specs.Openings.{row_of}
use Rattle.catalogue_standings.specs.Rows.{row, Verdict, accepted, refused, first_of, settle}
use Rattle.catalogue_standings.specs.Standings.{standing_of, length_of}
use Rattle.refusals.specs.Table.{table_of}
use Rattle.refusals.specs.Views.{view_on}
use Rattle.catalogue_standings.specs.declared.Answer.{Answer}
use Rattle.catalogue_standings.specs.declared.Answer.TheVariants.{Done, Refused}
use Rattle.catalogue_standings.specs.declared.Standing.{Standing}
use Rattle.catalogue_standings.specs.declared.Standing.TheVariants.{Open}
use Rattle.catalogue_standings.proofs.Limits.{CardFits}
use Rattle.catalogue_standings.proofs.Openings.{skip, stop, closed, opened, not_open, is_open_lem, none_left, Extent}
use Rattle.catalogue_standings.proofs.Openings.{open_extent}
use Rattle.catalogue_standings.proofs.Openings.{NotOpen}
use Rattle.refusals.proofs.Lent as lent-laws
use Rattle.refusals.proofs.Places.{Misplaced, beyond, unsized, placed, block-number, block-bytes}

module _ (q : Lent) (place : ℕ) (payload : List ℕ) where
  abbrev pub verdict : Verdict
  verdict = put_verdict q place payload

  abbrev pub written : List ℕ
  written = with_block q.card (q.entry.start + place) (sealed q.sheet place payload)

  -- what is answered and what the card becomes, after a verdict
  pub out : (v : Verdict) → verdict ≡ v → (r : Answer) (after : List ℕ) → r ≡ settle v Done Refused
      → after ≡ settle v written (λ number. q.card)
      → (r ≡ put_answer q place payload) × (after ≡ put_card q place payload)
  unfolding put_answer put_card
  out v h r after made left = (
    made ∙ ap (λ (w : Verdict). settle w Done Refused) (sym h),
    left
        ∙ ap (λ (w : Verdict). settle w written (λ number. q.card)) (sym h),
  )

  abbrev pub stands : Standing
  stands = standing_of q.n (free q.map) q.entry

  abbrev pub first : Result Standing Refusal
  first = lent-laws.first q

  pub shut : {o : Result Standing Refusal} (why : Refusal) → o ≡ first → o ≡ Err why → verdict ≡ refused (number why)
  unfolding put_verdict view_on table_of
  shut why given told = closed _ _ _ _ _ _ why (sym given ∙ told)

  pub other : {o : Result Standing Refusal} (s : Standing) → o ≡ first → o ≡ Ok s → NotOpen s
      → verdict ≡ refused (row_of s)
  unfolding put_verdict view_on table_of
  other s given told differs =
      let x = opened _ _ _ _ _ s _ (sym given ∙ told) in
      x.verdict
      ∙ not_open stands _ (subst NotOpen (sym x.same) differs) x.whole
      ∙ ap (λ (t : Standing). refused (row_of t)) x.same

  module _ (start blocks : ℕ) {o : Result Standing Refusal} (given : o ≡ first) (told : o ≡ Ok (Open start blocks)) where
    pub limits : CardFits q.n q.spare (length q.map) (length q.card)
    limits = lent-laws.sized q (lent-laws.opens q (Open start blocks) [] (sym given ∙ told)).all_fits_lem

    pub extent : Extent q.n (free q.map) q.entry start blocks
    extent = open_extent q.n (free q.map) q.entry start blocks
        (lent-laws.opens q (Open start blocks) [] (sym given ∙ told)).same

    pub same_block : with_block q.card (start + place) (sealed q.sheet place payload) ≡ written
    same_block = ap (λ (s : ℕ). with_block q.card (s + place) (sealed q.sheet place payload)) (sym extent.starts)

    -- an Open sheet comes to row 3
    pub reached : verdict ≡ first_of (row 3 (Misplaced blocks place (length payload)) ∷ [])
    unfolding put_verdict view_on table_of
    reached =
        let x = opened _ _ _ _ _ (Open start blocks) _ (sym given ∙ told) in
        x.verdict
        ∙ is_open_lem stands start blocks _ x.same
        ∙ ap (λ (s : Standing). first_of (row 3 (Misplaced (length_of s) place (length payload)) ∷ [])) x.same

    pub past_end : blocks ≤ place → verdict ≡ refused 3
    past_end b = reached ∙ stop 3 _ [] (beyond blocks place (length payload) b)

    module _ (listed : place < blocks) where
      pub misfit : (length payload ≡ 496 → ⊥) → verdict ≡ refused 3
      misfit d = reached ∙ stop 3 _ [] (unsized blocks place (length payload) listed d)

      pub passes : length payload ≡ 496 → verdict ≡ accepted
      passes d = reached ∙ skip 3 _ [] accepted (placed blocks place (length payload) listed d) none_left

      pub done : length payload ≡ 496 → (after : List ℕ)
          → after ≡ with_block q.card (start + place) (sealed q.sheet place payload)
          → (Done ≡ put_answer q place payload) × (after ≡ put_card q place payload)
      done d after w = out accepted (passes d) Done after refl (w ∙ same_block)

      pub number_fits : start + place < 262144
      number_fits = block-number limits extent listed

      pub in-card : 512 * (start + place) + 512 ≤ length q.card
      in-card = block-bytes limits extent listed
