-- What a dated show reads of the card: of two cards that agree in the blocks of Complete sheets it is the same.
-- Assumes nothing.
use Prim.Native.Nat.{ℕ, ◌+◌, ◌*◌, ◌<◌}
use mathlib.Core.Path.{◌≡◌, refl, sym, ap, subst, ◌∙◌}
use mathlib.Core.Bool.{Bool, false, not, ◌&&◌}
use mathlib.Core.List.{List, []}
use native.Mathlib.Nat.{add-zero}
use native.Mathlib.Omega.{arith}
use lib.Dec.{leb, eqb}
use lib.ListN.{length}
use borrow.Author.Tests.{leb-false}
use Rattle.calendar.specs.Calendar.{Date}
use Rattle.calendar.specs.Term.{term_of}
use Rattle.map_blocks.specs.Blocks.{free}
use Rattle.blocks_of_card.specs.Card.{block_of}
use Rattle.blocks_of_card.proofs.Card.{other_block, length_with_block}
use Rattle.block_seals.specs.Sealed.{sound, payload_of}
use Rattle.catalogue.specs.Entries.{entry_at}
use Rattle.catalogue_standings.specs.Limits.{shape_fits, sheets_fit}
use Rattle.catalogue_standings.specs.declared.Answer.TheVariants.{Done, Refused}
use Rattle.catalogue_standings.specs.declared.Standing.TheVariants.{Complete}
use Rattle.catalogue_standings.proofs.Openings.{complete_extent}
use Rattle.refusals.specs.Effects as effects
use Rattle.refusals.specs.Guides.{guide_fits}
use Rattle.refusals.specs.Table.{table_of, rows_for}
use Rattle.refusals.specs.Views.{view_on}
use Rattle.card.specs.Calls.{Kept, lent_to}
use Rattle.role_lists.specs.Carers.{stands, AgreeInBlocks, OtherBlocksMayDiffer}
use Rattle.role_lists.proofs.Verdicts.{Seen, dated, comes, only_complete}

-- ---- what a dated show reads of the card

module _ (turned : Bool) (s : Kept) (sheet place : ℕ) (date : Date) where
  -- row 1
  misfit_with : ℕ → Bool
  misfit_with cardlen =
      not (guide_fits false [] (length s.map) && (shape_fits s.shape.blocks s.shape.free (length s.map)
      && sheets_fit (length s.entries) && eqb cardlen (512 * s.shape.blocks)))

  abbrev start : ℕ
  start = (entry_at s.entries sheet).start

  -- what its blocks tell, the call being done with what `done` makes of the block of the place; place 0 lies at the start
  abbrev seen_in : {A : Type 0} → (List ℕ → A) → List ℕ → List ℕ → List ℕ → Seen A
  seen_in done zeroth first wanted = record {
    first = sound sheet 0 zeroth;
    term = term_of (payload_of first);
    wanted = sound sheet place wanted;
    done = done wanted;
  }

  abbrev seen_on : {A : Type 0} → (List ℕ → A) → List ℕ → Seen A
  seen_on done card = seen_in done (block_of card (start + 0)) (block_of card start) (block_of card (start + place))

  module _ (card : List ℕ) (buffer : List ℕ) where
    answer-comes : effects.show_dated_answer (lent_to turned s card sheet) place date buffer
        ≡ comes Refused (dated date) place (length buffer) turned (misfit_with (length card)) (leb (length s.entries) sheet)
        (stands s sheet)
        (seen_on (λ block. Done) card)
    unfolding effects.show_dated_answer effects.show_dated_verdict table_of rows_for view_on comes misfit_with
    answer-comes = refl

    buffer-comes : effects.show_dated_buffer (lent_to turned s card sheet) place date buffer
        ≡ comes (λ number. buffer) (dated date) place (length buffer) turned (misfit_with (length card))
        (leb (length s.entries) sheet)
        (stands s sheet) (seen_on payload_of card)
    unfolding effects.show_dated_buffer effects.show_dated_verdict table_of rows_for view_on comes misfit_with
    buffer-comes = refl

  -- ---- two cards that agree

  module _ (card other : List ℕ) (lengths : length card ≡ length other) (blocks : AgreeInBlocks s card other) where
    -- the blocks of a Complete sheet are those from its entry's start on
    at_place : (from count : ℕ) → sheet < length s.entries → stands s sheet ≡ Complete from count → (p : ℕ) → p < count
        → block_of card (start + p) ≡ block_of other (start + p)
    at_place from count listed h p inside =
        subst (λ (x : ℕ). block_of card (x + p) ≡ block_of other (x + p))
        (sym (complete_extent s.shape.blocks (free s.map) (entry_at s.entries sheet) from count h).starts)
        (blocks sheet from count listed h p inside)

    module _ {A : Type 0} (done : List ℕ → A) where
      same_seen : (from count : ℕ) → leb (length s.entries) sheet ≡ false → stands s sheet ≡ Complete from count
          → place < count → seen_on done card ≡ seen_on done other
      same_seen from count below h inside =
          let listed : sheet < length s.entries = leb-false (length s.entries) sheet below in
          let zeroth : block_of card (start + 0) ≡ block_of other (start + 0) =
          at_place from count listed h 0 (omega arith) in
          let first : block_of card start ≡ block_of other start =
          subst (λ (x : ℕ). block_of card x ≡ block_of other x) (add-zero start) zeroth in
          let wanted : block_of card (start + place) ≡ block_of other (start + place) =
          at_place from count listed h place inside in
          ap (λ (x : List ℕ). seen_in done x (block_of card start) (block_of card (start + place))) zeroth
          ∙ ap (λ (x : List ℕ). seen_in done (block_of other (start + 0)) x (block_of card (start + place))) first
          ∙ ap (seen_in done (block_of other (start + 0)) (block_of other start)) wanted

      module _ (refusal : ℕ → A) where
        abbrev comesIn : ℕ → ℕ → Seen A → A
        comesIn bytes cardlen seen =
            comes refusal (dated date) place bytes turned (misfit_with cardlen) (leb (length s.entries) sheet)
            (stands s sheet) seen

        comes-same : (m n : ℕ) → m ≡ n
            → comesIn m (length card) (seen_on done card) ≡ comesIn n (length other) (seen_on done other)
        comes-same m n e =
            ap (λ (x : ℕ). comesIn x (length card) (seen_on done card)) e
            ∙ ap (λ (x : ℕ). comesIn n x (seen_on done card)) lengths
            ∙ only_complete refusal (dated date) place n (seen_on done card) (seen_on done other) turned
            (misfit_with (length other))
            (leb (length s.entries) sheet) (stands s sheet) same_seen

    pub same_answer : (a b : List ℕ) → length a ≡ length b
        → effects.show_dated_answer (lent_to turned s card sheet) place date a
        ≡ effects.show_dated_answer (lent_to turned s other sheet) place date b
    same_answer a b e =
        answer-comes card a ∙ comes-same (λ block. Done) Refused (length a) (length b) e ∙ sym (answer-comes other b)

    pub same-buffer : (a : List ℕ)
        → effects.show_dated_buffer (lent_to turned s card sheet) place date a
        ≡ effects.show_dated_buffer (lent_to turned s other sheet) place date a
    same-buffer a =
        buffer-comes card a ∙ comes-same payload_of (λ number. a) (length a) (length a) refl ∙ sym (buffer-comes other a)

-- ---- and any other block may differ

pub other_blocks_may_differ : OtherBlocksMayDiffer
other_blocks_may_differ s b bytes whole inside unheld = record {
  lengths = sym (length_with_block s.card bytes b inside whole);
  shapes = refl;
  maps = refl;
  catalogues = refl;
  blocks = λ sheet start count listed h place below.
      sym (other_block s.card bytes b inside whole (start + place)
      (λ e. unheld sheet start count listed h (omega (arith, e)) (omega (arith, e, below))));
}
