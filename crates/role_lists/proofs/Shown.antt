-- What a show and a dated show answer of a sheet that stands Complete, where the sheet has moved with its blocks: the same.
-- Assumes nothing.
use Prim.Native.Nat.{ℕ, ◌+◌, ◌*◌, ◌<◌}
use mathlib.Core.Path.{◌≡◌, refl, sym, ap, ◌∙◌}
use mathlib.Core.Bool.{Bool, false, not, ◌&&◌}
use mathlib.Core.List.{List, []}
use native.Mathlib.Nat.{add-zero}
use native.Mathlib.Omega.{arith}
use lib.Dec.{leb, eqb}
use lib.ListN.{length}
use Rattle.calendar.specs.Calendar.{Date}
use Rattle.calendar.specs.Term.{Term, term_of}
use Rattle.blocks_of_card.specs.Card.{block_of}
use Rattle.block_seals.specs.Sealed.{sound, payload_of}
use Rattle.catalogue.specs.Entries.{entry_at}
use Rattle.catalogue_standings.specs.Limits.{shape_fits, sheets_fit}
use Rattle.catalogue_standings.specs.Rows.{Row}
use Rattle.catalogue_standings.specs.declared.Answer.TheVariants.{Done, Refused}
use Rattle.catalogue_standings.specs.declared.Standing.{Standing}
use Rattle.catalogue_standings.specs.declared.Standing.TheVariants.{Complete}
use Rattle.refusals.specs.Effects as effects
use Rattle.refusals.specs.Guides.{guide_fits}
use Rattle.refusals.specs.Table.{table_of, rows_for}
use Rattle.refusals.specs.Views.{view_on}
use Rattle.card.specs.Calls.{Kept, lent_to, told, show_outcome, show_buffer, show_dated_outcome, show_dated_buffer}
use Rattle.card.specs.declared.Shape.{Shape}
use Rattle.role_lists.specs.Carers.{stands}
use Rattle.role_lists.proofs.Verdicts.{Seen, undated, dated, comes, moved}

-- ---- two states

abbrev misfit_with : Shape → ℕ → ℕ → ℕ → Bool
misfit_with shape words sheets bytes =
    not (guide_fits false [] words && (shape_fits shape.blocks shape.free words && sheets_fit sheets
    && eqb bytes (512 * shape.blocks)))

abbrev misfit_of : Kept → Bool
misfit_of k = misfit_with k.shape (length k.map) (length k.entries) (length k.card)

abbrev start_at : Kept → ℕ → ℕ
start_at k sheet = (entry_at k.entries sheet).start

-- The sheet stands Complete in both, with the same blocks; all else that a show reads is the same.
pub record Moved (s u : Kept) (sheet start then count : ℕ) : Type 0 where
  pub shapes : u.shape ≡ s.shape
  pub words : length u.map ≡ length s.map
  pub sheets : length u.entries ≡ length s.entries
  pub bytes : length u.card ≡ length s.card
  pub before : stands s sheet ≡ Complete start count
  pub afterwards : stands u sheet ≡ Complete then count
  pub blocks : (p : ℕ) → p < count → block_of u.card (start_at u sheet + p) ≡ block_of s.card (start_at s sheet + p)

module _ (turned : Bool) (s u : Kept) (sheet start then count : ℕ) (m : Moved s u sheet start then count) where
  misfit_same : misfit_of u ≡ misfit_of s
  misfit_same =
      ap (λ (x : Shape). misfit_with x (length u.map) (length u.entries) (length u.card)) m.shapes
      ∙ ap (λ (x : ℕ). misfit_with s.shape x (length u.entries) (length u.card)) m.words
      ∙ ap (λ (x : ℕ). misfit_with s.shape (length s.map) x (length u.card)) m.sheets
      ∙ ap (λ (x : ℕ). misfit_with s.shape (length s.map) (length s.entries) x) m.bytes

  module _ {A : Type 0} (refusal : ℕ → A) (done : List ℕ → A) (rest : Bool → Term → Bool → List Row) (place bytes : ℕ) where
    abbrev seen_in : List ℕ → List ℕ → List ℕ → Seen A
    seen_in zeroth first wanted = record {
      first = sound sheet 0 zeroth;
      term = term_of (payload_of first);
      wanted = sound sheet place wanted;
      done = done wanted;
    }

    abbrev seen_at : Kept → Seen A
    seen_at k =
        seen_in (block_of k.card (start_at k sheet + 0)) (block_of k.card (start_at k sheet))
        (block_of k.card (start_at k sheet + place))

    same_seen : place < count → seen_at u ≡ seen_at s
    same_seen inside =
        let zeroth = m.blocks 0 (omega arith) in
        let wanted = m.blocks place inside in
        let first : block_of u.card (start_at u sheet) ≡ block_of s.card (start_at s sheet) =
        ap (block_of u.card) (sym (add-zero (start_at u sheet))) ∙ zeroth
        ∙ ap (block_of s.card) (add-zero (start_at s sheet)) in
        ap (λ (x : List ℕ). seen_in x (block_of u.card (start_at u sheet)) (block_of u.card (start_at u sheet + place))) zeroth
        ∙ ap (λ (x : List ℕ). seen_in (block_of s.card (start_at s sheet + 0)) x (block_of u.card (start_at u sheet + place)))
        first
        ∙ ap (seen_in (block_of s.card (start_at s sheet + 0)) (block_of s.card (start_at s sheet))) wanted

    abbrev comesIn : Kept → A
    comesIn k = comes refusal rest place bytes turned (misfit_of k) (leb (length k.entries) sheet) (stands k sheet) (seen_at k)

    same : comesIn u ≡ comesIn s
    same =
        ap (λ (x : Bool). comes refusal rest place bytes turned x (leb (length u.entries) sheet) (stands u sheet) (seen_at u))
        misfit_same
        ∙ ap (λ (x : ℕ). comes refusal rest place bytes turned (misfit_of s) (leb x sheet) (stands u sheet) (seen_at u))
        m.sheets
        ∙ ap (λ (x : Standing). comes refusal rest place bytes turned (misfit_of s) (leb (length s.entries) sheet) x
        (seen_at u))
        m.afterwards
        ∙ moved refusal rest place bytes (seen_at u) (seen_at s) count same_seen turned (misfit_of s)
        (leb (length s.entries) sheet)
        then start
        ∙ ap (λ (x : Standing). comes refusal rest place bytes turned (misfit_of s) (leb (length s.entries) sheet) x
        (seen_at s))
        (sym m.before)

  -- ---- show

  module _ (place : ℕ) (buffer : List ℕ) where
    answer-comes : (k : Kept) → effects.show_answer (lent_to turned k k.card sheet) place buffer
        ≡ comesIn Refused (λ block. Done) undated place (length buffer) k
    unfolding effects.show_answer effects.show_verdict table_of rows_for view_on comes
    answer-comes k = refl

    buffer-comes : (k : Kept) → effects.show_buffer (lent_to turned k k.card sheet) place buffer
        ≡ comesIn (λ number. buffer) payload_of undated place (length buffer) k
    unfolding effects.show_buffer effects.show_verdict table_of rows_for view_on comes
    buffer-comes k = refl

    pub show-same : show_outcome turned u sheet place buffer ≡ show_outcome turned s sheet place buffer
    show-same =
        ap (λ (x : Shape). told x (effects.show_answer (lent_to turned u u.card sheet) place buffer)) m.shapes
        ∙ ap (told s.shape) (answer-comes u ∙ same Refused (λ block. Done) undated place (length buffer)
        ∙ sym (answer-comes s))

    pub show-buffer-same : show_buffer turned u sheet place buffer ≡ show_buffer turned s sheet place buffer
    show-buffer-same =
        buffer-comes u ∙ same (λ number. buffer) payload_of undated place (length buffer) ∙ sym (buffer-comes s)

  -- ---- the dated show

  module _ (place : ℕ) (date : Date) (buffer : List ℕ) where
    dated-answer-comes : (k : Kept) → effects.show_dated_answer (lent_to turned k k.card sheet) place date buffer
        ≡ comesIn Refused (λ block. Done) (dated date) place (length buffer) k
    unfolding effects.show_dated_answer effects.show_dated_verdict table_of rows_for view_on comes
    dated-answer-comes k = refl

    dated-buffer-comes : (k : Kept) → effects.show_dated_buffer (lent_to turned k k.card sheet) place date buffer
        ≡ comesIn (λ number. buffer) payload_of (dated date) place (length buffer) k
    unfolding effects.show_dated_buffer effects.show_dated_verdict table_of rows_for view_on comes
    dated-buffer-comes k = refl

    pub dated-same : show_dated_outcome turned u sheet place date buffer ≡ show_dated_outcome turned s sheet place date buffer
    dated-same =
        ap (λ (x : Shape). told x (effects.show_dated_answer (lent_to turned u u.card sheet) place date buffer)) m.shapes
        ∙ ap (told s.shape) (dated-answer-comes u ∙ same Refused (λ block. Done) (dated date) place (length buffer)
        ∙ sym (dated-answer-comes s))

    pub dated-buffer-same : show_dated_buffer turned u sheet place date buffer
        ≡ show_dated_buffer turned s sheet place date buffer
    dated-buffer-same =
        dated-buffer-comes u ∙ same (λ number. buffer) payload_of (dated date) place (length buffer)
        ∙ sym (dated-buffer-comes s)
