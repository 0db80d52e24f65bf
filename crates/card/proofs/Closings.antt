-- Closing, of a shape's methods (document 02 (l)). A refusal hands the shape back as it came and changes nothing but the
-- scratch, which is all zeros on every path (`close_refused`). An accepted closing hands it back too, so that the free count
-- stays, and leaves the closed map, entries and card (`close_accepted`), of which `afterwards` and `close_twice` of the crate
-- closing say the rest.
-- Assumes nothing.
use mathlib.Core.Path.{◌≡◌, refl, ap, ◌∙◌}
use mathlib.Core.Bool.{Bool, false, cond}
use mathlib.Core.List.{List}
use Prim.Native.Nat.{ℕ}
use lib.Dec.{eqb}
use lib.ListN.{length, replicate}
use borrow.Author.Tests.{ne_eqb}
use Rattle.catalogue_standings.specs.Rows.{Verdict, accepted, refused, settle, row_number}
use Rattle.catalogue_standings.specs.declared.Answer.TheVariants.{Done, Refused}
use Rattle.call_summary.specs.Answers.{built_summary}
use Rattle.refusals.specs.Guides.{guide_tested}
use Rattle.image_soundness.specs.Sound.{State}
use Rattle.closing.specs.Closed.{closed_map, closed_entries, closed_card}
use Rattle.closing.specs.Effects as closings
use Rattle.closing.specs.Table.{close_verdict}
use Rattle.closing.proofs.Closes.{refused_number}
use Rattle.card.specs.Calls.{Kept, told, saved_state}
use Rattle.card.specs.Closings.{close_outcome_by, close_map_by, close_summary_by, close_entries_by}
use Rattle.card.specs.Closings.{close_card_by, close_scratch_by}
use Rattle.card.specs.declared.Outcome.{Outcome}

module _ (turned guided : Bool) (summary : List ℕ) (s : Kept) (scratch : List ℕ) where
  abbrev state : State
  state = saved_state s.shape s.map s.entries

  abbrev pub verdict_by : Verdict
  verdict_by = close_verdict turned state (guide_tested guided (length s.map) (length summary)) (length s.card) (length
      scratch)

  -- what is handed back and left, by the verdict
  abbrev outcome_for : Verdict → Outcome
  outcome_for v = told s.shape (cond (eqb (row_number v) 0) Done (Refused (row_number v)))

  outcome_is : close_outcome_by turned guided summary s scratch ≡ outcome_for verdict_by
  unfolding closings.close_number
  outcome_is = refl

  map_is : close_map_by turned guided summary s scratch
      ≡ settle verdict_by (closed_map s.entries s.shape.blocks s.map) (λ number. s.map)
  unfolding closings.close_map
  map_is = refl

  entries_are : close_entries_by turned guided summary s scratch ≡ settle verdict_by (closed_entries s.entries)
      (λ number. s.entries)
  unfolding closings.close_entries
  entries_are = refl

  card_is : close_card_by turned guided summary s scratch
      ≡ settle verdict_by (closed_card s.entries s.card) (λ number. s.card)
  unfolding closings.close_card
  card_is = refl

  scratch_is : close_scratch_by turned guided summary s scratch ≡ replicate (length scratch) 0
  unfolding closings.close_scratch
  scratch_is = refl

  pub summary_for : (v : Verdict) → verdict_by ≡ v → close_summary_by turned guided summary s scratch
      ≡ cond (eqb (row_number v) 0)
      (built_summary false s.shape.blocks s.shape.free (close_map_by turned guided summary s scratch) summary) summary
  unfolding closings.close_number
  summary_for v e =
      ap (λ (w : Verdict). cond (eqb (row_number w) 0)
      (built_summary false s.shape.blocks s.shape.free (close_map_by turned guided summary s scratch) summary) summary) e

  pub record Refusal (number : ℕ) : Type 0 where
    pub outcome : close_outcome_by turned guided summary s scratch ≡ told s.shape (Refused number)
    pub words : close_map_by turned guided summary s scratch ≡ s.map
    pub beside : close_summary_by turned guided summary s scratch ≡ summary
    pub sheets : close_entries_by turned guided summary s scratch ≡ s.entries
    pub bytes : close_card_by turned guided summary s scratch ≡ s.card
    pub zeros : close_scratch_by turned guided summary s scratch ≡ replicate (length scratch) 0

  pub close_refused : (number : ℕ) → verdict_by ≡ refused number → Refusal number
  close_refused number v =
      let z : eqb number 0 ≡ false = ne_eqb number 0 (refused_number turned state _ (length s.card) (length scratch) number
      v) in
      record {
        outcome = outcome_is ∙ ap outcome_for v
            ∙ ap (λ (b : Bool). told s.shape (cond b Done (Refused number))) z;
        words = map_is ∙ ap (λ (w : Verdict). settle w (closed_map s.entries s.shape.blocks s.map)
            (λ number. s.map)) v;
        beside = summary_for (refused number) v ∙ ap (λ (b : Bool). cond b
            (built_summary false s.shape.blocks s.shape.free (close_map_by turned guided summary s scratch) summary)
            summary) z;
        sheets = entries_are ∙ ap (λ (w : Verdict). settle w (closed_entries s.entries) (λ number. s.entries)) v;
        bytes = card_is ∙ ap (λ (w : Verdict). settle w (closed_card s.entries s.card) (λ number. s.card)) v;
        zeros = scratch_is;
      }

  pub record Acceptance : Type 0 where
    pub outcome : close_outcome_by turned guided summary s scratch ≡ told s.shape Done
    pub words : close_map_by turned guided summary s scratch ≡ closed_map s.entries s.shape.blocks s.map
    pub sheets : close_entries_by turned guided summary s scratch ≡ closed_entries s.entries
    pub bytes : close_card_by turned guided summary s scratch ≡ closed_card s.entries s.card
    pub zeros : close_scratch_by turned guided summary s scratch ≡ replicate (length scratch) 0

  pub close_accepted : verdict_by ≡ accepted → Acceptance
  close_accepted v = record {
    outcome = outcome_is ∙ ap outcome_for v;
    words = map_is ∙ ap (λ (w : Verdict). settle w (closed_map s.entries s.shape.blocks s.map) (λ number. s.map)) v;
    sheets = entries_are ∙ ap (λ (w : Verdict). settle w (closed_entries s.entries) (λ number. s.entries)) v;
    bytes = card_is ∙ ap (λ (w : Verdict). settle w (closed_card s.entries s.card) (λ number. s.card)) v;
    zeros = scratch_is;
  }
