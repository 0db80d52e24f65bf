-- Row 1 for a summary that guides a call: the test of its length, which is made before any other, and what it leaves to the
-- tests behind it.
-- Assumes nothing.
use Rattle.catalogue_standings.specs.declared.Standing.{Standing}
use Rattle.catalogue_standings.specs.declared.Refusal.{Refusal}
use Rattle.std.specs.Prelude.{Result}
use mathlib.Core.Path.{◌≡◌, refl, sym, ap, ◌∙◌}
use mathlib.Core.Bool.{Bool, true, false, ◌&&◌}
use native.Mathlib.Omega.{arith}
use lib.Dec.{eqb, leb}
use Rattle.summary.specs.Summary.{summary_length}
use lib.ListN.{length}
use borrow.Author.Tests.{le-leb}
use Rattle.catalogue_standings.specs.Limits.{shape_fits, sheets_fit}
use Rattle.catalogue_standings.specs.Openings.{opened_for}
use Rattle.catalogue_standings.proofs.Limits.{Fits, card_fits, sheet_fits}
use Rattle.refusals.specs.Guides.{guide_fits, guide_tested}
use Rattle.refusals.specs.Lent.{Lent}
use Rattle.refusals.proofs.Lent.{lengths_fit, first, first_at, standing}

module _ (q : Lent) where
  abbrev guides : Bool
  guides = guide_fits q.guided q.summary (length q.map)

  abbrev pub guide_test : Bool
  guide_test = guide_tested q.guided (length q.map) (length q.summary)

  -- a map of the right length has at most 4,096 words
  few_words : Fits q.n q.spare (length q.map) → leb (length q.map) 4096 ≡ true
  few_words f = le-leb (length q.map) 4096 (omega (arith, f.words, f.limit))

  -- of a map that has no more, the test says what row 1 asks
  same_test : leb (length q.map) 4096 ≡ true → guide_test ≡ guides
  same_test few = go q.guided
    where
      go : (guided : Bool) → guide_tested guided (length q.map) (length q.summary) ≡ guide_fits guided q.summary (length q.map)
      go true = ap (λ (x : Bool). x && eqb (length q.summary) (summary_length (length q.map))) few
      go false = refl

  -- and so does the test before the other lengths, whatever they are
  same_fits : (lengths : Bool) → (lengths ≡ true → leb (length q.map) 4096 ≡ true) → (guide_test && lengths)
      ≡ (guides && lengths)
  same_fits true few = ap (λ (x : Bool). x && true) (same_test (few refl))
  same_fits false few = none guide_test guides
    where
      none : (x y : Bool) → (x && false) ≡ (y && false)
      none true true = refl
      none true false = refl
      none false true = refl
      none false false = refl

  -- what a call begins with: what it is lent, and with the card
  pub begun : opened_for q.turned (guide_test && lengths_fit q) q.sheets q.sheet (standing q) ≡ first q
  begun =
      ap (λ (fits : Bool). opened_for q.turned fits q.sheets q.sheet (standing q)) (same_fits (lengths_fit q)
      (λ h. few_words (card_fits q.n q.spare (length q.map) q.sheets (length q.card) h).shape))

  pub begun_at : opened_for q.turned (guide_test && (shape_fits q.n q.spare (length q.map) && sheets_fit q.sheets)) q.sheets
      q.sheet (standing q) ≡ first_at q
  begun_at =
      ap (λ (fits : Bool). opened_for q.turned fits q.sheets q.sheet (standing q))
      (same_fits (shape_fits q.n q.spare (length q.map) && sheets_fit q.sheets)
      (λ h. few_words (sheet_fits q.n q.spare (length q.map) q.sheets h)))

  -- so what the opening answered is what those rows answer
  pub first_is : {r s : Result Standing Refusal}
      → r ≡ opened_for q.turned (guide_test && lengths_fit q) q.sheets q.sheet (standing q) → r ≡ s → first q ≡ s
  first_is asked told = sym begun ∙ sym asked ∙ told

  pub first_is_at : {r s : Result Standing Refusal}
      → r ≡ opened_for q.turned (guide_test && (shape_fits q.n q.spare (length q.map) && sheets_fit q.sheets)) q.sheets q.sheet
      (standing q)
      → r ≡ s → first_at q ≡ s
  first_is_at asked told = sym begun_at ∙ sym asked ∙ told
