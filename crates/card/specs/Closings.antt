-- What closing the gaps answers and leaves, of all that the program keeps (document 02 (l)), in the way of Calls.antt.
-- Assumes nothing.
use Rattle.std.specs.Prelude.{Bool, false, cond, List, [], ℕ, eqb, length}
use Rattle.catalogue.specs.declared.Entry.{Entry}
use Rattle.call_summary.specs.Answers as summaries
use Rattle.refusals.specs.Guides.{guide_tested}
use Rattle.closing.specs.Effects as closings
use Rattle.card.specs.declared.Outcome.{Outcome}
use Rattle.card.specs.declared.Shape.{Shape}
use Rattle.card.specs.Calls.{Kept, save_outcome_by}

-- The summary that is lent is built anew of the map, if the call was accepted.
abbrev pub rebuilt : Shape → List ℕ → List ℕ → ℕ → List ℕ
rebuilt shape map summary number =
    cond (eqb number 0) (summaries.built_summary false shape.blocks shape.free map summary) summary

-- Lent a summary or not, whose length row 1 asks for then. The shape is handed back as it came.
module _ (turned guided : Bool) (summary : List ℕ) (s : Kept) (scratch : List ℕ) where
  abbrev fits_by : Bool
  fits_by = guide_tested guided (length s.map) (length summary)

  abbrev close_number_by : ℕ
  close_number_by = closings.close_number turned s.shape.blocks s.shape.free fits_by s.map s.entries s.card scratch

  abbrev pub close_outcome_by : Outcome
  close_outcome_by = save_outcome_by s.shape close_number_by

  abbrev pub close_map_by : List ℕ
  close_map_by = closings.close_map turned s.shape.blocks s.shape.free fits_by s.map s.entries s.card scratch

  abbrev pub close_summary_by : List ℕ
  close_summary_by = rebuilt s.shape close_map_by summary close_number_by

  abbrev pub close_entries_by : List Entry
  close_entries_by = closings.close_entries turned s.shape.blocks s.shape.free fits_by s.map s.entries s.card
      scratch

  abbrev pub close_card_by : List ℕ
  close_card_by = closings.close_card turned s.shape.blocks s.shape.free fits_by s.map s.entries s.card scratch

  abbrev pub close_scratch_by : List ℕ
  close_scratch_by = closings.close_scratch turned s.shape.blocks s.shape.free fits_by s.map s.entries s.card
      scratch

-- By the map alone.
module _ (turned : Bool) (s : Kept) (scratch : List ℕ) where
  abbrev pub close_outcome : Outcome
  close_outcome = close_outcome_by turned false [] s scratch

  abbrev pub close_map : List ℕ
  close_map = close_map_by turned false [] s scratch

  abbrev pub close_entries : List Entry
  close_entries = close_entries_by turned false [] s scratch

  abbrev pub close_card : List ℕ
  close_card = close_card_by turned false [] s scratch

  abbrev pub close_scratch : List ℕ
  close_scratch = close_scratch_by turned false [] s scratch
