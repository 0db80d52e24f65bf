-- What follows for a sheet (document 02, request (i)): where the block of a place has such damage, show refuses that place
-- with 4 and leaves its buffer, and complete is refused with 4 and leaves the catalogue, unless a row before that one holds.
-- Proved in proofs/Unshown.antt.
-- Assumes nothing.
use Rattle.std.specs.Prelude.{Bool, ◌≡◌, List, [], ◌∷◌, ℕ, ◌+◌, ◌<◌}
use Rattle.catalogue_standings.specs.declared.Answer.TheVariants.{Refused}
use Rattle.catalogue_standings.specs.Rows.{row, first_of, accepted}
use Rattle.catalogue_standings.specs.Standings.{length_of}
use Rattle.catalogue.specs.Entries.{entry_at}
use Rattle.blocks_of_card.specs.Card.{block_of}
use Rattle.refusals.specs.Table.{View, opening, absent_row, paused_row, open_row, complete_row, misplaced}
use Rattle.refusals.specs.Views.{view_on}
use Rattle.card.specs.Calls.{Kept, lent_to, told, show_outcome, show_buffer, complete_outcome, complete_entries}
use Rattle.check_power.specs.Damage.{Damaged}

module _ (turned : Bool) (s : Kept) (sheet : ℕ) where
  -- what the rows read of the sheet, and the block of one of its places
  unfoldable pub viewed : View
  unfolding view_on
  viewed = view_on (lent_to turned s s.card sheet)

  abbrev pub block_at : ℕ → List ℕ
  block_at place = block_of s.card ((entry_at s.entries sheet).start + place)

  abbrev pub ShowRefused : Type 0
  ShowRefused =
      (t p : ℕ) (payload : List ℕ) (place : ℕ) (buffer : List ℕ) → Damaged t p payload (block_at place)
      → first_of (opening viewed sheet
      (absent_row viewed ∷ paused_row viewed ∷ open_row viewed ∷ row 3 (misplaced viewed place buffer) ∷ []))
      ≡ accepted
      → (show_outcome turned s sheet place buffer ≡ told s.shape (Refused 4))
      × (show_buffer turned s sheet place buffer ≡ buffer)

  abbrev pub CompleteRefused : Type 0
  CompleteRefused =
      (t p : ℕ) (payload : List ℕ) (place : ℕ) → Damaged t p payload (block_at place)
      → place < length_of viewed.stands
      → first_of (opening viewed sheet (absent_row viewed ∷ paused_row viewed ∷ complete_row viewed ∷ [])) ≡ accepted
      → (complete_outcome turned s sheet ≡ told s.shape (Refused 4))
      × (complete_entries turned s sheet ≡ s.entries)
