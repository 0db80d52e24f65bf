-- What the sheets of a state hold.
-- Assumes nothing.
use Rattle.std.specs.Prelude.{ℕ, ◌+◌, ◌≤◌, ◌<◌, ◌≡◌, ◌⊎◌, true}
use Rattle.blocks_of_card.specs.Card.{block_of}
use Rattle.catalogue.specs.Entries.{entry_at}
use Rattle.catalogue_standings.specs.declared.Standing.TheVariants.{Complete, PausedWith}
use Rattle.image_soundness.specs.Sound.{sound}
use Rattle.card.specs.Calls.{Kept}
use Rattle.ledger.specs.Lists.{saved_of}
use Rattle.role_lists.specs.Carers.{stands}

-- A block is one of the extent of a sheet.
abbrev pub Covers : Kept → ℕ → ℕ → Type 0
Covers s sheet b =
    ((entry_at s.entries sheet).start ≤ b) × (b < (entry_at s.entries sheet).start + (entry_at s.entries sheet).length)

-- The state is sound: what a save asks for (document 01, "Saved image").
abbrev pub Sound : Kept → Type 0
Sound s = sound (saved_of s) ≡ true

-- A sheet holds count blocks from start on as a finished course: it is Complete, or a course that was paused.
abbrev pub Finished : Kept → ℕ → ℕ → ℕ → Type 0
Finished s sheet start count = (stands s sheet ≡ Complete start count) ⊎ (stands s sheet ≡ PausedWith start count)

-- From state s to state t: the sheet holds the same blocks, and each has the bytes that it had.
pub record Untouched (s t : Kept) (sheet start count : ℕ) : Type 0 where
  pub held : Finished t sheet start count
  pub same : (p : ℕ) → p < count → block_of t.card (start + p) ≡ block_of s.card (start + p)
