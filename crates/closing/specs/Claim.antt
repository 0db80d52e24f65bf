-- What is claimed of a card whose gaps were closed (document 02 (l)).
-- Assumes nothing.
use Rattle.std.specs.Prelude.{Some, None}
use Rattle.std.specs.Prelude.{◌≡◌, ℕ, ◌+◌, ◌<◌, ◌≤◌, true, cond, List, map, length, nat_le, nat_lt}
use Rattle.map_blocks.specs.Blocks.{free, least_fit}
use Rattle.blocks_of_card.specs.Card.{block_of}
use Rattle.catalogue.specs.Entries.{held, entry_at}
use Rattle.image_soundness.specs.Sound.{State, coverings, sound}
use Rattle.closing.specs.Closed.{closed_entries, closed_card, closed_map, closed_state}

-- Of the state and the card before.
pub record Afterwards (s : State) (card : List ℕ) : Type 0 where
  -- Every sheet has its old mark and length.
  pub marks : map (λ e. e.mark) (closed_entries s.entries) ≡ map (λ e. e.mark) s.entries
  pub lengths : map (λ e. e.length) (closed_entries s.entries) ≡ map (λ e. e.length) s.entries
  -- Each place of each sheet has the bytes that it had: payloads and blanks.
  pub places : (sheet p : ℕ) → sheet < length s.entries → p < (entry_at s.entries sheet).length
      → block_of (closed_card s.entries card) ((entry_at (closed_entries s.entries) sheet).start + p)
      ≡ block_of card ((entry_at s.entries sheet).start + p)
  -- An extent that started before another ends where that starts, or before it.
  pub ordered : (a b : ℕ) → a < length s.entries → b < length s.entries
      → (entry_at s.entries a).start < (entry_at s.entries b).start
      → (entry_at (closed_entries s.entries) a).start + (entry_at s.entries a).length
      ≤ (entry_at (closed_entries s.entries) b).start
  -- No block is free before or between the extents: each block below their end is one sheet's, and no other block any sheet's.
  pub packed : (b : ℕ) → coverings (closed_entries s.entries) b ≡ cond (nat_lt b (held s.entries)) 1 0
  -- A block that is free afterwards has the bytes that it had.
  pub rest : (b : ℕ) → held s.entries ≤ b → b < s.blocks → block_of (closed_card s.entries card) b ≡ block_of card b
  -- The state is sound, with the free count that it had, and that is what the extents leave of n.
  pub still_sound : sound (closed_state s) ≡ true
  pub free_count : held s.entries + s.spare ≡ s.blocks
  -- A plain search finds no fit exactly when more blocks are wanted than are free; else the first block behind the extents.
  pub fits : (k : ℕ) → 1 ≤ k
      → least_fit (free (closed_map s.entries s.blocks s.map)) 0 s.blocks 1 k
      ≡ cond (nat_le k s.spare) (Some (held s.entries)) None

-- Closing twice is closing once: of entries, card and map that a closing left, a closing changes nothing.
pub record Again (s : State) (card : List ℕ) : Type 0 where
  pub entries : closed_entries (closed_state s).entries ≡ closed_entries s.entries
  pub cards : closed_card (closed_state s).entries (closed_card s.entries card) ≡ closed_card s.entries card
  pub maps : closed_map (closed_state s).entries s.blocks (closed_state s).map ≡ (closed_state s).map
