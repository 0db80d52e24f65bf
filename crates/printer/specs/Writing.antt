-- Bytes written to a lent text, and how far they go. What finds no room is left out. The text of a card of at most 1,024 sheets
-- finds room in 32,768 bytes: `card_fits` in crates/printer/proofs/Room.antt; then what is written is that text, whole:
-- `card_whole` there.
-- Assumes nothing.
use Rattle.std.specs.Prelude.{◌≡◌, List, ℕ, ◌+◌, min, max, length}
use Rattle.std.proofs.lemmas.List.Edits.{sets}

-- A text with bytes written from `at` on.
unfoldable pub written : List ℕ → ℕ → List ℕ → List ℕ
written text at bytes = sets text at bytes

-- Where the next byte goes.
unfoldable pub behind : List ℕ → ℕ → List ℕ → ℕ
behind text at bytes = max at (min (at + length bytes) (length text))

-- Bytes were written at `at`: r is where the next byte goes, and text' is the text.
pub record Writes (bytes text : List ℕ) (at r : ℕ) (text' : List ℕ) : Type 0 where
  pub ends : r ≡ behind text at bytes
  pub leaves : text' ≡ written text at bytes
