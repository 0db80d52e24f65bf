-- The image of a state, and the state that stands in an image (document 01, "Saved image"). Stored numbers have the high byte
-- first.
-- Assumes nothing.
use Rattle.std.specs.Prelude.{Bool, List, [], ◌∷◌, ◌++◌, ℕ, zero, suc, ◌+◌, ◌-◌, ◌*◌, ◌/◌, length, drop, replicate}
use Rattle.block_bytes.specs.Numbers.{bytes4, number_at}
use Rattle.block_seals.specs.Sealed.{blank}
use Rattle.map_blocks.specs.Maps.{words_for}
use Rattle.catalogue.specs.declared.Entry.{Entry}
use Rattle.image_frames.specs.Frames.{frames, body_of}
use Rattle.image_frames.specs.Numbers.{word_bytes, words_at}
use Rattle.image_soundness.specs.Sound.{State}

-- The bytes of a body before its fill: n, free count and c (4 each), c entries of 12, w words of 8.
abbrev pub content_length : ℕ → ℕ → ℕ
content_length n c = 12 + 12 * c + 8 * words_for n

-- The number of image blocks: 496 bytes of the body travel in each.
abbrev pub frames_for : ℕ → ℕ → ℕ
frames_for n c = (content_length n c + 495) / 496

-- An entry: mark, start and length.
unfoldable pub entry_bytes : List Entry → List ℕ
entry_bytes [] = []
entry_bytes (e ∷ es) = (bytes4 e.mark ++ bytes4 e.start ++ bytes4 e.length) ++ entry_bytes es

-- The body: n, free count, c, the entries, the words, then zeros to a multiple of 496.
unfoldable pub body : State → List ℕ
unfolding entry_bytes
body s =
    (bytes4 s.blocks ++ bytes4 s.spare ++ bytes4 (length s.entries))
    ++ entry_bytes s.entries
    ++ word_bytes s.map
    ++ replicate (496 * frames_for s.blocks (length s.entries) - content_length s.blocks (length s.entries)) 0

-- The image of a state: its body in frames.
unfoldable pub image_of : State → List ℕ
unfolding body
image_of s = frames (frames_for s.blocks (length s.entries)) 0 (frames_for s.blocks (length s.entries)) (body s)

-- The entry that is stored from byte `at` on, and the c entries.
abbrev pub entry_from : List ℕ → ℕ → Entry
entry_from bytes at = record { mark = number_at bytes at; start = number_at bytes (at + 4); length = number_at bytes (at + 8) }

unfoldable pub entries_from : List ℕ → ℕ → ℕ → List Entry
entries_from bytes at zero = []
entries_from bytes at (suc c) = entry_from bytes at ∷ entries_from bytes (at + 12) c

-- n, the free count and c, as an image has them.
unfoldable pub blocks_in : List ℕ → ℕ
blocks_in image = number_at (body_of image) 0

unfoldable pub free_count_in : List ℕ → ℕ
free_count_in image = number_at (body_of image) 4

unfoldable pub sheets_in : List ℕ → ℕ
sheets_in image = number_at (body_of image) 8

-- The entries and the map that stand in an image of n blocks and c sheets.
unfoldable pub entries_in : List ℕ → ℕ → List Entry
unfolding entries_from
entries_in image c = entries_from (body_of image) 12 c

unfoldable pub map_in : List ℕ → ℕ → ℕ → List ℕ
map_in image n c = words_at (body_of image) (12 + 12 * c) (words_for n)

-- The state that stands in an image.
abbrev pub state_in : List ℕ → State
state_in image = record {
  blocks = blocks_in image;
  spare = free_count_in image;
  entries = entries_in image (sheets_in image);
  map = map_in image (blocks_in image) (sheets_in image);
}

-- The fill of an image of n blocks and c sheets is zero.
unfoldable pub filled : List ℕ → ℕ → ℕ → Bool
filled image n c = blank (drop (content_length n c) (body_of image))
