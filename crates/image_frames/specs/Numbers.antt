-- The numbers of a body. 496 is 4 times 124, so that no number of 4 bytes is cut by a frame: number k, bytes 4·k to 4·k + 3
-- of the body, stands in image block k div 124. A word is stored as its high half and its low half.
-- Assumes nothing.
use Rattle.std.specs.Prelude.{cond, List, [], ◌∷◌, ◌++◌, ℕ, zero, suc, ◌+◌, ◌*◌, ◌/◌, ◌%◌, ltb}
use Rattle.block_bytes.specs.Numbers.{bytes4, number_at}
use Rattle.block_bytes.specs.Replaced.{replaced}
use Rattle.image_frames.specs.Frames.{total_of, body_of}

-- Where number k of the body stands in the image.
abbrev pub place_of : ℕ → ℕ
place_of k = 512 * (k / 124) + 8 + 4 * (k % 124)

-- Number k of the body; 0 past its end.
unfoldable pub number_in : List ℕ → ℕ → ℕ
unfolding body_of number_at
number_in image k = number_at (body_of image) (4 * k)

-- The image with number k of its body replaced; past the end nothing changes.
unfoldable pub with_number : List ℕ → ℕ → ℕ → List ℕ
unfolding replaced bytes4
with_number image k number = cond (ltb (k / 124) (total_of image)) (replaced image (place_of k) (bytes4 number)) image

-- A stored word: eight bytes, the high byte first.
unfoldable pub bytes8 : ℕ → List ℕ
unfolding bytes4
bytes8 word = bytes4 (word / 4294967296) ++ bytes4 (word % 4294967296)

unfoldable pub word_bytes : List ℕ → List ℕ
unfolding bytes8
word_bytes [] = []
word_bytes (word ∷ words) = bytes8 word ++ word_bytes words

-- The word that is stored from byte `at` on, and the w words.
abbrev pub word_at : List ℕ → ℕ → ℕ
word_at bytes at = number_at bytes at * 4294967296 + number_at bytes (at + 4)

unfoldable pub words_at : List ℕ → ℕ → ℕ → List ℕ
unfolding number_at
words_at bytes at zero = []
words_at bytes at (suc w) = word_at bytes at ∷ words_at bytes (at + 8) w
