-- The rows of save and load (document 01, "Saved image"; of the scratch document 02, (h)), in its order, behind 21 (document
-- 02, (n)). A call is refused with the first row that holds. `turned`: whoever calls may not make the call.
-- Assumes nothing.
use Rattle.std.specs.Prelude.{Bool, not, ◌&&◌, List, [], ◌∷◌, ℕ, ◌*◌, ◌/◌, ◌%◌, eqb, leb, length}
use Rattle.map_blocks.specs.Maps.{words_for}
use Rattle.catalogue_standings.specs.Rows.{Row, row, Verdict, first_of}
use Rattle.catalogue_standings.specs.Limits.{shape_fits, sheets_fit}
use Rattle.image_frames.specs.Frames.{total_of, framed}
use Rattle.image_soundness.specs.Scratch.{scratch_words}
use Rattle.image_soundness.specs.Sound.{State, sound}
use Rattle.image.specs.Image.{frames_for, blocks_in, free_count_in, sheets_in, state_in, filled}

-- n, c and the free count are within their limits, and the lent map has w words, the scratch 64 or the map's if that is less.
unfoldable pub save_fits : ℕ → ℕ → ℕ → ℕ → ℕ → Bool
save_fits n spare c maplen scratchlen = shape_fits n spare maplen && sheets_fit c && eqb scratchlen (scratch_words maplen)

-- Save, of a state, with a scratch and a buffer of these lengths: 21, 1, 4, then 12 unless the buffer is exactly the image's
-- length. `whole`: the state is sound.
abbrev pub save_rows_if : Bool → Bool → State → ℕ → ℕ → List Row
save_rows_if turned whole s scratchlen bufferlen =
    row 21 turned
    ∷ row 1 (not (save_fits s.blocks s.spare (length s.entries) (length s.map) scratchlen))
    ∷ row 4 (not whole)
    ∷ row 12 (not (eqb bufferlen (512 * frames_for s.blocks (length s.entries))))
    ∷ []

unfoldable pub save_rows : Bool → State → ℕ → ℕ → List Row
unfolding save_fits
save_rows turned s scratchlen bufferlen = save_rows_if turned (sound s) s scratchlen bufferlen

-- 1 to 91 whole blocks.
unfoldable pub whole_blocks : ℕ → Bool
whole_blocks bytes = eqb (bytes % 512) 0 && leb 1 (bytes / 512) && leb (bytes / 512) 91

-- n, c and the free count are within their limits, and the number of image blocks fits them.
unfoldable pub head_fits : ℕ → ℕ → ℕ → ℕ → Bool
head_fits n spare c total = shape_fits n spare (words_for n) && sheets_fit c && eqb total (frames_for n c)

-- The lent map, catalogue and scratch have the lengths that n and c want.
unfoldable pub load_fits : ℕ → ℕ → ℕ → ℕ → ℕ → Bool
load_fits n c maplen count scratchlen =
    eqb maplen (words_for n) && eqb count c && eqb scratchlen (scratch_words (words_for n))

-- Load, of an image into a map, a catalogue and a scratch of these lengths: 21; 12 unless 1 to 91 whole blocks; 13 if any
-- frame's
-- number, total or check is wrong; 14 if n, c or the free count is out of limits or the total doesn't fit them; 1 if a lent
-- length is another; 14 if the state isn't sound or the fill not zero. `whole`: the state that stands in the image is sound.
abbrev pub load_rows_if : Bool → Bool → List ℕ → ℕ → ℕ → ℕ → List Row
load_rows_if turned whole image maplen count scratchlen =
    row 21 turned
    ∷ row 12 (not (whole_blocks (length image)))
    ∷ row 13 (not (framed image))
    ∷ row 14 (not (head_fits (blocks_in image) (free_count_in image) (sheets_in image) (total_of image)))
    ∷ row 1 (not (load_fits (blocks_in image) (sheets_in image) maplen count scratchlen))
    ∷ row 14 (not (whole && filled image (blocks_in image) (sheets_in image)))
    ∷ []

unfoldable pub load_rows : Bool → List ℕ → ℕ → ℕ → ℕ → List Row
unfolding whole_blocks head_fits load_fits
load_rows turned image maplen count scratchlen = load_rows_if turned (sound (state_in image)) image maplen count scratchlen

unfoldable pub save_verdict : Bool → State → ℕ → ℕ → Verdict
unfolding save_rows
save_verdict turned s scratchlen bufferlen = first_of (save_rows turned s scratchlen bufferlen)

unfoldable pub load_verdict : Bool → List ℕ → ℕ → ℕ → ℕ → Verdict
unfolding load_rows
load_verdict turned image maplen count scratchlen = first_of (load_rows turned image maplen count scratchlen)
