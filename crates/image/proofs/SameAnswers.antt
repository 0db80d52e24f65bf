-- Which scratch save and load ask for decides nothing but row 1: with the scratch that is asked for, whatever its length, the
-- rows are answered alike. Document 01 asked for the map's length, and document 02, (h), asks for `scratch_words` of it: every
-- save and every load is answered as it was (`save_alike`, `load_alike`).
-- Assumes nothing.
use mathlib.Core.Path.{◌≡◌, refl, sym, ap, ◌∙◌}
use mathlib.Core.Bool.{Bool, false, not, ◌&&◌}
use mathlib.Core.List.{List, [], ◌∷◌}
use Prim.Native.Nat.{ℕ, ◌*◌}
use lib.Dec.{eqb}
use lib.ListN.{length}
use borrow.Author.Tests.{eq-eqb}
use Rattle.map_blocks.specs.Maps.{words_for}
use Rattle.catalogue_standings.specs.Rows.{Row, row, first_of}
use Rattle.catalogue_standings.specs.Limits.{shape_fits, sheets_fit}
use Rattle.image_frames.specs.Frames.{total_of, framed}
use Rattle.image_soundness.specs.Scratch.{scratch_words}
use Rattle.image_soundness.specs.Sound.{State, sound}
use Rattle.image.specs.Image.{frames_for, blocks_in, free_count_in, sheets_in, state_in, filled}
use Rattle.image.specs.Table.{save_fits, save_rows, save_verdict, whole_blocks, head_fits, load_fits, load_rows, load_verdict}

-- the rows, where the scratch of a map of w words is to have `words w`; document 01's are those of `λ w. w`
module _ (words : ℕ → ℕ) where
  pub save_rows_by : State → ℕ → ℕ → List Row
  save_rows_by s scratchlen bufferlen =
      row 1 (not (shape_fits s.blocks s.spare (length s.map) && sheets_fit (length s.entries)
      && eqb scratchlen (words (length s.map))))
      ∷ row 4 (not (sound s))
      ∷ row 12 (not (eqb bufferlen (512 * frames_for s.blocks (length s.entries))))
      ∷ []

  pub load_rows_by : List ℕ → ℕ → ℕ → ℕ → List Row
  load_rows_by image maplen count scratchlen =
      row 12 (not (whole_blocks (length image)))
      ∷ row 13 (not (framed image))
      ∷ row 14 (not (head_fits (blocks_in image) (free_count_in image) (sheets_in image) (total_of image)))
      ∷ row 1 (not (eqb maplen (words_for (blocks_in image)) && eqb count (sheets_in image)
      && eqb scratchlen (words (words_for (blocks_in image)))))
      ∷ row 14 (not (sound (state_in image) && filled image (blocks_in image) (sheets_in image)))
      ∷ []

asked : (a b : ℕ) → eqb a a ≡ eqb b b
asked a b = eq-eqb a a refl ∙ sym (eq-eqb b b refl)

pub save_alike : (words : ℕ → ℕ) (s : State) (bufferlen : ℕ)
    → save_verdict false s (scratch_words (length s.map)) bufferlen
    ≡ first_of (save_rows_by words s (words (length s.map)) bufferlen)
unfolding first_of save_verdict save_rows save_fits save_rows_by
save_alike words s bufferlen =
    ap (λ (b : Bool). first_of
    (row 1 (not (shape_fits s.blocks s.spare (length s.map) && sheets_fit (length s.entries) && b))
    ∷ row 4 (not (sound s))
    ∷ row 12 (not (eqb bufferlen (512 * frames_for s.blocks (length s.entries))))
    ∷ []))
    (asked (scratch_words (length s.map)) (words (length s.map)))

pub load_alike : (words : ℕ → ℕ) (image : List ℕ) (maplen count : ℕ)
    → load_verdict false image maplen count (scratch_words (words_for (blocks_in image)))
    ≡ first_of (load_rows_by words image maplen count (words (words_for (blocks_in image))))
unfolding first_of load_verdict load_rows load_fits load_rows_by
load_alike words image maplen count =
    ap (λ (b : Bool). first_of
    (row 12 (not (whole_blocks (length image)))
    ∷ row 13 (not (framed image))
    ∷ row 14 (not (head_fits (blocks_in image) (free_count_in image) (sheets_in image) (total_of image)))
    ∷ row 1 (not (eqb maplen (words_for (blocks_in image)) && eqb count (sheets_in image) && b))
    ∷ row 14 (not (sound (state_in image) && filled image (blocks_in image) (sheets_in image)))
    ∷ []))
    (asked (scratch_words (words_for (blocks_in image))) (words (words_for (blocks_in image))))
