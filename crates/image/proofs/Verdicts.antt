-- The rows of save and load, test by test, and what an accepted call shows.
-- Assumes nothing.
use mathlib.Core.Path.{◌≡◌, refl, ap, ap₂}
use mathlib.Core.Bool.{Bool, true, false, not, ◌&&◌}
use mathlib.Core.List.{List, [], ◌∷◌}
use Prim.Native.Nat.{ℕ, ◌*◌}
use lib.Dec.{eqb}
use lib.ListN.{length}
use borrow.Author.Tests.{eq-eqb, eqb-true, not-false}
use Rattle.laws.proofs.Bools.{and_left, and_right}
use Rattle.catalogue_standings.specs.Rows.{Row, row, accepted, first_of, row_number}
use Rattle.catalogue_standings.proofs.Openings.{skip, none_left}
use Rattle.catalogue_standings.proofs.Rows.{clear, zero_accepts}
use Rattle.image_frames.specs.Frames.{total_of, framed}
use Rattle.image_soundness.specs.Sound.{State, sound}
use Rattle.image.specs.Image.{frames_for, blocks_in, free_count_in, sheets_in, state_in, filled}
use Rattle.image.specs.Table.{save_fits, save_rows, save_verdict, whole_blocks, head_fits, load_fits, load_rows, load_verdict}

passes_row : (number : ℕ) (test : Bool) (rows : List Row) → test ≡ true → first_of rows ≡ accepted
    → first_of (row number (not test) ∷ rows) ≡ accepted
passes_row number test rows t h = skip number (not test) rows accepted (ap not t) h

-- an accepted save
pub record Saved (turned : Bool) (s : State) (scratchlen bufferlen : ℕ) : Type 0 where
  pub admitted : turned ≡ false
  pub lengths : save_fits s.blocks s.spare (length s.entries) (length s.map) scratchlen ≡ true
  pub whole : sound s ≡ true
  pub exact : bufferlen ≡ 512 * frames_for s.blocks (length s.entries)

module _ (turned : Bool) (s : State) (scratchlen bufferlen : ℕ) where
  pub saved_to_lem : save_verdict turned s scratchlen bufferlen ≡ accepted → Saved turned s scratchlen bufferlen
  unfolding save_verdict save_rows
  saved_to_lem e =
      let rows = save_rows turned s scratchlen bufferlen in
      record {
        admitted = (clear 21 rows e).0;
        lengths = not-false _ (clear 1 rows e).0;
        whole = not-false _ (clear 4 rows e).0;
        exact = eqb-true bufferlen (512 * frames_for s.blocks (length s.entries)) (not-false _ (clear 12 rows e).0);
      }

  pub to_saved : Saved turned s scratchlen bufferlen → save_verdict turned s scratchlen bufferlen ≡ accepted
  unfolding save_verdict save_rows
  to_saved p =
      skip 21 turned _ accepted p.admitted
      (passes_row 1 (save_fits s.blocks s.spare (length s.entries) (length s.map) scratchlen) _ p.lengths
      (passes_row 4 (sound s) _ p.whole
      (passes_row 12 (eqb bufferlen (512 * frames_for s.blocks (length s.entries))) []
      (eq-eqb bufferlen (512 * frames_for s.blocks (length s.entries)) p.exact) none_left)))

  pub save_accepted : row_number (save_verdict turned s scratchlen bufferlen) ≡ 0 → save_verdict turned s scratchlen bufferlen ≡
      accepted
  unfolding save_verdict save_rows
  save_accepted = zero_accepts _ refl

-- an accepted load
pub record Accepted (turned : Bool) (image : List ℕ) (maplen count scratchlen : ℕ) : Type 0 where
  pub admitted : turned ≡ false
  pub blocks : whole_blocks (length image) ≡ true
  pub frames : framed image ≡ true
  pub first : head_fits (blocks_in image) (free_count_in image) (sheets_in image) (total_of image) ≡ true
  pub lengths : load_fits (blocks_in image) (sheets_in image) maplen count scratchlen ≡ true
  pub whole : sound (state_in image) ≡ true
  pub fill : filled image (blocks_in image) (sheets_in image) ≡ true

module _ (turned : Bool) (image : List ℕ) (maplen count scratchlen : ℕ) where
  pub load_accepted : row_number (load_verdict turned image maplen count scratchlen) ≡ 0
      → load_verdict turned image maplen count scratchlen ≡ accepted
  unfolding load_verdict load_rows
  load_accepted = zero_accepts _ refl

  pub accepted_to : load_verdict turned image maplen count scratchlen ≡ accepted → Accepted turned image maplen count scratchlen
  unfolding load_verdict load_rows
  accepted_to e =
      let rows = load_rows turned image maplen count scratchlen in
      let content = not-false (sound (state_in image) && filled image (blocks_in image) (sheets_in image))
      (clear 14 rows e).1.0 in
      record {
        admitted = (clear 21 rows e).0;
        blocks = not-false _ (clear 12 rows e).0;
        frames = not-false _ (clear 13 rows e).0;
        first = not-false _ (clear 14 rows e).0;
        lengths = not-false _ (clear 1 rows e).0;
        whole = and_left (sound (state_in image)) (filled image (blocks_in image) (sheets_in image)) content;
        fill = and_right (sound (state_in image)) (filled image (blocks_in image) (sheets_in image)) content;
      }

  pub to_accepted : Accepted turned image maplen count scratchlen → load_verdict turned image maplen count scratchlen ≡ accepted
  unfolding load_verdict load_rows
  to_accepted p =
      skip 21 turned _ accepted p.admitted
      (passes_row 12 (whole_blocks (length image)) _ p.blocks
      (passes_row 13 (framed image) _ p.frames
      (passes_row 14 (head_fits (blocks_in image) (free_count_in image) (sheets_in image) (total_of image)) _ p.first
      (passes_row 1 (load_fits (blocks_in image) (sheets_in image) maplen count scratchlen) _ p.lengths
      (passes_row 14 (sound (state_in image) && filled image (blocks_in image) (sheets_in image)) []
      (ap₂ ◌&&◌ p.whole p.fill) none_left)))))
