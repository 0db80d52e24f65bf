-- That the tests of what stands in an image are soundness of its state, and a zero fill.
-- Assumes nothing.
use mathlib.Core.Path.{◌≡◌, sym, ap, ap₂, ◌∙◌}
use mathlib.Core.Bool.{true}
use mathlib.Core.List.{List}
use Prim.Native.Nat.{ℕ, ◌+◌, ◌-◌, ◌*◌}
use native.Mathlib.Omega.{arith}
use lib.ListN.{drop}
use Rattle.std.specs.Prelude.{Some}
use Rattle.map_blocks.specs.Maps.{words_for}
use Rattle.block_seals.specs.Sealed.{blank}
use Rattle.catalogue_standings.specs.Limits.{shape_fits}
use Rattle.catalogue.specs.declared.Entry.{Entry}
use Rattle.image_frames.specs.Frames.{body_of}
use Rattle.image.proofs.Journey.{map_length}
use Rattle.image_soundness.specs.Scratch.{scratch_words}
use Rattle.image_soundness.specs.Sound.{State, sound}
use Rattle.image_soundness.specs.Windows.{state_tested}
use Rattle.image_soundness.proofs.Tested.{state_tested_sound}
use Rattle.image.specs.Image.{content_length, blocks_in, free_count_in, sheets_in, entries_in, map_in, state_in, filled}

abbrev state : ℕ → ℕ → List Entry → List ℕ → State
state n spare entries map = record { blocks = n; spare = spare; entries = entries; map = map }

-- n, free count and c as they were read
module _ (image : List ℕ) (n spare c : ℕ) (en : n ≡ blocks_in image) (es : spare ≡ free_count_in image)
    (ec : c ≡ sheets_in image) where
  pub content_sound : shape_fits n spare (words_for n) ≡ true → (m : ℕ) → m ≡ scratch_words (words_for n)
      → state_tested (map_in image n c) (entries_in image c) m n (Some (n - spare)) ≡ sound (state_in image)
  content_sound fit m size =
      state_tested_sound (state n spare (entries_in image c) (map_in image n c)) m
      (ap (shape_fits n spare) (map_length image n c) ∙ fit) (size ∙ ap scratch_words (sym (map_length image n c)))
      ∙ ap₂ (λ (x y : ℕ). sound (state x y (entries_in image c) (map_in image x c))) en es
      ∙ ap (λ (x : ℕ). sound (state (blocks_in image) (free_count_in image) (entries_in image x)
      (map_in image (blocks_in image) x)))
      ec

  pub content_filled : (w : ℕ) → w ≡ words_for n
      → blank (drop (4 * (3 + 3 * c + 2 * w)) (body_of image)) ≡ filled image (blocks_in image) (sheets_in image)
  unfolding filled
  content_filled w ew =
      let e : 4 * (3 + 3 * c + 2 * w) ≡ content_length n c = omega arith in
      ap (λ (x : ℕ). blank (drop x (body_of image))) e ∙ ap₂ (λ (x y : ℕ). blank (drop (content_length x y) (body_of image))) en
      ec
