-- The numbers at the head of an image, and its map, as they are read.
-- Assumes nothing.
use mathlib.Core.Path.{◌≡◌, refl, ap₂, ◌∙◌}
use mathlib.Core.List.{List}
use Prim.Native.Nat.{ℕ, ◌+◌, ◌*◌}
use native.Mathlib.Omega.{arith}
use Rattle.map_blocks.specs.Maps.{words_for}
use Rattle.image_frames.specs.Frames.{body_of}
use Rattle.image_frames.specs.Numbers.{number_in, words_at}
use Rattle.image.specs.Image.{blocks_in, free_count_in, sheets_in, map_in}

module _ (image : List ℕ) where
  pub blocks_in_lem : number_in image 0 ≡ blocks_in image
  unfolding number_in blocks_in
  blocks_in_lem = refl

  pub spare_in_lem : number_in image 1 ≡ free_count_in image
  unfolding number_in free_count_in
  spare_in_lem = refl

  pub sheets_in_lem : number_in image 2 ≡ sheets_in image
  unfolding number_in sheets_in
  sheets_in_lem = refl

-- the map
pub map_read : (image : List ℕ) (n c len : ℕ) (words : List ℕ) → len ≡ words_for n
    → words ≡ words_at (body_of image) (4 * (3 + 3 * c)) len → words ≡ map_in image n c
unfolding map_in
map_read image n c len words e r =
    let at : 4 * (3 + 3 * c) ≡ 12 + 12 * c = omega arith in
    r ∙ ap₂ (words_at (body_of image)) at e
