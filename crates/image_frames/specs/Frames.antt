-- The frames of an image (document 01, "Saved image"): each 496 bytes of the body travel in a 512-byte block with its number
-- from 0, the number of image blocks, and A and B. That is a sealed block, its number for the sheet and the total for the
-- place.
-- Assumes nothing.
use Rattle.std.specs.Prelude.{Bool, List, [], ◌++◌, ℕ, zero, suc, ◌/◌, ◌<◌, length, get_or, take, drop}
use Rattle.map_blocks.specs.Blocks.{all}
use Rattle.blocks_of_card.specs.Card.{block_of}
use Rattle.block_seals.specs.Sealed.{sealed, sound, payload_of}

-- Every element of a list is a byte, as those of a byte slice are.
abbrev pub Bytes : List ℕ → Type 0
Bytes bytes = (i : ℕ) → get_or bytes i 0 < 256

-- k image blocks of `total`, from number i on, that carry the bytes of a body.
unfoldable pub frames : ℕ → ℕ → ℕ → List ℕ → List ℕ
frames total i zero body = []
frames total i (suc k) body = sealed i total (take 496 body) ++ frames total (suc i) k (drop 496 body)

-- What the k image blocks from number i on carry, joined.
unfoldable pub bodies : List ℕ → ℕ → ℕ → List ℕ
bodies image i zero = []
bodies image i (suc k) = payload_of (block_of image i) ++ bodies image (suc i) k

-- How many whole blocks an image has.
abbrev pub total_of : List ℕ → ℕ
total_of image = length image / 512

-- The body that an image carries, in its whole blocks.
unfoldable pub body_of : List ℕ → List ℕ
unfolding bodies
body_of image = bodies image 0 (total_of image)

-- Every frame has its number, the total and its check.
unfoldable pub framed : List ℕ → Bool
framed image = all (λ i. sound i (total_of image) (block_of image i)) 0 (total_of image)

-- The image sealed: its blocks carry the body that stood there.
unfoldable pub sealed_image : List ℕ → List ℕ
unfolding frames body_of
sealed_image image = frames (total_of image) 0 (total_of image) (body_of image)
