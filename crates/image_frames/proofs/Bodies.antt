-- The body that an image carries, byte by byte.
-- Assumes nothing.
use mathlib.Core.Path.{◌≡◌, refl, ap, ◌∙◌}
use mathlib.Core.Logic.{⊎_elim}
use mathlib.Core.List.{List, ◌++◌}
use Prim.Native.Nat.{ℕ, zero, suc, ◌+◌, ◌-◌, ◌*◌, ◌/◌, ◌%◌, ◌≤◌, ◌<◌}
use native.Mathlib.Omega.{arith}
use lib.ListN.{length, get_or, take, drop, length-append, length-drop, get_or-append}
use lib.Seq.{get_or-append-add, get_or-take, get_or-drop, length-take-le}
use Rattle.laws.proofs.Bools.{order}
use Rattle.blocks_of_card.specs.Card.{block_of}
use Rattle.block_seals.specs.Sealed.{payload_of}
use Rattle.blocks_of_card.proofs.Card.{block_length}
use Rattle.image_frames.specs.Frames.{bodies, body_of, total_of}

pub payload_length : (block : List ℕ) → length block ≡ 512 → length (payload_of block) ≡ 496
unfolding payload_of
payload_length block e = length-take-le 496 (drop 8 block) (omega (arith, length-drop 8 block))

pub payload_at : (image : List ℕ) (i y : ℕ) → y < 496 → get_or (payload_of (block_of image i)) y 0
    ≡ get_or image (512 * i + 8 + y) 0
unfolding payload_of block_of
payload_at image i y h =
    let e : 512 * i + (8 + y) ≡ 512 * i + 8 + y = omega arith in
    get_or-take 496 (drop 8 (take 512 (drop (512 * i) image))) y 0 h ∙ get_or-drop 8 (take 512 (drop (512 * i) image)) y 0
    ∙ get_or-take 512 (drop (512 * i) image) (8 + y) 0 (omega arith) ∙ get_or-drop (512 * i) image (8 + y) 0
    ∙ ap (λ (x : ℕ). get_or image x 0) e

pub bodies_length : (image : List ℕ) (i k : ℕ) → 512 * (i + k) ≤ length image → length (bodies image i k) ≡ 496 * k
unfolding bodies
bodies_length image i zero h = refl
bodies_length image i (suc k) h =
    omega (
      arith,
      length-append (payload_of (block_of image i)) (bodies image (suc i) k),
      payload_length (block_of image i) (block_length image i (omega arith)),
      bodies_length image (suc i) k (omega arith),
    )

-- byte j of what the blocks from i on carry
pub bodies_at : (image : List ℕ) (i k j : ℕ) → 512 * (i + k) ≤ length image → j < 496 * k
    → get_or (bodies image i k) j 0 ≡ get_or image (512 * (i + j / 496) + 8 + j % 496) 0
unfolding bodies
bodies_at image i zero j h l = absurd (omega arith)
bodies_at image i (suc k) j h l =
    let p : List ℕ = payload_of (block_of image i) in
    let rest : List ℕ = bodies image (suc i) k in
    let long : length p ≡ 496 = payload_length (block_of image i) (block_length image i (omega arith)) in
    ⊎_elim
    (λ (lo : j < 496).
    let e : 512 * i + 8 + j ≡ 512 * (i + j / 496) + 8 + j % 496 = omega arith in
    get_or-append p rest 0 j (omega arith) ∙ payload_at image i j lo ∙ ap (λ (x : ℕ). get_or image x 0) e)
    (λ (hi : 496 ≤ j).
    let q : j ≡ length p + (j - 496) = omega arith in
    let e : 512 * (suc i + (j - 496) / 496) + 8 + (j - 496) % 496 ≡ 512 * (i + j / 496) + 8 + j % 496 = omega arith in
    ap (λ (x : ℕ). get_or (p ++ rest) x 0) q ∙ get_or-append-add p rest (j - 496) 0
    ∙ bodies_at image (suc i) k (j - 496) (omega arith) (omega arith) ∙ ap (λ (x : ℕ). get_or image x 0) e)
    (order j 496)

pub body_length : (image : List ℕ) → length (body_of image) ≡ 496 * total_of image
unfolding body_of
body_length image = bodies_length image 0 (total_of image) (omega arith)

pub body_at : (image : List ℕ) (j : ℕ) → j < 496 * total_of image
    → get_or (body_of image) j 0 ≡ get_or image (512 * (j / 496) + 8 + j % 496) 0
unfolding body_of
body_at image j h =
    let e : 512 * (0 + j / 496) + 8 + j % 496 ≡ 512 * (j / 496) + 8 + j % 496 = omega arith in
    bodies_at image 0 (total_of image) j (omega arith) h ∙ ap (λ (x : ℕ). get_or image x 0) e
