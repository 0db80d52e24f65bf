-- The frames of a body: their bodies are the body, they hold, and frames that hold are those of what they carry.
-- Assumes nothing.
use mathlib.Core.Path.{◌≡◌, refl, sym, ap, ap₂, subst, ◌∙◌}
use mathlib.Core.Logic.{⊎_elim}
use mathlib.Core.Bool.{true, ◌&&◌}
use mathlib.Core.List.{List, [], ◌∷◌, ◌++◌, append_assoc}
use Prim.Native.Nat.{ℕ, zero, suc, ◌+◌, ◌*◌, ◌/◌, ◌%◌, ◌≤◌, ◌<◌}
use native.Mathlib.Nat.{add-zero, zero-add}
use native.Mathlib.Omega.{arith}
use lib.Dec.{eqb}
use lib.ListN.{length, get_or, take, drop, length-append, length-take, length-drop, take-append-drop, drop_of_length-le}
use lib.ListN.{get_or-eq_default}
use lib.Seq.{take_at, drop_at, take-add, take_all, drop-drop, drop-append-add, drop-cons, length-take-le, get_or-take}
use lib.Seq.{get_or-drop}
use borrow.Author.Tests.{eqb-true}
use Rattle.map_blocks.specs.Blocks.{all}
use Rattle.laws.proofs.Bools.{and_left, and_right, order}
use Rattle.map_blocks.proofs.Runs.{all_intro, all_elim}
use Rattle.blocks_of_card.specs.Card.{block_of, with_block}
use Rattle.block_bytes.specs.Numbers.{bytes4, number_at}
use Rattle.block_seals.specs.Sealed.{sums, front, sealed, check_holds, sound, payload_of}
use Rattle.blocks_of_card.proofs.Card.{block_length, same_block, other_block, length_with_block}
use Rattle.block_seals.proofs.Sealed.{sealed_length, sound_own, payload_sealed}
use Rattle.image_frames.specs.Frames.{Bytes, frames, bodies, body_of, total_of, framed, sealed_image}
use Rattle.image_frames.proofs.Bodies.{payload_length}

part_length : (body : List ℕ) (k : ℕ) → length body ≡ 496 * suc k → length (take 496 body) ≡ 496
part_length body k e = length-take-le 496 body (omega arith)

rest_length : (body : List ℕ) (k : ℕ) → length body ≡ 496 * suc k → length (drop 496 body) ≡ 496 * k
rest_length body k e = length-drop 496 body ∙ omega arith

pub frames_length : (t i k : ℕ) (body : List ℕ) → length body ≡ 496 * k → length (frames t i k body) ≡ 512 * k
unfolding frames
frames_length t i zero body e = refl
frames_length t i (suc k) body e =
    omega (
      arith,
      length-append (sealed i t (take 496 body)) (frames t (suc i) k (drop 496 body)),
      sealed_length i t (take 496 body) (part_length body k e),
      frames_length t (suc i) k (drop 496 body) (rest_length body k e),
    )

-- block j of the frames
pub frames_block : (t i k j : ℕ) (body : List ℕ) → length body ≡ 496 * k → j < k
    → block_of (frames t i k body) j ≡ sealed (i + j) t (take 496 (drop (496 * j) body))
unfolding frames block_of
frames_block t i zero j body e h = absurd (omega arith)
frames_block t i (suc k) zero body e h =
    take_at (sealed i t (take 496 body)) (frames t (suc i) k (drop 496 body)) 512
    (sealed_length i t (take 496 body) (part_length body k e))
    ∙ ap (λ (x : ℕ). sealed x t (take 496 body)) (sym (add-zero i))
frames_block t i (suc k) (suc j) body e h =
    let first : List ℕ = sealed i t (take 496 body) in
    let l : length first ≡ 512 = sealed_length i t (take 496 body) (part_length body k e) in
    let at : 512 * suc j ≡ length first + 512 * j = omega arith in
    let back : 496 + 496 * j ≡ 496 * suc j = omega arith in
    let next : suc i + j ≡ i + suc j = omega arith in
    ap (λ (x : ℕ). take 512 (drop x (first ++ frames t (suc i) k (drop 496 body)))) at
    ∙ ap (take 512) (drop-append-add first (frames t (suc i) k (drop 496 body)) (512 * j))
    ∙ frames_block t (suc i) k j (drop 496 body) (rest_length body k e) (omega arith)
    ∙ ap₂ (λ (x : ℕ) (y : List ℕ). sealed x t (take 496 y)) next
    (drop-drop (496 * j) 496 body ∙ ap (λ (x : ℕ). drop x body) back)

-- what the frames carry is the body
module _ (t : ℕ) (body : List ℕ) (long : length body ≡ 496 * t) where
  part : (i : ℕ) → i < t → length (take 496 (drop (496 * i) body)) ≡ 496
  part i h = length-take-le 496 (drop (496 * i) body) (omega (arith, length-drop (496 * i) body))

  carried : (i k : ℕ) → i + k ≡ t → bodies (frames t 0 t body) i k ≡ drop (496 * i) body
  unfolding bodies
  carried i zero e = sym (drop_of_length-le body {i = 496 * i} (omega arith))
  carried i (suc k) e =
      let p : List ℕ = take 496 (drop (496 * i) body) in
      let next : 496 * i + 496 ≡ 496 * suc i = omega arith in
      ap₂ ◌++◌
      (ap payload_of (frames_block t 0 t i body long (omega arith)) ∙ payload_sealed (0 + i) t p (part i (omega arith)))
      (carried (suc i) k (omega arith) ∙ ap (λ (x : ℕ). drop x body) (sym next) ∙ sym (drop-drop 496 (496 * i) body))
      ∙ take-append-drop 496 (drop (496 * i) body)

  pub frames_total : total_of (frames t 0 t body) ≡ t
  frames_total = omega (arith, frames_length t 0 t body long)

  pub frames_body : body_of (frames t 0 t body) ≡ body
  unfolding body_of
  frames_body = ap (bodies (frames t 0 t body) 0) frames_total ∙ carried 0 t (omega arith)

  -- and they hold
  pub frames_hold : t < 4294967296 → framed (frames t 0 t body) ≡ true
  unfolding framed
  frames_hold small =
      let image : List ℕ = frames t 0 t body in
      ap (λ (k : ℕ). all (λ i. sound i k (block_of image i)) 0 k) frames_total
      ∙ all_intro (λ i. sound i t (block_of image i)) 0 t (λ i a h.
      ap (sound i t) (frames_block t 0 t i body long (omega arith)
      ∙ ap (λ (x : ℕ). sealed x t (take 496 (drop (496 * i) body))) (zero-add i))
      ∙ sound_own i t (take 496 (drop (496 * i) body)) (part i (omega arith)) (omega arith) small)

-- a block of the image, as the frames begin
this : (image : List ℕ) (i : ℕ) → take 512 (drop (512 * i) image) ≡ block_of image i
unfolding block_of
this image i = refl

-- blocks that carry the body of an image, each sealed, are its frames
pub sealed_blocks : (first image : List ℕ) (t i k : ℕ) → length first ≡ 512 * t → length image ≡ 512 * t → i + k ≡ t
    → ((j : ℕ) → j < t → block_of image j ≡ sealed j t (payload_of (block_of first j)))
    → drop (512 * i) image ≡ frames t i k (bodies first i k)
unfolding frames bodies
sealed_blocks first image t i zero long' long e good = drop_of_length-le image {i = 512 * i} (omega arith)
sealed_blocks first image t i (suc k) long' long e good =
    let p : List ℕ = payload_of (block_of first i) in
    let rest : List ℕ = bodies first (suc i) k in
    let lp : length p ≡ 496 = payload_length (block_of first i) (block_length first i (omega arith)) in
    let on : 512 * i + 512 ≡ 512 * suc i = omega arith in
    sym (take-append-drop 512 (drop (512 * i) image))
    ∙ ap₂ ◌++◌ (this image i ∙ good i (omega arith) ∙ ap (sealed i t) (sym (take_at p rest 496 lp)))
    (drop-drop 512 (512 * i) image ∙ ap (λ (x : ℕ). drop x image) on
    ∙ sealed_blocks first image t (suc i) k long' long (omega arith) good
    ∙ ap (frames t (suc i) k) (sym (drop_at p rest 496 lp)))

-- a number's bytes, each from the number
first : (a b c d : ℕ) → a < 256 → b < 256 → c < 256 → d < 256 → (a * 16777216 + b * 65536 + c * 256 + d) / 16777216 % 256 ≡ a
first a b c d p q r s = omega arith

second : (a b c d : ℕ) → a < 256 → b < 256 → c < 256 → d < 256 → (a * 16777216 + b * 65536 + c * 256 + d) / 65536 % 256 ≡ b
second a b c d p q r s = omega arith

third : (a b c d : ℕ) → c < 256 → d < 256 → (a * 16777216 + b * 65536 + c * 256 + d) / 256 % 256 ≡ c
third a b c d r s = omega arith

fourth : (a b c d : ℕ) → d < 256 → (a * 16777216 + b * 65536 + c * 256 + d) % 256 ≡ d
fourth a b c d s = omega arith

four : (n a b c d : ℕ) → n / 16777216 % 256 ≡ a → n / 65536 % 256 ≡ b → n / 256 % 256 ≡ c → n % 256 ≡ d
    → bytes4 n ≡ a ∷ b ∷ c ∷ d ∷ []
unfolding bytes4
four n a b c d p q r s = cc

take_four : (bytes : List ℕ) (at : ℕ) → at + 4 ≤ length bytes
    → take 4 (drop at bytes) ≡ get_or bytes at 0 ∷ get_or bytes (at + 1) 0 ∷ get_or bytes (at + 2) 0 ∷ get_or bytes (at + 3) 0
    ∷ []
take_four bytes at h =
    rw (
      drop-cons bytes at 0 (omega arith),
      drop-cons bytes (suc at) 0 (omega arith),
      drop-cons bytes (suc (suc at)) 0 (omega arith),
      drop-cons bytes (suc (suc (suc at))) 0 (omega arith),
    )
    (let e1 : suc at ≡ at + 1 = omega arith in
    let e2 : suc (suc at) ≡ at + 2 = omega arith in
    let e3 : suc (suc (suc at)) ≡ at + 3 = omega arith in
    ap₂ (λ (x y : ℕ). get_or bytes at 0 ∷ get_or bytes x 0 ∷ get_or bytes y 0 ∷ get_or bytes (suc (suc (suc at))) 0 ∷ []) e1 e2
    ∙ ap (λ (x : ℕ). get_or bytes at 0 ∷ get_or bytes (at + 1) 0 ∷ get_or bytes (at + 2) 0 ∷ get_or bytes x 0 ∷ []) e3)

-- the bytes of a stored number
pub bytes_back : (bytes : List ℕ) (at : ℕ) → Bytes bytes → at + 4 ≤ length bytes
    → bytes4 (number_at bytes at) ≡ take 4 (drop at bytes)
unfolding number_at
bytes_back bytes at small h =
    let a : ℕ = get_or bytes at 0 in
    let b : ℕ = get_or bytes (at + 1) 0 in
    let c : ℕ = get_or bytes (at + 2) 0 in
    let d : ℕ = get_or bytes (at + 3) 0 in
    let sa = small at in
    let sb = small (at + 1) in
    let sc = small (at + 2) in
    let sd = small (at + 3) in
    four (number_at bytes at) a b c d (first a b c d sa sb sc sd) (second a b c d sa sb sc sd) (third a b c d sc sd)
    (fourth a b c d sd)
    ∙ sym (take_four bytes at h)

bytes_drop : (n : ℕ) (l : List ℕ) → Bytes l → Bytes (drop n l)
bytes_drop n l h i = subst (λ (x : ℕ). x < 256) (sym (get_or-drop n l i 0)) (h (n + i))

bytes_take : (n : ℕ) (l : List ℕ) → Bytes l → Bytes (take n l)
bytes_take n l h i =
    ⊎_elim (λ p. subst (λ (x : ℕ). x < 256) (sym (get_or-take n l i 0 p)) (h i))
    (λ p. subst (λ (x : ℕ). x < 256) (sym (get_or-eq_default (take n l) 0 {n = i} (omega (arith, length-take n l))))
    (omega arith)) (order i n)

bytes_block : (image : List ℕ) (i : ℕ) → Bytes image → Bytes (block_of image i)
unfolding block_of
bytes_block image i h = bytes_take 512 (drop (512 * i) image) (bytes_drop (512 * i) image h)

-- a sound block is the sealed one of what it carries
pub block_back : (i t : ℕ) (b : List ℕ) → length b ≡ 512 → Bytes b → sound i t b ≡ true → sealed i t (payload_of b) ≡ b
unfolding sound check_holds sealed payload_of
block_back i t b len small e =
    let p : List ℕ = take 496 (drop 8 b) in
    let A : ℕ = (sums 1 0 (take 504 b)).0 in
    let B : ℕ = (sums 1 0 (take 504 b)).1 in
    let r1 = and_right (eqb (number_at b 0) i) (eqb (number_at b 4) t && check_holds b) e in
    let r2 = and_right (eqb (number_at b 4) t) (check_holds b) r1 in
    let ei : number_at b 0 ≡ i = eqb-true (number_at b 0) i
    (and_left (eqb (number_at b 0) i) (eqb (number_at b 4) t && check_holds b) e) in
    let et : number_at b 4 ≡ t = eqb-true (number_at b 4) t (and_left (eqb (number_at b 4) t) (check_holds b) r1) in
    let ea : number_at b 504 ≡ A = eqb-true (number_at b 504) A (and_left (eqb (number_at b 504) A) (eqb (number_at b 508) B)
    r2) in
    let eb : number_at b 508 ≡ B = eqb-true (number_at b 508) B
    (and_right (eqb (number_at b 504) A) (eqb (number_at b 508) B) r2) in
    let f0 : bytes4 i ≡ take 4 b = ap bytes4 (sym ei) ∙ bytes_back b 0 small (omega arith) in
    let f1 : bytes4 t ≡ take 4 (drop 4 b) = ap bytes4 (sym et) ∙ bytes_back b 4 small (omega arith) in
    let fa : bytes4 A ≡ take 4 (drop 504 b) = ap bytes4 (sym ea) ∙ bytes_back b 504 small (omega arith) in
    let fb : bytes4 B ≡ take 4 (drop 508 b) = ap bytes4 (sym eb) ∙ bytes_back b 508 small (omega arith) in
    let head : front i t p ≡ take 504 b = ap₂ (λ (x y : List ℕ). (x ++ y) ++ p) f0 f1
    ∙ ap (λ (x : List ℕ). x ++ p) (sym (take-add 4 4 b)) ∙ sym (take-add 8 496 b) in
    let tail : bytes4 A ++ bytes4 B ≡ drop 504 b =
    ap₂ ◌++◌ fa (fb ∙ ap (take 4) (sym (drop-drop 4 504 b))) ∙ sym (take-add 4 4 (drop 504 b))
    ∙ take_all 8 (drop 504 b) (omega (arith, length-drop 504 b)) in
    ap (λ (x : List ℕ). x ++ bytes4 (sums 1 0 x).0 ++ bytes4 (sums 1 0 x).1) head
    ∙ append_assoc (take 504 b) (bytes4 A) (bytes4 B) ∙ ap (λ (x : List ℕ). take 504 b ++ x) tail ∙ take-append-drop 504 b

-- frames that hold are those of what they carry
pub framed_back : (image : List ℕ) → Bytes image → length image ≡ 512 * total_of image → framed image ≡ true
    → sealed_image image ≡ image
unfolding framed sealed_image body_of
framed_back image small whole good =
    let t : ℕ = total_of image in
    sym (sealed_blocks image image t 0 t whole whole (omega arith) (λ j h.
    sym (block_back j t (block_of image j) (block_length image j (omega arith)) (bytes_block image j small)
    (all_elim (λ i. sound i t (block_of image i)) 0 t good j (omega arith) (omega arith)))))

-- sealing, block by block
pub record Sealing (first : List ℕ) (t i : ℕ) (image : List ℕ) : Type 0 where
  pub long : length image ≡ length first
  pub done : (j : ℕ) → j < i → block_of image j ≡ sealed j t (payload_of (block_of first j))
  pub left : (j : ℕ) → i ≤ j → block_of image j ≡ block_of first j

module _ (first : List ℕ) (t : ℕ) (whole : length first ≡ 512 * t) where
  pub sealing_more : (i : ℕ) (image : List ℕ) → i < t → Sealing first t i image
      → Sealing first t (i + 1) (with_block image i (sealed i t (payload_of (block_of image i))))
  sealing_more i image h s =
      let long : length image ≡ length first = s.long in
      let inside : 512 * i + 512 ≤ length image = omega arith in
      let p : List ℕ = payload_of (block_of image i) in
      let size = sealed_length i t p (payload_length (block_of image i) (block_length image i inside)) in
      record {
        long = length_with_block image (sealed i t p) i inside size ∙ long;
        done = λ j u.
            ⊎_elim (λ (lo : j < i). other_block image (sealed i t p) i inside size j (λ e. omega arith) ∙ s.done j lo)
            (λ (hi : i ≤ j).
            let e : j ≡ i = omega arith in
            ap (block_of (with_block image i (sealed i t p))) e ∙ same_block image (sealed i t p) i inside size
            ∙ ap (λ (b : List ℕ). sealed i t (payload_of b)) (s.left i (omega arith))
            ∙ ap (λ (x : ℕ). sealed x t (payload_of (block_of first x))) (sym e)) (order j i);
        left = λ j u. other_block image (sealed i t p) i inside size j (λ e. omega arith) ∙ s.left j (omega arith);
      }

  pub sealing_end : (i : ℕ) (image : List ℕ) → t ≤ i → t ≡ total_of first → Sealing first t i image → image ≡ sealed_image first
  unfolding sealed_image body_of
  sealing_end i image h e s =
      sealed_blocks first image t 0 t whole (s.long ∙ whole) (omega arith) (λ j u. s.done j (omega arith))
      ∙ ap (λ (x : ℕ). frames x 0 x (bodies first 0 x)) e
