-- The numbers of a body: read from the image, and stored in it.
-- Assumes nothing.
use mathlib.Core.Path.{◌≡◌, sym, ap, ◌∙◌}
use mathlib.Core.Logic.{⊎_elim}
use mathlib.Core.Bool.{Bool, cond}
use mathlib.Core.List.{List}
use Prim.Native.Nat.{ℕ, ◌+◌, ◌-◌, ◌*◌, ◌/◌, ◌%◌, ◌≤◌, ◌<◌}
use native.Mathlib.Nat.{add-zero}
use native.Mathlib.Omega.{arith}
use lib.ListN.{length, get_or, get_or-eq_default}
use lib.Seq.{ext_get_or}
use borrow.Author.Tests.{lt-ltb, le-ltb}
use Rattle.laws.proofs.Bools.{order}
use Rattle.block_bytes.specs.Numbers.{bytes4, number_at}
use Rattle.block_bytes.proofs.Numbers.{bytes4_length}
use Rattle.image_frames.specs.Frames.{body_of, total_of}
use Rattle.block_bytes.specs.Replaced.{replaced}
use Rattle.block_bytes.proofs.Replaced.{replaced_length, replaced_before, replaced_in, replaced_after}
use Rattle.image_frames.specs.Numbers.{place_of, number_in, with_number}
use Rattle.image_frames.proofs.Bodies.{body_length, body_at}

-- numbers with the same four bytes
pub number_moved : (xs ys : List ℕ) (a b : ℕ) → ((y : ℕ) → y < 4 → get_or xs (a + y) 0 ≡ get_or ys (b + y) 0)
    → number_at xs a ≡ number_at ys b
unfolding number_at
number_moved xs ys a b h =
    let h0 : get_or xs a 0 ≡ get_or ys b 0 = ap (λ (x : ℕ). get_or xs x 0) (sym (add-zero a)) ∙ h 0 (omega arith)
    ∙ ap (λ (x : ℕ). get_or ys x 0) (add-zero b) in
    let h1 = h 1 (omega arith) in
    let h2 = h 2 (omega arith) in
    let h3 = h 3 (omega arith) in
    cc

module _ (image : List ℕ) (k : ℕ) where
  -- a number stands where its place says
  pub number_in_lem : k / 124 < total_of image → number_at image (place_of k) ≡ number_in image k
  unfolding number_in
  number_in_lem h =
      number_moved image (body_of image) (place_of k) (4 * k) (λ y u.
      let e : 512 * ((4 * k + y) / 496) + 8 + (4 * k + y) % 496 ≡ place_of k + y = omega arith in
      sym (body_at image (4 * k + y) (omega arith) ∙ ap (λ (x : ℕ). get_or image x 0) e))

  -- and those behind it in its frame stand behind it in the image
  pub number_behind : (j : ℕ) → k / 124 < total_of image → k % 124 + j < 124
      → number_at image (place_of k + 4 * j) ≡ number_at (body_of image) (4 * k + 4 * j)
  number_behind j h fit =
      number_moved image (body_of image) (place_of k + 4 * j) (4 * k + 4 * j) (λ y u.
      let e : 512 * ((4 * k + 4 * j + y) / 496) + 8 + (4 * k + 4 * j + y) % 496 ≡ place_of k + 4 * j + y = omega arith in
      sym (body_at image (4 * k + 4 * j + y) (omega arith) ∙ ap (λ (x : ℕ). get_or image x 0) e))

  -- past the end it is 0
  pub number_out : total_of image ≤ k / 124 → 0 ≡ number_in image k
  unfolding number_in number_at
  number_out h =
      let past : (y : ℕ) → get_or (body_of image) (4 * k + y) 0 ≡ 0 =
      λ y. get_or-eq_default (body_of image) 0 {n = 4 * k + y} (omega (arith, body_length image)) in
      let z : get_or (body_of image) (4 * k) 0 ≡ 0 = ap (λ (x : ℕ). get_or (body_of image) x 0) (sym (add-zero (4 * k)))
      ∙ past 0 in
      omega (arith, z, past 1, past 2, past 3)

  pub stored_in : (number : ℕ) → k / 124 < total_of image
      → with_number image k number ≡ replaced image (place_of k) (bytes4 number)
  unfolding with_number
  stored_in number h = ap (λ (t : Bool). cond t (replaced image (place_of k) (bytes4 number)) image)
      (lt-ltb (k / 124) (total_of image) h)

  pub stored_out : (number : ℕ) → total_of image ≤ k / 124 → with_number image k number ≡ image
  unfolding with_number
  stored_out number h = ap (λ (t : Bool). cond t (replaced image (place_of k) (bytes4 number)) image)
      (le-ltb (k / 124) (total_of image) h)

  pub stored_length : (number : ℕ) → length (with_number image k number) ≡ length image
  stored_length number =
      ⊎_elim
      (λ (lo : k / 124 < total_of image).
      ap length (stored_in number lo) ∙ replaced_length image (place_of k) (bytes4 number)
      (omega (arith, bytes4_length number)))
      (λ (hi : total_of image ≤ k / 124). ap length (stored_out number hi))
      (order (k / 124) (total_of image))

  -- storing a number replaces its four bytes of the body
  module _ (number : ℕ) (inside : k / 124 < total_of image) where
    new : List ℕ
    new = replaced image (place_of k) (bytes4 number)

    new-total : total_of new ≡ total_of image
    unfolding new
    new-total =
        ap (λ (n : ℕ). n / 512) (replaced_length image (place_of k) (bytes4 number) (omega (arith, bytes4_length number)))

    byte : (j : ℕ) → j < 496 * total_of image → get_or (body_of new) j 0
        ≡ get_or (replaced (body_of image) (4 * k) (bytes4 number)) j 0
    unfolding new
    byte j h =
        let l = bytes4_length number in
        let b = body_length image in
        let from : get_or (body_of new) j 0 ≡ get_or new (512 * (j / 496) + 8 + j % 496) 0 =
        body_at new j (omega (arith, new-total)) in
        let kept : get_or image (512 * (j / 496) + 8 + j % 496) 0 ≡ get_or (body_of image) j 0 = sym (body_at image j h) in
        ⊎_elim
        (λ (lo : j < 4 * k).
        ⊎_elim
        (λ (p : 512 * (j / 496) + 8 + j % 496 < place_of k).
        from ∙ replaced_before image (place_of k) (bytes4 number) (omega arith) (512 * (j / 496) + 8 + j % 496) p ∙ kept
        ∙ sym (replaced_before (body_of image) (4 * k) (bytes4 number) (omega arith) j lo))
        (λ (p : place_of k ≤ 512 * (j / 496) + 8 + j % 496). absurd (omega arith))
        (order (512 * (j / 496) + 8 + j % 496) (place_of k)))
        (λ (hi : 4 * k ≤ j).
        ⊎_elim
        (λ (in4 : j < 4 * k + 4).
        let e : 512 * (j / 496) + 8 + j % 496 ≡ place_of k + (j - 4 * k) = omega arith in
        let q : j ≡ 4 * k + (j - 4 * k) = omega arith in
        from ∙ ap (λ (x : ℕ). get_or new x 0) e ∙ replaced_in image (place_of k) (bytes4 number) (omega arith) (j - 4 * k)
        (omega arith)
        ∙ sym (ap (λ (x : ℕ). get_or (replaced (body_of image) (4 * k) (bytes4 number)) x 0) q
        ∙ replaced_in (body_of image) (4 * k) (bytes4 number) (omega arith) (j - 4 * k) (omega arith)))
        (λ (out : 4 * k + 4 ≤ j).
        from ∙ replaced_after image (place_of k) (bytes4 number) (omega arith) (512 * (j / 496) + 8 + j % 496) (omega arith)
        ∙ kept
        ∙ sym (replaced_after (body_of image) (4 * k) (bytes4 number) (omega arith) j (omega arith)))
        (order j (4 * k + 4)))
        (order j (4 * k))

    pub stored-body : body_of (with_number image k number) ≡ replaced (body_of image) (4 * k) (bytes4 number)
    unfolding new
    stored-body =
        let t = new-total in
        ap body_of (stored_in number inside)
        ∙ ext_get_or 0 (body_of new) (replaced (body_of image) (4 * k) (bytes4 number))
        (body_length new ∙ ap (λ (x : ℕ). 496 * x) t ∙ sym (body_length image)
        ∙ sym (replaced_length (body_of image) (4 * k) (bytes4 number)
        (omega (arith, bytes4_length number, body_length image))))
        (λ j h. byte j (omega (arith, body_length new)))
