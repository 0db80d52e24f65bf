-- What a sealed block gives back, and that it is never blank (document 01, "Shape, catalogue, blocks").
-- Assumes nothing.
use mathlib.Core.Path.{◌≡◌, refl, sym, ap, ◌∙◌}
use mathlib.Core.Bool.{Bool, true, false, ◌&&◌, and-true, and-false}
use mathlib.Core.List.{List, [], ◌++◌, append_assoc, append-nil}
use Prim.Native.Nat.{ℕ, ◌<◌}
use native.Mathlib.Omega.{arith}
use lib.Dec.{eqb, lit<}
use lib.ListN.{length, take, drop, replicate, length-append}
use lib.Seq.{take_at, drop_at}
use borrow.Author.Tests.{eq-eqb, eqb-true}
use Rattle.block_bytes.specs.Numbers.{bytes4, number_at}
use Rattle.block_bytes.proofs.Numbers.{bytes4_length, number_at_lem}
use Rattle.block_seals.specs.Sealed.{sums, front, sealed, check_holds, blank, sound, payload_of}
use Rattle.block_seals.proofs.Checksum.{sums_below}
use Rattle.block_seals.proofs.Blank.{blank_append, blank_is_zeros, and_left, and_right}

module _ (sheet place : ℕ) (payload : List ℕ) (whole : length payload ≡ 496) where
  A : ℕ
  A = (sums 1 0 (front sheet place payload)).0

  B : ℕ
  B = (sums 1 0 (front sheet place payload)).1

  -- the block as its front and its sums, and as its parts one after the other
  by_front : sealed sheet place payload ≡ front sheet place payload ++ (bytes4 A ++ bytes4 B)
  unfolding sealed A B
  by_front = append_assoc (front sheet place payload) (bytes4 A) (bytes4 B)

  by_parts : sealed sheet place payload ≡ bytes4 sheet ++ (bytes4 place ++ (payload ++ (bytes4 A ++ bytes4 B)))
  by_parts =
      by_front
      ∙ append_assoc (bytes4 sheet ++ bytes4 place) payload (bytes4 A ++ bytes4 B)
      ∙ append_assoc (bytes4 sheet) (bytes4 place) (payload ++ (bytes4 A ++ bytes4 B))

  by_last : sealed sheet place payload ≡ front sheet place payload ++ bytes4 A ++ (bytes4 B ++ [])
  unfolding sealed A B
  by_last = ap (λ (l : List ℕ). front sheet place payload ++ bytes4 A ++ l) (sym (append-nil (bytes4 B)))

  eight : length (bytes4 sheet ++ bytes4 place) ≡ 8
  eight = omega (arith, length-append (bytes4 sheet) (bytes4 place), bytes4_length sheet, bytes4_length place)

  pub front_length : length (front sheet place payload) ≡ 504
  front_length = omega (arith, length-append (bytes4 sheet ++ bytes4 place) payload, eight)

  -- a sealed block has 512 bytes
  pub sealed_length : length (sealed sheet place payload) ≡ 512
  sealed_length =
      ap length by_front
      ∙ omega (
        arith,
        length-append (front sheet place payload) (bytes4 A ++ bytes4 B),
        length-append (bytes4 A) (bytes4 B),
        front_length,
        bytes4_length A,
        bytes4_length B,
      )

  -- its first 504 bytes are what was summed
  pub front_sealed : take 504 (sealed sheet place payload) ≡ front sheet place payload
  front_sealed = ap (take 504) by_front ∙ take_at (front sheet place payload) (bytes4 A ++ bytes4 B) 504 front_length

  -- its payload is the one sealed
  pub payload_sealed : payload_of (sealed sheet place payload) ≡ payload
  unfolding payload_of
  payload_sealed =
      ap (λ (l : List ℕ). take 496 (drop 8 l)) (by_front
      ∙ append_assoc (bytes4 sheet ++ bytes4 place) payload (bytes4 A ++ bytes4 B))
      ∙ ap (take 496) (drop_at (bytes4 sheet ++ bytes4 place) (payload ++ (bytes4 A ++ bytes4 B)) 8 eight)
      ∙ take_at payload (bytes4 A ++ bytes4 B) 496 whole

  -- it carries its sheet and its place
  pub sheet_sealed : sheet < 4294967296 → number_at (sealed sheet place payload) 0 ≡ sheet
  sheet_sealed h =
      ap (λ (l : List ℕ). number_at l 0) by_parts ∙ number_at_lem []
      (bytes4 place ++ (payload ++ (bytes4 A ++ bytes4 B))) sheet 0 refl h

  pub place_sealed : place < 4294967296 → number_at (sealed sheet place payload) 4 ≡ place
  place_sealed h =
      ap (λ (l : List ℕ). number_at l 4) by_parts
      ∙ number_at_lem (bytes4 sheet) (payload ++ (bytes4 A ++ bytes4 B)) place 4 (bytes4_length sheet) h

  -- its check holds
  pub check_sealed : check_holds (sealed sheet place payload) ≡ true
  unfolding check_holds A B
  check_sealed =
      let s = sums_below 1 0 (front sheet place payload) (lit< tt) (lit< tt) in
      let a : number_at (sealed sheet place payload) 504 ≡ A =
      ap (λ (l : List ℕ). number_at l 504) by_front
      ∙ number_at_lem (front sheet place payload) (bytes4 B) A 504 front_length (omega (arith, s.0)) in
      let b : number_at (sealed sheet place payload) 508 ≡ B =
      ap (λ (l : List ℕ). number_at l 508) by_last
      ∙ number_at_lem (front sheet place payload ++ bytes4 A) [] B 508
      (omega (arith, length-append (front sheet place payload) (bytes4 A), bytes4_length A, front_length))
      (omega (arith, s.1)) in
      rw (front_sealed, a, b, eq-eqb A A refl, eq-eqb B B refl)

  -- it is sound for its own sheet and place and for no other
  pub sound_sealed : (s p : ℕ) → sheet < 4294967296 → place < 4294967296
      → sound s p (sealed sheet place payload) ≡ eqb sheet s && eqb place p
  unfolding sound
  sound_sealed s p hs hp = rw (sheet_sealed hs, place_sealed hp, check_sealed, and-true)

  pub sound_own : sheet < 4294967296 → place < 4294967296 → sound sheet place (sealed sheet place payload) ≡ true
  sound_own hs hp = sound_sealed sheet place hs hp ∙ rw (eq-eqb sheet sheet refl, eq-eqb place place refl)

  pub sound_only : (s p : ℕ) → sheet < 4294967296 → place < 4294967296 → sound s p (sealed sheet place payload) ≡ true
      → (s ≡ sheet) × (p ≡ place)
  sound_only s p hs hp e =
      let both = sym (sound_sealed s p hs hp) ∙ e in (
        sym (eqb-true sheet s (and_left (eqb sheet s) (eqb place p) both)),
        sym (eqb-true place p (and_right (eqb sheet s) (eqb place p) both)),
      )

  -- it is never blank: over zeros alone A is 1
  pub blank_sealed : blank (sealed sheet place payload) ≡ false
  unfolding blank sums bytes4 A B
  blank_sealed = ap blank by_front ∙ blank_append (front sheet place payload) (bytes4 A ++ bytes4 B)
      ∙ by (blank (front sheet place payload)) refl
    where
      by : (r : Bool) → blank (front sheet place payload) ≡ r → r && blank (bytes4 A ++ bytes4 B) ≡ false
      by false e = refl
      by true e =
          ap (λ (l : List ℕ). blank (bytes4 (sums 1 0 l).0 ++ bytes4 (sums 1 0 l).1))
          (blank_is_zeros (front sheet place payload) e ∙ ap (λ (n : ℕ). replicate n 0) front_length)

-- zeros are sound for no sheet and place: over them A is 1
pub sound_zeros : (sheet place : ℕ) → sound sheet place (replicate 512 0) ≡ false
unfolding sound check_holds number_at sums
sound_zeros sheet place = rw (and-false (eqb 0 place), and-false (eqb 0 sheet))

-- sealing is injective in sheet, place and payload
pub sealed_injective : (s p t q : ℕ) (x y : List ℕ) → length x ≡ 496 → length y ≡ 496
    → s < 4294967296 → p < 4294967296 → t < 4294967296 → q < 4294967296
    → sealed s p x ≡ sealed t q y → (s ≡ t) × (p ≡ q) × (x ≡ y)
sealed_injective s p t q x y hx hy hs hp ht hq e = (
  sym (sheet_sealed s p x hx hs) ∙ ap (λ (l : List ℕ). number_at l 0) e ∙ sheet_sealed t q y hy ht,
  sym (place_sealed s p x hx hp) ∙ ap (λ (l : List ℕ). number_at l 4) e ∙ place_sealed t q y hy hq,
  sym (payload_sealed s p x hx) ∙ ap payload_of e ∙ payload_sealed t q y hy,
)
