-- The entries that stand in an image: in order, and those of a frame, which stand one behind the other in the image too.
-- Assumes nothing.
use mathlib.Core.Path.{◌≡◌, refl, sym, ap, ap₂, ◌∙◌}
use mathlib.Core.List.{List, [], ◌∷◌, ◌++◌}
use Prim.Native.Nat.{ℕ, zero, suc, ◌+◌, ◌-◌, ◌*◌, ◌/◌, ◌%◌, ◌≤◌, ◌<◌, min}
use native.Mathlib.Omega.{arith}
use lib.ListN.{length}
use Rattle.block_bytes.specs.Numbers.{number_at}
use Rattle.catalogue.specs.declared.Entry.{Entry}
use Rattle.image_frames.specs.Frames.{body_of, total_of}
use Rattle.image_frames.specs.Numbers.{place_of, number_in}
use Rattle.image_frames.proofs.Numbered.{number_behind}
use Rattle.image.specs.Image.{entry_from, entries_from, entries_in}

abbrev entry : ℕ → ℕ → ℕ → Entry
entry m s l = record { mark = m; start = s; length = l }

-- an entry made of its three numbers
pub entry_made : (bytes : List ℕ) (at m s l : ℕ) → m ≡ number_at bytes at → s ≡ number_at bytes (at + 4)
    → l ≡ number_at bytes (at + 8) → entry m s l ≡ entry_from bytes at
entry_made bytes at m s l p q r =
    ap₂ (λ (x y : ℕ). entry x y l) p q ∙ ap (entry (number_at bytes at) (number_at bytes (at + 4))) r

-- of the body, by their numbers
pub entry_across : (image : List ℕ) (k m s l : ℕ) → m ≡ number_in image k → s ≡ number_in image (k + 1)
    → l ≡ number_in image (k + 2) → entry m s l ≡ entry_from (body_of image) (4 * k)
unfolding number_in
entry_across image k m s l p q r =
    let e1 : 4 * (k + 1) ≡ 4 * k + 4 = omega arith in
    let e2 : 4 * (k + 2) ≡ 4 * k + 8 = omega arith in
    entry_made (body_of image) (4 * k) m s l p (q ∙ ap (number_at (body_of image)) e1) (r ∙ ap (number_at (body_of image)) e2)

-- the entries from the i-th on, of `count` that are stored from byte `at` on
module _ (bytes : List ℕ) (at count : ℕ) where
  abbrev pub rest : ℕ → List Entry
  rest i = entries_from bytes (at + 12 * i) (count - i)

  pub rest_all : entries_from bytes at count ≡ rest 0
  rest_all = let a : at ≡ at + 12 * 0 = omega arith in let b : count ≡ count - 0 = omega arith in ap₂ (entries_from bytes) a b

  pub rest_none : (i : ℕ) → count ≤ i → rest i ≡ []
  unfolding entries_from
  rest_none i h = let e : count - i ≡ 0 = omega arith in ap (entries_from bytes (at + 12 * i)) e

  pub rest_more : (i : ℕ) → i < count → rest i ≡ entry_from bytes (at + 12 * i) ∷ rest (i + 1)
  unfolding entries_from
  rest_more i h =
      let e : count - i ≡ suc (count - (i + 1)) = omega arith in
      let next : at + 12 * i + 12 ≡ at + 12 * (i + 1) = omega arith in
      ap (entries_from bytes (at + 12 * i)) e
      ∙ ap (λ (x : ℕ). entry_from bytes (at + 12 * i) ∷ entries_from bytes x (count - (i + 1))) next

  -- and by an entry that was read
  pub rest_next : (i : ℕ) (e : Entry) → i < count → e ≡ entry_from bytes (at + 12 * i) → rest i ≡ e ∷ rest (i + 1)
  rest_next i e h ee = rest_more i h ∙ ap (λ (x : Entry). x ∷ rest (i + 1)) (sym ee)

-- some of them, and those behind
entries_split : (bytes : List ℕ) (at k m : ℕ) → entries_from bytes at (k + m)
    ≡ entries_from bytes at k ++ entries_from bytes (at + 12 * k) m
unfolding entries_from
entries_split bytes at zero m =
    let a : at ≡ at + 12 * 0 = omega arith in let b : 0 + m ≡ m = omega arith in ap₂ (entries_from bytes) a b
entries_split bytes at (suc k) m =
    let a : at + 12 + 12 * k ≡ at + 12 * suc k = omega arith in
    let b : suc k + m ≡ suc (k + m) = omega arith in
    ap (entries_from bytes at) b
    ∙ ap (λ (l : List Entry). entry_from bytes at ∷ l)
    (entries_split bytes (at + 12) k m
    ∙ ap (λ (x : ℕ). entries_from bytes (at + 12) k ++ entries_from bytes x m) a)

pub rest_split : (bytes : List ℕ) (at count i k : ℕ) → i + k ≤ count
    → rest bytes at count i ≡ entries_from bytes (at + 12 * i) k ++ rest bytes at count (i + k)
rest_split bytes at count i k h =
    let e : count - i ≡ k + (count - (i + k)) = omega arith in
    let a : at + 12 * i + 12 * k ≡ at + 12 * (i + k) = omega arith in
    ap (entries_from bytes (at + 12 * i)) e ∙ entries_split bytes (at + 12 * i) k (count - (i + k))
    ∙ ap (λ (x : ℕ). entries_from bytes (at + 12 * i) k ++ entries_from bytes x (count - (i + k))) a

-- entries whose numbers are the same
same_entries : (xs ys : List ℕ) (p q count : ℕ)
    → ((j : ℕ) → j < 3 * count → number_at xs (p + 4 * j) ≡ number_at ys (q + 4 * j))
    → entries_from xs p count ≡ entries_from ys q count
unfolding entries_from
same_entries xs ys p q zero h = refl
same_entries xs ys p q (suc count) h =
    let number : (j a b : ℕ) → j < 3 * suc count → a ≡ p + 4 * j → b ≡ q + 4 * j → number_at xs a ≡ number_at ys b =
    λ j a b u ea eb. ap (number_at xs) ea ∙ h j u ∙ ap (number_at ys) (sym eb) in
    ap₂ (λ (x : Entry) (l : List Entry). x ∷ l)
    (entry_made ys q (number_at xs p) (number_at xs (p + 4)) (number_at xs (p + 8))
    (number 0 p q (omega arith) (omega arith) (omega arith))
    (number 1 (p + 4) (q + 4) (omega arith) (omega arith) (omega arith))
    (number 2 (p + 8) (q + 8) (omega arith) (omega arith) (omega arith)))
    (same_entries xs ys (p + 12) (q + 12) count
    (λ j u. number (j + 3) (p + 12 + 4 * j) (q + 12 + 4 * j) (omega arith) (omega arith) (omega arith)))

-- the entry of which one frame has all three numbers
pub entry_together : (image : List ℕ) (k at : ℕ) → at ≡ place_of k → k / 124 < total_of image → k % 124 < 122
    → entry_from image at ≡ entry_from (body_of image) (4 * k)
entry_together image k at e inside fit =
    let number : (j a b : ℕ) → j < 3 → a ≡ place_of k + 4 * j → b ≡ 4 * k + 4 * j
    → number_at image a ≡ number_at (body_of image) b =
    λ j a b u ea eb.
    ap (number_at image) ea ∙ number_behind image k j inside (omega arith) ∙ ap (number_at (body_of image)) (sym eb) in
    entry_made (body_of image) (4 * k) (number_at image at) (number_at image (at + 4)) (number_at image (at + 8))
    (number 0 at (4 * k) (omega arith) (omega arith) (omega arith))
    (number 1 (at + 4) (4 * k + 4) (omega arith) (omega arith) (omega arith))
    (number 2 (at + 8) (4 * k + 8) (omega arith) (omega arith) (omega arith))

room : (q r count len : ℕ) → q < len / 512 → r + 3 * count ≤ 124 → 512 * q + 8 + 4 * r + 12 * count ≤ len
room q r count len inside fit = omega arith

-- the entries that stand whole in the frame where that of a sheet begins, before that of sheet c
module _ (image : List ℕ) (sheet c count : ℕ) (below : sheet < c) (inside : 3 + 3 * c ≤ 124 * total_of image)
    (e : count ≡ min ((124 - (3 + 3 * sheet) % 124) / 3) (c - sheet)) where
  pub together_few : sheet + count ≤ c
  together_few = omega arith

  pub together_room : (at : ℕ) → at ≡ place_of (3 + 3 * sheet) → at + 12 * count ≤ length image
  together_room at ea =
      let fit : (3 + 3 * sheet) % 124 + 3 * count ≤ 124 = omega arith in
      let first : (3 + 3 * sheet) / 124 < total_of image = omega arith in
      let r = room ((3 + 3 * sheet) / 124) ((3 + 3 * sheet) % 124) count (length image) first fit in
      omega arith

  -- first they, and then those behind
  pub together_first : (at : ℕ) → at ≡ place_of (3 + 3 * sheet)
      → rest (body_of image) 12 c sheet ≡ entries_from image at count ++ rest (body_of image) 12 c (sheet + count)
  together_first at ea =
      rest_split (body_of image) 12 c sheet count together_few
      ∙ ap (λ (l : List Entry). l ++ rest (body_of image) 12 c (sheet + count)) (sym same)
    where
      same : entries_from image at count ≡ entries_from (body_of image) (12 + 12 * sheet) count
      same = same_entries image (body_of image) at (12 + 12 * sheet) count (λ j u.
          let a : at + 4 * j ≡ place_of (3 + 3 * sheet) + 4 * j = omega arith in
          let b : 4 * (3 + 3 * sheet) + 4 * j ≡ 12 + 12 * sheet + 4 * j = omega arith in
          ap (number_at image) a ∙ number_behind image (3 + 3 * sheet) j (omega arith) (omega arith)
          ∙ ap (number_at (body_of image)) b)

-- all entries of an image
pub rest_in : (image : List ℕ) (c : ℕ) → entries_in image c ≡ rest (body_of image) 12 c 0
unfolding entries_in
rest_in image c = rest_all (body_of image) 12 c

pub rest_across : (image : List ℕ) (c i : ℕ) (e : Entry) → i < c → e ≡ entry_from (body_of image) (4 * (3 + 3 * i))
    → rest (body_of image) 12 c i ≡ e ∷ rest (body_of image) 12 c (i + 1)
rest_across image c i e h ee =
    let z : 4 * (3 + 3 * i) ≡ 12 + 12 * i = omega arith in
    rest_next (body_of image) 12 c i e h (ee ∙ ap (entry_from (body_of image)) z)
