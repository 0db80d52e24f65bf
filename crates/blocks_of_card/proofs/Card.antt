-- The blocks of a card: a block replaced or filled with zeros, all others as they were, and a block's part of a lent card.
-- Assumes nothing.
use mathlib.Core.Path.{◌≡◌, refl, sym, ap, ◌∙◌}
use mathlib.Core.Bool.{Bool, true, false}
use mathlib.Core.Logic.{⊎_elim}
use mathlib.Core.List.{List, [], ◌∷◌, ◌++◌}
use Prim.Native.Nat.{ℕ, zero, suc, ◌+◌, ◌*◌, ◌-◌, ◌<◌, ◌≤◌}
use native.Mathlib.Nat.{eq-or-lt_of_le}
use native.Mathlib.Omega.{arith}
use lib.Dec.{ltb}
use lib.ListN.{length, take, drop, replicate, length-take, length-drop}
use lib.Seq.{take_at, drop_at, take-take, drop-drop, length-take-le}
use borrow.Author.Tests.{ltb-true, ltb-false}
use borrow.Rule.Slice.PartMut.{mid_of, put_mid, mid_len, same_len_mid, take_put, drop_put}
use Rattle.std.proofs.lemmas.List.{length-replicate, replicate-append-replicate}
use Rattle.block_bytes.specs.Replaced.{replaced}
use Rattle.block_bytes.proofs.Replaced.{replaced_none, replaced_more}
use Rattle.block_seals.specs.Sealed.{payload_of}
use Rattle.blocks_of_card.specs.Card.{block_of, with_block, zeroed}

size : (a : ℕ) → a + 512 - a ≡ 512
size a = omega arith

-- the part of block b, as it is lent and as it comes back
pub lent : (card : List ℕ) (b : ℕ) → mid_of (512 * b) (512 * b + 512 - 512 * b) card ≡ block_of card b
unfolding block_of
lent card b = rw (size (512 * b))

pub lent_length : (card : List ℕ) (b : ℕ) → 512 * b + 512 ≤ length card
    → length (mid_of (512 * b) (512 * b + 512 - 512 * b) card) ≡ 512
lent_length card b h = mid_len (512 * b) (512 * b + 512) card h ∙ size (512 * b)

pub given_back : (card : List ℕ) (b : ℕ) (ys zs : List ℕ) → ys ≡ zs
    → put_mid (512 * b) (512 * b + 512 - 512 * b) card ys ≡ with_block card b zs
unfolding with_block
given_back card b ys zs e = rw (size (512 * b), e)

-- a part of a list that lies before n is a part of its first n elements
mid_before : (a k n : ℕ) (l : List ℕ) → a + k ≤ n → mid_of a k (take n l) ≡ mid_of a k l
mid_before zero k n l h = take-take k n l (omega arith)
mid_before (suc a) k zero l h = absurd (omega arith)
mid_before (suc a) k (suc n) [] h = refl
mid_before (suc a) k (suc n) (x ∷ l) h = mid_before a k n l (omega arith)

-- the part of the payload of block b, as it is lent
pub lent_payload : (card : List ℕ) (b : ℕ) → mid_of (512 * b + 8) (512 * b + 8 + 496 - (512 * b + 8)) card
    ≡ payload_of (block_of card b)
unfolding payload_of block_of
lent_payload card b =
    let e : 512 * b + 8 + 496 - (512 * b + 8) ≡ 496 = omega arith in
    rw (e, mid_before 8 496 512 (drop (512 * b) card) (omega arith), drop-drop)

pub block_length : (card : List ℕ) (b : ℕ) → 512 * b + 512 ≤ length card → length (block_of card b) ≡ 512
unfolding block_of
block_length card b h = simp (length-take, length-drop) (omega arith)

module _ (card bytes : List ℕ) (b : ℕ) (inside : 512 * b + 512 ≤ length card) (whole : length bytes ≡ 512) where
  -- the block replaced is read back
  pub same_block : block_of (with_block card b bytes) b ≡ bytes
  unfolding block_of with_block
  same_block =
      let n = length-take-le (512 * b) card (omega arith) in
      ap (take 512) (drop_at (take (512 * b) card) (bytes ++ drop 512 (drop (512 * b) card)) (512 * b) n)
      ∙ take_at bytes (drop 512 (drop (512 * b) card)) 512 whole

  -- any other is as it was
  before_block : (d : ℕ) → d < b → block_of (with_block card b bytes) d ≡ block_of card d
  unfolding block_of with_block
  before_block d h =
      sym (mid_before (512 * d) 512 (512 * b) (with_block card b bytes) (omega arith))
      ∙ ap (mid_of (512 * d) 512) (take_put (512 * b) 512 card bytes (omega arith))
      ∙ mid_before (512 * d) 512 (512 * b) card (omega arith)

  rest : drop (512 * b + 512) (with_block card b bytes) ≡ drop (512 * b + 512) card
  unfolding with_block
  rest =
      ap (λ (k : ℕ). drop (512 * b + 512) (put_mid (512 * b) k card bytes)) (sym (size (512 * b)))
      ∙ drop_put (512 * b) (512 * b + 512) card bytes (omega arith) inside (whole ∙ sym (size (512 * b)))

  after_block : (d : ℕ) → b < d → block_of (with_block card b bytes) d ≡ block_of card d
  unfolding block_of
  after_block d h =
      let m = 512 * d - (512 * b + 512) in
      let split : 512 * d ≡ 512 * b + 512 + (512 * d - (512 * b + 512)) = omega arith in
      ap (take 512)
      (ap (λ (k : ℕ). drop k (with_block card b bytes)) split ∙ sym (drop-drop m (512 * b + 512) (with_block card b bytes))
      ∙ ap (drop m) rest
      ∙ drop-drop m (512 * b + 512) card ∙ ap (λ (k : ℕ). drop k card) (sym split))

  pub other_block : (d : ℕ) → (d ≡ b → ⊥) → block_of (with_block card b bytes) d ≡ block_of card d
  other_block d n = by (ltb d b) refl
    where
      by : (t : Bool) → ltb d b ≡ t → block_of (with_block card b bytes) d ≡ block_of card d
      by true e = before_block d (ltb-true d b e)
      by false e = after_block d (omega (arith, ltb-false d b e))

  -- and the card is as long as before
  pub length_with_block : length (with_block card b bytes) ≡ length card
  unfolding with_block block_of
  length_with_block = same_len_mid (512 * b) 512 card bytes (whole ∙ sym (block_length card b inside))

-- k blocks from b on are zeros
pub length_zeroed : (card : List ℕ) (b k : ℕ) → 512 * (b + k) ≤ length card → length (zeroed card b k) ≡ length card
unfolding zeroed
length_zeroed card b zero h = refl
length_zeroed card b (suc k) h =
    let l = length_zeroed card b k (omega arith) in
    length_with_block (zeroed card b k) (replicate 512 0) (b + k) (omega arith) refl ∙ l

pub zeroed_inside : (card : List ℕ) (b k d : ℕ) → 512 * (b + k) ≤ length card → b ≤ d → d < b + k
    → block_of (zeroed card b k) d ≡ replicate 512 0
unfolding zeroed
zeroed_inside card b zero d h p q = absurd (omega arith)
zeroed_inside card b (suc k) d h p q =
    let l = length_zeroed card b k (omega arith) in
    ⊎_elim
    (λ (w : d ≡ b + k). rw w (same_block (zeroed card b k) (replicate 512 0) (b + k) (omega arith) refl))
    (λ (w : d < b + k). other_block (zeroed card b k) (replicate 512 0) (b + k) (omega arith) refl d (λ e. omega arith)
    ∙ zeroed_inside card b k d (omega arith) p w)
    (eq-or-lt_of_le {n = d} {m = b + k} (omega arith))

-- those before b and from b + k on are as they were
pub zeroed_before : (card : List ℕ) (b k d : ℕ) → 512 * (b + k) ≤ length card → d < b
    → block_of (zeroed card b k) d ≡ block_of card d
unfolding zeroed
zeroed_before card b zero d h q = refl
zeroed_before card b (suc k) d h q =
    let l = length_zeroed card b k (omega arith) in
    other_block (zeroed card b k) (replicate 512 0) (b + k) (omega arith) refl d (λ e. omega arith)
    ∙ zeroed_before card b k d (omega arith) q

pub zeroed_after : (card : List ℕ) (b k d : ℕ) → 512 * (b + k) ≤ length card → b + k ≤ d
    → block_of (zeroed card b k) d ≡ block_of card d
unfolding zeroed
zeroed_after card b zero d h q = refl
zeroed_after card b (suc k) d h q =
    let l = length_zeroed card b k (omega arith) in
    other_block (zeroed card b k) (replicate 512 0) (b + k) (omega arith) refl d (λ e. omega arith)
    ∙ zeroed_after card b k d (omega arith) (omega arith)

-- a block replaced, as bytes replaced
pub with_block_replaced : (card ys : List ℕ) (b : ℕ) → length ys ≡ 512 → with_block card b ys ≡ replaced card (512 * b) ys
unfolding with_block replaced
with_block_replaced card ys b e = rw e

zeros_length : (n : ℕ) → length (replicate {A = ℕ} n 0) ≡ n
zeros_length n = length-replicate n 0

-- so are k blocks, all at once
zeroed_replaced : (card : List ℕ) (b k : ℕ) → 512 * (b + k) ≤ length card
    → zeroed card b k ≡ replaced card (512 * b) (replicate (512 * k) 0)
unfolding zeroed
zeroed_replaced card b zero h = sym (replaced_none card (512 * b))
zeroed_replaced card b (suc k) h =
    let zeros : List ℕ = replicate (512 * k) 0 in
    let inside : 512 * b + length zeros ≤ length card = omega (arith, zeros_length (512 * k)) in
    let at : 512 * (b + k) ≡ 512 * b + length zeros = omega (arith, zeros_length (512 * k)) in
    let more : 512 * k + 512 ≡ 512 * suc k = omega arith in
    with_block_replaced (zeroed card b k) (replicate 512 0) (b + k) refl
    ∙ ap (λ (l : List ℕ). replaced l (512 * (b + k)) (replicate 512 0)) (zeroed_replaced card b k (omega arith))
    ∙ ap (λ (n : ℕ). replaced (replaced card (512 * b) zeros) n (replicate 512 0)) at
    ∙ replaced_more card (512 * b) zeros inside (replicate 512 0)
    ∙ ap (replaced card (512 * b)) (replicate-append-replicate (512 * k) 512 0
    ∙ ap (λ (n : ℕ). replicate n 0) more)

pub filled : (card ys : List ℕ) (b k : ℕ) → 512 * (b + k) ≤ length card → ys ≡ replicate (512 * k) 0
    → put_mid (512 * b) (512 * b + 512 * k - 512 * b) card ys ≡ zeroed card b k
unfolding replaced
filled card ys b k h e =
    let zeros : List ℕ = replicate (512 * k) 0 in
    let size : 512 * b + 512 * k - 512 * b ≡ length zeros = omega (arith, zeros_length (512 * k)) in
    rw (e, size) (sym (zeroed_replaced card b k h))
