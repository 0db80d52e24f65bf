-- Cards whose blocks have their bytes of other blocks: byte by byte, block by block, one move after the other, and a move block
-- by block.
-- Assumes nothing.
use mathlib.Core.Path.{◌≡◌, refl, sym, ap, ap₂, ◌∙◌}
use mathlib.Core.Logic.{⊎_elim}
use mathlib.Core.Bool.{Bool, true, false, cond}
use mathlib.Core.List.{List}
use Prim.Native.Nat.{ℕ, zero, suc, ◌+◌, ◌-◌, ◌*◌, ◌/◌, ◌%◌, ◌≤◌, ◌<◌}
use native.Mathlib.Omega.{arith}
use lib.Dec.{eqb}
use lib.ListN.{length, get_or, drop}
use lib.Seq.{ext_get_or, get_or-take, get_or-drop}
use borrow.Author.Tests.{eq-eqb, ne_eqb, eqb-true, eqb-false, le-leb, lt-leb, lt-ltb, le-ltb}
use Rattle.laws.proofs.Bools.{order}
use Rattle.map_blocks.specs.Maps.{in_run}
use Rattle.block_bytes.specs.Replaced.{replaced}
use Rattle.block_bytes.proofs.Replaced.{replaced_length, replaced_before, replaced_in, replaced_after}
use Rattle.blocks_of_card.specs.Card.{block_of, with_block}
use Rattle.blocks_of_card.proofs.Card.{block_length, with_block_replaced}
use Rattle.closing_moves.specs.Moved.{bytes_from, sourced, moved_from, moved}

-- ---- bytes one by one

from_length : (f : ℕ → ℕ) (i m : ℕ) → length (bytes_from f i m) ≡ m
unfolding bytes_from
from_length f i zero = refl
from_length f i (suc m) = ap suc (from_length f (suc i) m)

from_at : (f : ℕ → ℕ) (i m j : ℕ) → j < m → get_or (bytes_from f i m) j 0 ≡ f (i + j)
unfolding bytes_from
from_at f i zero j h = absurd (omega arith)
from_at f i (suc m) zero h =
    let e : i ≡ i + 0 = omega arith in
    ap f e
from_at f i (suc m) (suc j) h =
    let e : suc i + j ≡ i + suc j = omega arith in
    from_at f (suc i) m j (omega arith) ∙ ap f e

-- ---- a card whose block b has the bytes of block g b
module _ (card : List ℕ) where
  pub sourced_length : (g : ℕ → ℕ) → length (sourced g card) ≡ length card
  unfolding sourced
  sourced_length g = from_length (λ j. get_or card (512 * g (j / 512) + j % 512) 0) 0 (length card)

  pub sourced_at : (g : ℕ → ℕ) (j : ℕ) → j < length card
      → get_or (sourced g card) j 0 ≡ get_or card (512 * g (j / 512) + j % 512) 0
  unfolding sourced
  sourced_at g j h =
      let z : 0 + j ≡ j = omega arith in
      from_at (λ j. get_or card (512 * g (j / 512) + j % 512) 0) 0 (length card) j h
      ∙ ap (λ (k : ℕ). get_or card (512 * g (k / 512) + k % 512) 0) z

  pub sourced_ext : (g : ℕ → ℕ) (l : List ℕ) → length l ≡ length card
      → ((j : ℕ) → j < length card → get_or l j 0 ≡ get_or card (512 * g (j / 512) + j % 512) 0) → l ≡ sourced g card
  sourced_ext g l n e =
      ext_get_or 0 l (sourced g card) (n ∙ sym (sourced_length g)) (λ j h.
      let h' : j < length card = omega (arith, n, h) in
      e j h' ∙ sym (sourced_at g j h'))

  pub sourced_same : (g h : ℕ → ℕ) → ((b : ℕ) → g b ≡ h b) → sourced g card ≡ sourced h card
  sourced_same g h e =
      sourced_ext h (sourced g card) (sourced_length g) (λ j l.
      sourced_at g j l ∙ ap (λ (b : ℕ). get_or card (512 * b + j % 512) 0) (e (j / 512)))

  pub sourced_self : (g : ℕ → ℕ) → ((b : ℕ) → g b ≡ b) → card ≡ sourced g card
  sourced_self g e = sourced_ext g card refl (λ j l.
      let z : j ≡ 512 * (j / 512) + j % 512 = omega arith in
      ap (λ (k : ℕ). get_or card k 0) z ∙ ap (λ (b : ℕ). get_or card (512 * b + j % 512) 0) (sym (e (j / 512))))

-- one after the other
pub sourced_twice : (card : List ℕ) (g h : ℕ → ℕ)
    → ((j : ℕ) → j < length card → 512 * h (j / 512) + j % 512 < length card)
    → sourced h (sourced g card) ≡ sourced (λ b. g (h b)) card
sourced_twice card g h inside =
    sourced_ext card (λ b. g (h b)) (sourced h (sourced g card))
    (sourced_length (sourced g card) h ∙ sourced_length card g) (λ j l.
    let at : ℕ = 512 * h (j / 512) + j % 512 in
    let d : (512 * h (j / 512) + j % 512) / 512 ≡ h (j / 512) = omega arith in
    let m : (512 * h (j / 512) + j % 512) % 512 ≡ j % 512 = omega arith in
    sourced_at (sourced g card) h j (omega (arith, sourced_length card g, l)) ∙ sourced_at card g at (inside j l)
    ∙ ap₂ (λ (x y : ℕ). get_or card (512 * g x + y) 0) d m)

-- ---- blocks

-- a byte of a block
block_at : (card : List ℕ) (b i : ℕ) → i < 512 → get_or (block_of card b) i 0 ≡ get_or card (512 * b + i) 0
unfolding block_of
block_at card b i h = get_or-take 512 (drop (512 * b) card) i 0 h ∙ get_or-drop (512 * b) card i 0

-- a block whose bytes are those of another
pub sourced_block : (card : List ℕ) (g : ℕ → ℕ) (b c : ℕ) → g b ≡ c → 512 * b + 512 ≤ length card → 512 * c + 512 ≤ length card
    → block_of (sourced g card) b ≡ block_of card c
sourced_block card g b c e hb hc =
    let n : length (sourced g card) ≡ length card = sourced_length card g in
    let lb : length (block_of (sourced g card) b) ≡ 512 = block_length (sourced g card) b (omega arith) in
    let lc : length (block_of card c) ≡ 512 = block_length card c hc in
    ext_get_or 0 (block_of (sourced g card) b) (block_of card c) (lb ∙ sym lc) (λ i l.
    let u : i < 512 = omega arith in
    let d : (512 * b + i) / 512 ≡ b = omega arith in
    let m : (512 * b + i) % 512 ≡ i = omega arith in
    block_at (sourced g card) b i u ∙ sourced_at card g (512 * b + i) (omega arith)
    ∙ ap₂ (λ (x y : ℕ). get_or card (512 * x + y) 0) (ap g d ∙ e) m ∙ sym (block_at card c i u))

-- the block whose bytes block x has, once block b has those of block d
abbrev one_from : ℕ → ℕ → ℕ → ℕ
one_from b d x = cond (eqb x b) d x

module _ (card : List ℕ) (b d : ℕ) (to : 512 * b + 512 ≤ length card) (from : 512 * d + 512 ≤ length card) where
  abbrev ys : List ℕ
  ys = block_of card d

  long : length ys ≡ 512
  long = block_length card d from

  room : 512 * b + length ys ≤ length card
  room = omega (arith, long)

  same : (j : ℕ) → eqb (j / 512) b ≡ true → get_or (replaced card (512 * b) ys) j 0
      ≡ get_or card (512 * one_from b d (j / 512) + j % 512) 0
  same j e =
      let q : j / 512 ≡ b = eqb-true (j / 512) b e in
      let at : j ≡ 512 * b + j % 512 = omega arith in
      let u : j % 512 < 512 = omega arith in
      ap (λ (k : ℕ). get_or (replaced card (512 * b) ys) k 0) at
      ∙ replaced_in card (512 * b) ys room (j % 512) (omega (arith, long)) ∙ block_at card d (j % 512) u
      ∙ ap (λ (t : Bool). get_or card (512 * cond t d (j / 512) + j % 512) 0) (sym e)

  other : (j : ℕ) → eqb (j / 512) b ≡ false → get_or (replaced card (512 * b) ys) j 0
      ≡ get_or card (512 * one_from b d (j / 512) + j % 512) 0
  other j e =
      let at : j ≡ 512 * (j / 512) + j % 512 = omega arith in
      let ne = eqb-false (j / 512) b e in
      ⊎_elim
      (λ (h : j < 512 * b). replaced_before card (512 * b) ys room j h)
      (λ (h : 512 * b ≤ j). replaced_after card (512 * b) ys room j (past j h ne))
      (order j (512 * b))
      ∙ ap (λ (k : ℕ). get_or card k 0) at
      ∙ ap (λ (t : Bool). get_or card (512 * cond t d (j / 512) + j % 512) 0) (sym e)
    where
      past : (j : ℕ) → 512 * b ≤ j → (j / 512 ≡ b → ⊥) → 512 * b + length ys ≤ j
      past j h ne =
          ⊎_elim (λ (l : j < 512 * b + 512). absurd (ne (omega arith)))
          (λ (l : 512 * b + 512 ≤ j). omega (arith, long)) (order j (512 * b + 512))

  one_moved : with_block card b (block_of card d) ≡ sourced (one_from b d) card
  one_moved =
      with_block_replaced card ys b long
      ∙ sourced_ext card (one_from b d) (replaced card (512 * b) ys) (replaced_length card (512 * b) ys room) (λ j h.
      by j (eqb (j / 512) b) refl)
    where
      by : (j : ℕ) (t : Bool) → eqb (j / 512) b ≡ t → get_or (replaced card (512 * b) ys) j 0
          ≡ get_or card (512 * one_from b d (j / 512) + j % 512) 0
      by j true e = same j e
      by j false e = other j e

-- ---- a move

run_in : (s l b : ℕ) → s ≤ b → b < s + l → in_run s l b ≡ true
run_in s l b p q = simp (le-leb s b p, lt-ltb b (s + l) q)

run_before : (s l b : ℕ) → b < s → in_run s l b ≡ false
run_before s l b p = simp (lt-leb s b p)

run_after : (s l b : ℕ) → s + l ≤ b → in_run s l b ≡ false
run_after s l b p = simp (le-leb s b (omega arith), le-ltb b (s + l) p)

module _ (to from k b : ℕ) where
  pub moved_in : to ≤ b → b < to + k → moved_from to from k b ≡ from + (b - to)
  moved_in p q = ap (λ (t : Bool). cond t (from + (b - to)) b) (run_in to k b p q)

  pub moved_before : b < to → moved_from to from k b ≡ b
  moved_before p = ap (λ (t : Bool). cond t (from + (b - to)) b) (run_before to k b p)

  pub moved_after : to + k ≤ b → moved_from to from k b ≡ b
  moved_after p = ap (λ (t : Bool). cond t (from + (b - to)) b) (run_after to k b p)

-- no block moves: to where it is, or none
stays : (to k b : ℕ) → moved_from to to k b ≡ b
stays to k b =
    ⊎_elim (λ (p : b < to). moved_before to to k b p)
    (λ (p : to ≤ b).
    ⊎_elim (λ (q : b < to + k). moved_in to to k b p q ∙ omega arith) (λ (q : to + k ≤ b). moved_after to to k b q)
    (order b (to + k)))
    (order b to)

pub moved_nowhere : (card : List ℕ) (to from k : ℕ) → from ≡ to → card ≡ moved card to from k
unfolding moved
moved_nowhere card to from k e =
    sourced_self card (moved_from to to k) (stays to k) ∙ ap (λ (s : ℕ). sourced (moved_from to s k) card) (sym e)

pub moved_none : (card : List ℕ) (to from : ℕ) → card ≡ moved card to from 0
unfolding moved
moved_none card to from = sourced_self card (moved_from to from 0) (λ b.
    ⊎_elim (λ (p : b < to). moved_before to from 0 b p) (λ (p : to ≤ b). moved_after to from 0 b (omega arith)) (order b to))

-- one block more
module _ (card : List ℕ) (to from i : ℕ) (down : to ≤ from) (inside : 512 * (from + i) + 512 ≤ length card) where
  abbrev one : ℕ → ℕ
  one = one_from (to + i) (from + i)

  one_at : one (to + i) ≡ from + i
  one_at = ap (λ (t : Bool). cond t (from + i) (to + i)) (eq-eqb (to + i) (to + i) refl)

  one_other : (x : ℕ) → (x ≡ to + i → ⊥) → one x ≡ x
  one_other x ne = ap (λ (t : Bool). cond t (from + i) x) (ne_eqb x (to + i) ne)

  within : (j : ℕ) → j < length card → 512 * one (j / 512) + j % 512 < length card
  within j h = by (eqb (j / 512) (to + i))
    where
      by : (t : Bool) → 512 * cond t (from + i) (j / 512) + j % 512 < length card
      by true = omega arith
      by false = omega arith

  composed : (x : ℕ) → moved_from to from i (one x) ≡ moved_from to from (i + 1) x
  composed x =
      ⊎_elim
      (λ (p : x < to + i).
      let e : one x ≡ x = one_other x (omega arith) in
      ap (moved_from to from i) e
      ∙ ⊎_elim (λ (q : x < to). moved_before to from i x q ∙ sym (moved_before to from (i + 1) x q))
      (λ (q : to ≤ x). moved_in to from i x q p ∙ sym (moved_in to from (i + 1) x q (omega arith))) (order x to))
      (λ (p : to + i ≤ x).
      ⊎_elim
      (λ (q : x < to + i + 1).
      let e : x ≡ to + i = omega arith in
      let s : from + i ≡ from + (x - to) = omega arith in
      ap (moved_from to from i) (ap one e ∙ one_at) ∙ moved_after to from i (from + i) (omega arith) ∙ s
      ∙ sym (moved_in to from (i + 1) x (omega arith) (omega arith)))
      (λ (q : to + i + 1 ≤ x).
      ap (moved_from to from i) (one_other x (omega arith)) ∙ moved_after to from i x p
      ∙ sym (moved_after to from (i + 1) x (omega arith)))
      (order x (to + i + 1)))
      (order x (to + i))

  moved_more : with_block (moved card to from i) (to + i) (block_of (moved card to from i) (from + i))
      ≡ moved card to from (i + 1)
  unfolding moved
  moved_more =
      let n : length (sourced (moved_from to from i) card) ≡ length card = sourced_length card (moved_from to from i) in
      one_moved (sourced (moved_from to from i) card) (to + i) (from + i) (omega arith) (omega arith)
      ∙ sourced_twice card (moved_from to from i) one within
      ∙ sourced_same card (λ x. moved_from to from i (one x)) (moved_from to from (i + 1)) composed

pub moved_next : (orig card next : List ℕ) (to from i : ℕ) → to ≤ from → 512 * (from + i) + 512 ≤ length orig
    → card ≡ moved orig to from i → next ≡ with_block card (to + i) (block_of card (from + i)) → next
    ≡ moved orig to from (i + 1)
moved_next orig card next to from i down inside e en =
    en ∙ ap (λ (l : List ℕ). with_block l (to + i) (block_of l (from + i))) e ∙ moved_more orig to from i down inside
