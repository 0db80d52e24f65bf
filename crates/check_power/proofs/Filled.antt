-- A sealed block has three bytes at least that are not 0, so that no damage to one or two of its bytes makes a blank place of
-- it.
-- Assumes nothing.
use mathlib.Core.Path.{◌≡◌, refl, sym, ap, ◌∙◌}
use mathlib.Core.Bool.{true, false}
use mathlib.Core.List.{List, [], ◌∷◌, ◌++◌, append_assoc}
use Prim.Native.Nat.{ℕ, zero, suc, ◌+◌, ◌*◌, ◌%◌, ◌≤◌, ◌<◌}
use native.Mathlib.Omega.{arith}
use lib.Dec.{eqb, lit<}
use lib.ListN.{length, take, drop, replicate, length-append}
use lib.Seq.{take_at, drop_at}
use borrow.Author.Tests.{eqb-true}
use Rattle.laws.proofs.Bools.{and_left, and_right, not_true}
use Rattle.block_bytes.specs.Numbers.{bytes4, number_at}
use Rattle.block_bytes.proofs.Numbers.{number_at_lem, bytes4_length}
use Rattle.block_seals.specs.Sealed.{sums, front, sealed, blank}
use Rattle.image_frames.specs.Frames.{Bytes}
use Rattle.check_power.specs.Damage.{apart, Payload, Damaged}
use Rattle.check_power.proofs.Apart.{apart_split, apart_none}
use Rattle.check_power.proofs.Moves.{total, weighted, Moved, Twice, moved, twice, A-plain, B-plain}
use Rattle.check_power.proofs.Multiples.{no_turn}
use Rattle.check_power.proofs.Caught.{front_bytes}

-- ---- a blank block

blank_zeros : (l : List ℕ) → blank l ≡ true → l ≡ replicate (length l) 0
unfolding blank
blank_zeros [] e = refl
blank_zeros (x ∷ l) e =
    let first : x ≡ 0 = eqb-true x 0 (and_left (eqb x 0) (blank l) e) in
    let rest : l ≡ replicate (length l) 0 = blank_zeros l (and_right (eqb x 0) (blank l) e) in
    cc

-- ---- the bytes of A and B

zeros_number : number_at (replicate 4 0 ++ []) 0 ≡ 0
unfolding number_at
zeros_number = refl

not_none : (n : ℕ) → n < 4294967296 → (n ≡ 0 → ⊥) → 1 ≤ apart (replicate 4 0) (bytes4 n)
not_none n h other = by (apart (replicate 4 0) (bytes4 n)) refl
  where
    by : (k : ℕ) → apart (replicate 4 0) (bytes4 n) ≡ k → 1 ≤ k
    by zero e =
        absurd
        (other
        (sym (number_at_lem [] [] n 0 refl h)
        ∙ ap (λ (l : List ℕ). number_at (l ++ []) 0) (sym (apart_none (replicate 4 0) (bytes4 n) (sym (bytes4_length n)) e))
        ∙ zeros_number))
    by (suc k) e = omega arith

two_numbers : (a b : ℕ) → apart (replicate 8 0) (bytes4 a ++ bytes4 b)
    ≡ apart (replicate 4 0) (bytes4 a) + apart (replicate 4 0) (bytes4 b)
unfolding bytes4
two_numbers a b = apart_split 4 (replicate 8 0) (bytes4 a ++ bytes4 b)

-- ---- the first 504 bytes, beside zeros

-- A is 1 and B is 504: computed
sums_of_zeros : apart (replicate 4 0) (bytes4 (sums 1 0 (replicate 504 0)).0)
    + apart (replicate 4 0) (bytes4 (sums 1 0 (replicate 504 0)).1)
    ≡ 3
unfolding apart bytes4 sums
sums_of_zeros = refl

module _ (vs : List ℕ) (long : length vs ≡ 504) (small : Bytes vs) where
  us : List ℕ
  us = replicate 504 0

  A : ℕ
  A = (sums 1 0 vs).0

  B : ℕ
  B = (sums 1 0 vs).1

  no_total : total us ≡ 0
  unfolding us total
  no_total = refl

  no_weight : weighted us ≡ 0
  unfolding us weighted
  no_weight = refl

  zeros_long : length us ≡ 504
  unfolding us
  zeros_long = refl

  zeros_small : Bytes us
  unfolding us
  zeros_small = zeros 504
    where
      zeros : (n : ℕ) → Bytes (replicate n 0)
      zeros zero i = lit< tt
      zeros (suc n) zero = lit< tt
      zeros (suc n) (suc i) = zeros n i

  A-there : total vs ≤ 510 → 1 ≤ apart (replicate 4 0) (bytes4 A)
  unfolding A
  A-there h = not_none (sums 1 0 vs).0 (omega (arith, A-plain vs)) (λ z. omega (arith, A-plain vs))

  -- one byte that is not 0: so is A, and so is B
  one : Moved us vs → 2 ≤ apart (replicate 4 0) (bytes4 A) + apart (replicate 4 0) (bytes4 B)
  unfolding B
  one m =
      let a = A-there (omega (arith, m.in_total, no_total, m.y_byte)) in
      let b : 1 ≤ apart (replicate 4 0) (bytes4 (sums 1 0 vs).1) =
      not_none (sums 1 0 vs).1 (omega (arith, B-plain vs)) λ z.
      no_turn (weighted vs) m.w m.x m.y (omega (arith, m.w_high, zeros_long)) m.y_byte
      (sym m.in_weighted ∙ ap (λ (k : ℕ). k + m.w * m.y) no_weight)
      (ap (λ (k : ℕ). (k + weighted vs) % 65521) (lengths) ∙ sym (B-plain vs) ∙ z) in
      omega arith
    where
      lengths : 504 ≡ 0 + length vs * 1
      lengths = omega arith

  -- two: so is A
  two : Twice us vs → 1 ≤ apart (replicate 4 0) (bytes4 A)
  two m = A-there (omega (arith, m.in_total, no_total, m.y_byte, m.y'_byte))

  -- none
  none_there : us ≡ vs → apart (replicate 4 0) (bytes4 A) + apart (replicate 4 0) (bytes4 B) ≡ 3
  unfolding A B us
  none_there same =
      ap (λ (l : List ℕ). apart (replicate 4 0) (bytes4 (sums 1 0 l).0) + apart (replicate 4 0) (bytes4 (sums 1 0 l).1))
      (sym same)
      ∙ sums_of_zeros

  three_there : 3 ≤ apart us vs + apart (replicate 8 0) (bytes4 A ++ bytes4 B)
  three_there = by (apart us vs) refl
    where
      same-long : length us ≡ length vs
      same-long = zeros_long ∙ sym long

      by : (k : ℕ) → apart us vs ≡ k → 3 ≤ k + apart (replicate 8 0) (bytes4 A ++ bytes4 B)
      by zero e = omega (arith, two_numbers A B, none_there (apart_none us vs same-long e))
      by (suc zero) e = omega (arith, two_numbers A B, one (moved us vs same-long zeros_small small e))
      by (suc (suc zero)) e = omega (arith, two_numbers A B, two (twice us vs same-long zeros_small small e))
      by (suc (suc (suc k))) e = omega arith

-- ---- a sealed block

zeros_apart : (sheet place : ℕ) (payload : List ℕ) → Payload payload
    → 3 ≤ apart (replicate 512 0) (sealed sheet place payload)
unfolding sealed us A B
zeros_apart sheet place payload fits =
    let vs : List ℕ = front sheet place payload in
    let stored : List ℕ = bytes4 (sums 1 0 vs).0 ++ bytes4 (sums 1 0 vs).1 in
    let long : length vs ≡ 504 = front_long sheet place payload fits.whole in
    let whole : sealed sheet place payload ≡ vs ++ stored =
    append_assoc vs (bytes4 (sums 1 0 vs).0) (bytes4 (sums 1 0 vs).1) in
    omega (
      arith,
      apart_split 504 (replicate 512 0) (sealed sheet place payload),
      ap (λ (l : List ℕ). apart (replicate 504 0) (take 504 l)) whole,
      ap (apart (replicate 504 0)) (take_at vs stored 504 long),
      ap (λ (l : List ℕ). apart (replicate 8 0) (drop 504 l)) whole,
      ap (apart (replicate 8 0)) (drop_at vs stored 504 long),
      three_there vs long (front_bytes sheet place payload fits),
    )
  where
    front_long : (sheet place : ℕ) (payload : List ℕ) → length payload ≡ 496 → length (front sheet place payload) ≡ 504
    front_long sheet place payload e =
        omega (
          arith,
          length-append (bytes4 sheet ++ bytes4 place) payload,
          length-append (bytes4 sheet) (bytes4 place),
          bytes4_length sheet,
          bytes4_length place,
        )

pub never_blank : (sheet place : ℕ) (payload block : List ℕ) → Damaged sheet place payload block → blank block ≡ false
never_blank sheet place payload block d =
    not_true (blank block) λ e.
    let zeros : block ≡ replicate 512 0 = blank_zeros block e ∙ ap (λ (n : ℕ). replicate n 0) d.whole in
    omega (
      arith,
      d.few,
      ap (λ (b : List ℕ). apart b (sealed sheet place payload)) zeros,
      zeros_apart sheet place payload d.sealable,
    )
