-- What the check catches (document 02, request (i)).
-- Assumes nothing.
use mathlib.Core.Path.{◌≡◌, refl, sym, ap, ap₂, ◌∙◌}
use mathlib.Core.Bool.{true, false, and-false}
use mathlib.Core.Logic.{⊎_elim}
use mathlib.Core.List.{List, [], ◌∷◌, ◌++◌}
use Prim.Native.Nat.{ℕ, zero, suc, ◌+◌, ◌/◌, ◌≤◌, ◌<◌}
use native.Mathlib.Nat.{mod-lt}
use native.Mathlib.Omega.{arith}
use lib.Dec.{eqb, lit<}
use lib.ListN.{length, get_or, take, drop, set, length-drop, length-set, take-append-drop}
use lib.Seq.{take_all, drop-drop, length-take-le, get_or-set_same}
use borrow.Author.Tests.{eqb-true, eq-eqb}
use Rattle.laws.proofs.Bools.{and_left, and_right, not_true, order}
use Rattle.block_bytes.specs.Numbers.{bytes4, number_at}
use Rattle.block_bytes.proofs.Numbers.{number_at_lem}
use Rattle.block_seals.specs.Sealed.{sums, front, sealed, check_holds, sound}
use Rattle.block_seals.proofs.Sealed.{sealed_length, check_sealed}
use Rattle.block.specs.Calls.{check_answer}
use Rattle.image_frames.specs.Frames.{Bytes}
use Rattle.image_frames.proofs.Framing.{bytes_back}
use Rattle.check_power.specs.Damage.{apart, traded, Payload, Damaged, OneOrTwoRefused, OneOrTwoUnsound, OneRefused}
use Rattle.check_power.specs.Damage.{OtherByteRefused, TradeRefused, three, ThreeCanPass}
use Rattle.check_power.proofs.Apart.{apart_split, apart_none, apart_self, apart_set}
use Rattle.check_power.proofs.Moves.{moved, twice, A-moves, B-moves, one_moves}

-- ---- bytes

bytes_take : (n : ℕ) (l : List ℕ) → Bytes l → Bytes (take n l)
bytes_take zero l h i = lit< tt
bytes_take (suc n) [] h i = lit< tt
bytes_take (suc n) (x ∷ l) h zero = h 0
bytes_take (suc n) (x ∷ l) h (suc i) = bytes_take n l (λ j. h (suc j)) i

bytes_append : (xs ys : List ℕ) → Bytes xs → Bytes ys → Bytes (xs ++ ys)
bytes_append [] ys hx hy i = hy i
bytes_append (x ∷ xs) ys hx hy zero = hx 0
bytes_append (x ∷ xs) ys hx hy (suc i) = bytes_append xs ys (λ j. hx (suc j)) hy i

bytes_set : (l : List ℕ) (i a : ℕ) → Bytes l → a < 256 → Bytes (set l i a)
bytes_set [] i a h ha j = lit< tt
bytes_set (x ∷ l) zero a h ha zero = ha
bytes_set (x ∷ l) zero a h ha (suc j) = h (suc j)
bytes_set (x ∷ l) (suc i) a h ha zero = h 0
bytes_set (x ∷ l) (suc i) a h ha (suc j) = bytes_set l i a (λ k. h (suc k)) ha j

bytes_stored : (n : ℕ) → Bytes (bytes4 n)
unfolding bytes4
bytes_stored n zero = mod-lt (n / 16777216) (lit< tt)
bytes_stored n (suc zero) = mod-lt (n / 65536) (lit< tt)
bytes_stored n (suc (suc zero)) = mod-lt (n / 256) (lit< tt)
bytes_stored n (suc (suc (suc zero))) = mod-lt n (lit< tt)
bytes_stored n (suc (suc (suc (suc i)))) = lit< tt

-- ---- stored numbers: equal exactly if their bytes are

module _ (b c : List ℕ) (at : ℕ) (sb : Bytes b) (sc : Bytes c) (hb : at + 4 ≤ length b) (hc : at + 4 ≤ length c) where
  stored_small : (l : List ℕ) → Bytes l → number_at l at < 4294967296
  unfolding number_at
  stored_small l h = omega (arith, h at, h (at + 1), h (at + 2), h (at + 3))

  same_bytes : number_at b at ≡ number_at c at → take 4 (drop at b) ≡ take 4 (drop at c)
  same_bytes e = sym (bytes_back b at sb hb) ∙ ap bytes4 e ∙ bytes_back c at sc hc

  same_number : take 4 (drop at b) ≡ take 4 (drop at c) → number_at b at ≡ number_at c at
  same_number e =
      sym (number_at_lem [] [] (number_at b at) 0 refl (stored_small b sb))
      ∙ ap (λ (l : List ℕ). number_at (l ++ []) 0) (bytes_back b at sb hb ∙ e ∙ sym (bytes_back c at sc hc))
      ∙ number_at_lem [] [] (number_at c at) 0 refl (stored_small c sc)

-- ---- two blocks whose check holds are equal or differ at three places at the least

module _ (b c : List ℕ) (lb : length b ≡ 512) (lc : length c ≡ 512) (sb : Bytes b) (sc : Bytes c)
    (hb : check_holds b ≡ true) (hc : check_holds c ≡ true) where
  stored_a : (l : List ℕ) → check_holds l ≡ true → number_at l 504 ≡ (sums 1 0 (take 504 l)).0
  unfolding check_holds
  stored_a l h =
      eqb-true (number_at l 504) (sums 1 0 (take 504 l)).0 (and_left _ (eqb (number_at l 508) (sums 1 0 (take 504 l)).1) h)

  stored_b : (l : List ℕ) → check_holds l ≡ true → number_at l 508 ≡ (sums 1 0 (take 504 l)).1
  unfolding check_holds
  stored_b l h =
      eqb-true (number_at l 508) (sums 1 0 (take 504 l)).1 (and_right (eqb (number_at l 504) (sums 1 0 (take 504 l)).0) _ h)

  -- the places: among the first 504 bytes, in A and in B
  in_data : ℕ
  in_data = apart (take 504 b) (take 504 c)

  in_a : ℕ
  in_a = apart (take 4 (drop 504 b)) (take 4 (drop 504 c))

  in_b : ℕ
  in_b = apart (take 4 (drop 508 b)) (take 4 (drop 508 c))

  last : (l : List ℕ) → length l ≡ 512 → drop 4 (drop 504 l) ≡ take 4 (drop 508 l)
  last l h = drop-drop 4 504 l ∙ sym (take_all 4 (drop 508 l) (omega (arith, length-drop 508 l)))

  parts : apart b c ≡ in_data + (in_a + in_b)
  unfolding in_data in_a in_b
  parts =
      apart_split 504 b c
      ∙ ap (λ (n : ℕ). apart (take 504 b) (take 504 c) + n)
      (apart_split 4 (drop 504 b) (drop 504 c)
      ∙ ap (λ (n : ℕ). apart (take 4 (drop 504 b)) (take 4 (drop 504 c)) + n) (ap₂ apart (last b lb) (last c lc)))

  long : (l : List ℕ) → length l ≡ 512 → length (take 504 l) ≡ 504
  long l h = length-take-le 504 l (omega arith)

  four : (at : ℕ) → at + 4 ≤ 512 → length (take 4 (drop at b)) ≡ length (take 4 (drop at c))
  four at h =
      length-take-le 4 (drop at b) (omega (arith, length-drop at b))
      ∙ sym (length-take-le 4 (drop at c) (omega (arith, length-drop at c)))

  A-kept : in_a ≡ 0 → (sums 1 0 (take 504 b)).0 ≡ (sums 1 0 (take 504 c)).0
  unfolding in_a
  A-kept e =
      sym (stored_a b hb)
      ∙ same_number b c 504 sb sc (omega arith) (omega arith)
      (apart_none (take 4 (drop 504 b)) (take 4 (drop 504 c)) (four 504 (lit< tt)) e)
      ∙ stored_a c hc

  B-kept : in_b ≡ 0 → (sums 1 0 (take 504 b)).1 ≡ (sums 1 0 (take 504 c)).1
  unfolding in_b
  B-kept e =
      sym (stored_b b hb)
      ∙ same_number b c 508 sb sc (omega arith) (omega arith)
      (apart_none (take 4 (drop 508 b)) (take 4 (drop 508 c)) (four 508 (lit< tt)) e)
      ∙ stored_b c hc

  -- no change among the first 504 bytes: A and B are the same, and so are their bytes
  data_kept : in_data ≡ 0 → b ≡ c
  unfolding in_data in_a in_b
  data_kept e =
      let same : take 504 b ≡ take 504 c = apart_none (take 504 b) (take 504 c) (long b lb ∙ sym (long c lc)) e in
      let a : number_at b 504 ≡ number_at c 504 = stored_a b hb ∙ ap (λ (l : List ℕ). (sums 1 0 l).0) same
      ∙ sym (stored_a c hc) in
      let z : number_at b 508 ≡ number_at c 508 = stored_b b hb ∙ ap (λ (l : List ℕ). (sums 1 0 l).1) same
      ∙ sym (stored_b c hc) in
      sym (take-append-drop 504 b)
      ∙ ap₂ ◌++◌ same
      (sym (take-append-drop 4 (drop 504 b))
      ∙ ap₂ ◌++◌ (same_bytes b c 504 sb sc (omega arith) (omega arith) a)
      (last b lb ∙ same_bytes b c 508 sb sc (omega arith) (omega arith) z ∙ sym (last c lc))
      ∙ take-append-drop 4 (drop 504 c))
      ∙ take-append-drop 504 c

  -- one change there moves both sums, and only one of the stored numbers could follow
  one_in_data : in_data ≡ 1 → in_a + in_b ≤ 1 → ⊥
  unfolding in_data
  one_in_data e few =
      let m = moved (take 504 b) (take 504 c) (long b lb ∙ sym (long c lc)) (bytes_take 504 b sb) (bytes_take 504 c sc) e in
      ⊎_elim
      (λ (p : in_a < 1). A-moves (take 504 b) (take 504 c) (long b lb ∙ sym (long c lc)) (omega (arith, long b lb)) m
      (A-kept (omega arith)))
      (λ (p : 1 ≤ in_a). B-moves (take 504 b) (take 504 c) (long b lb ∙ sym (long c lc)) (omega (arith, long b lb)) m
      (B-kept (omega arith))) (order in_a 1)

  -- two changes there move one of the sums, and no stored number could follow
  two_in_data : in_data ≡ 2 → in_a ≡ 0 → in_b ≡ 0 → ⊥
  unfolding in_data
  two_in_data e ea eb =
      one_moves (take 504 b) (take 504 c) (long b lb ∙ sym (long c lc)) (omega (arith, long b lb))
      (twice (take 504 b) (take 504 c) (long b lb ∙ sym (long c lc)) (bytes_take 504 b sb) (bytes_take 504 c sc) e) (A-kept ea)
      (B-kept eb)

  pub equal_or_three : apart b c ≤ 2 → b ≡ c
  equal_or_three few = by in_data refl
    where
      by : (k : ℕ) → in_data ≡ k → b ≡ c
      by zero e = data_kept e
      by (suc zero) e = absurd (one_in_data e (omega (arith, parts)))
      by (suc (suc zero)) e = absurd (two_in_data e (omega (arith, parts)) (omega (arith, parts)))
      by (suc (suc (suc k))) e = absurd (omega (arith, parts))

-- ---- a sealed block

module _ (sheet place : ℕ) (payload : List ℕ) (fits : Payload payload) where
  long_sealed : length (sealed sheet place payload) ≡ 512
  long_sealed = sealed_length sheet place payload fits.whole

  pub front_bytes : Bytes (front sheet place payload)
  front_bytes =
      bytes_append (bytes4 sheet ++ bytes4 place) payload
      (bytes_append (bytes4 sheet) (bytes4 place) (bytes_stored sheet) (bytes_stored place)) fits.small

  sealed_bytes : Bytes (sealed sheet place payload)
  unfolding sealed
  sealed_bytes =
      let A : ℕ = (sums 1 0 (front sheet place payload)).0 in
      let B : ℕ = (sums 1 0 (front sheet place payload)).1 in
      bytes_append (front sheet place payload ++ bytes4 A) (bytes4 B)
      (bytes_append (front sheet place payload) (bytes4 A) front_bytes (bytes_stored A)) (bytes_stored B)

  -- a block as long that differs at place i differs somewhere
  changed : (block : List ℕ) (i : ℕ) → length block ≡ length (sealed sheet place payload)
      → (get_or block i 0 ≡ get_or (sealed sheet place payload) i 0 → ⊥) → 1 ≤ apart block (sealed sheet place payload)
  changed block i l d = by (apart block (sealed sheet place payload)) refl
    where
      by : (k : ℕ) → apart block (sealed sheet place payload) ≡ k → 1 ≤ k
      by zero e = absurd (d (ap (λ (b : List ℕ). get_or b i 0) (apart_none block (sealed sheet place payload) l e)))
      by (suc k) e = omega arith

-- the check does not hold: a block that passed it would be the sealed one
pub caught : (sheet place : ℕ) (payload block : List ℕ) → Damaged sheet place payload block → check_holds block ≡ false
caught sheet place payload block d =
    not_true (check_holds block) λ h.
    let l : List ℕ = sealed sheet place payload in
    let fits = d.sealable in
    let same : block ≡ l =
    equal_or_three block l d.whole (long_sealed sheet place payload fits) d.small
    (sealed_bytes sheet place payload fits) h (check_sealed sheet place payload fits.whole) d.few in
    omega (arith, d.some, ap (λ (b : List ℕ). apart b l) same, apart_self l)

pub one_or_two_refused : OneOrTwoRefused
unfolding check_answer
one_or_two_refused sheet place payload block d = rw (eq-eqb (length block) 512 d.whole, caught sheet place payload block d)

pub one_or_two_unsound : OneOrTwoUnsound
unfolding sound
one_or_two_unsound sheet place payload block d t p =
    rw (caught sheet place payload block d, and-false (eqb (number_at block 4) p), and-false (eqb (number_at block 0) t))

pub one_refused : OneRefused
one_refused sheet place payload block fits l s one =
    one_or_two_refused sheet place payload block
    (record { sealable = fits; whole = l; small = s; some = omega arith; few = omega arith })

pub other_byte_refused : OtherByteRefused
other_byte_refused sheet place payload i a fits hi ha other =
    let l : List ℕ = sealed sheet place payload in
    let long : length l ≡ 512 = long_sealed sheet place payload fits in
    one_or_two_refused sheet place payload (set l i a)
    (record {
      sealable = fits;
      whole = length-set l i a ∙ long;
      small = bytes_set l i a (sealed_bytes sheet place payload fits) ha;
      some = changed sheet place payload fits (set l i a) i (length-set l i a)
          (λ e. other (sym (get_or-set_same l i a 0 (omega arith)) ∙ e));
      few = omega (arith, apart_set l l i a, apart_self l);
    })

pub trade_refused : TradeRefused
trade_refused sheet place payload i fits hi unequal =
    let l : List ℕ = sealed sheet place payload in
    let x : ℕ = get_or l i 0 in
    let y : ℕ = get_or l (i + 1) 0 in
    let long : length l ≡ 512 = long_sealed sheet place payload fits in
    let small = sealed_bytes sheet place payload fits in
    let long-once : length (set l i y) ≡ length l = length-set l i y in
    let long-twice : length (traded l i) ≡ length l = length-set (set l i y) (i + 1) x ∙ long-once in
    one_or_two_refused sheet place payload (traded l i)
    (record {
      sealable = fits;
      whole = long-twice ∙ long;
      small = bytes_set (set l i y) (i + 1) x (bytes_set l i y small (small (i + 1))) (small i);
      some = changed sheet place payload fits (traded l i) (i + 1) long-twice
          (λ e. unequal (sym (get_or-set_same (set l i y) (i + 1) x 0 (omega arith)) ∙ e));
      few = omega (arith, apart_set (set l i y) l (i + 1) x, apart_set l l i y, apart_self l);
    })

pub three_can_pass : ThreeCanPass
unfolding three apart sealed sums bytes4 check_answer check_holds number_at
three_can_pass = (refl, refl)
