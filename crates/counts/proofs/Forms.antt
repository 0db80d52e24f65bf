-- Digits and the bytes that hold them: what is written is read back, and what is read is written as the bytes read.
-- Assumes nothing.
use mathlib.Core.Path.{◌≡◌, refl, sym, subst}
use mathlib.Core.Bool.{Bool, true, false, ◌&&◌, cond}
use mathlib.Core.List.{List}
use Prim.Native.Nat.{ℕ, ◌+◌, ◌*◌, ◌/◌, ◌%◌, ◌<◌}
use native.Mathlib.Omega.{arith}
use lib.Dec.{eqb, ltb}
use lib.ListN.{length, get_or}
use borrow.Author.Tests.{ne_eqb, eqb-true, lt-ltb, ltb-true}
use Rattle.laws.proofs.Bools.{and_left, and_right}
use Rattle.std.specs.Prelude.{Some, None, Ok, Err}
use Rattle.counts.specs.Counts.{Count, Reading}
use Rattle.counts.specs.declared.CountError.TheVariants.{WrongCount}
use Rattle.counts.specs.Counts.{is_pair, pair_of, hundredths_of, byte_of, is_absent, digits, count_of, four, form_of, in_range}

-- ---- two digits in a byte

pair_byte : (n : ℕ) → n < 100 → is_pair (byte_of n) ≡ true
unfolding is_pair byte_of
pair_byte n h =
    let hi : (n / 10 * 16 + n % 10) / 16 < 10 = omega arith in
    let lo : (n / 10 * 16 + n % 10) % 16 < 10 = omega arith in
    rw (lt-ltb _ _ hi, lt-ltb _ _ lo)

pair_of_byte : (n : ℕ) → pair_of (byte_of n) ≡ n
unfolding pair_of byte_of
pair_of_byte n = omega arith

byte_below : (n : ℕ) → n < 100 → byte_of n ≡ 255 → ⊥
unfolding byte_of
byte_below n h e = omega arith

module _ (x : ℕ) (p : is_pair x ≡ true) where
  high : x / 16 < 10
  unfolding is_pair
  high = ltb-true (x / 16) 10 (and_left _ (ltb (x % 16) 10) p)

  low : x % 16 < 10
  unfolding is_pair
  low = ltb-true (x % 16) 10 (and_right (ltb (x / 16) 10) _ p)

  pair_small : pair_of x < 100
  unfolding pair_of
  pair_small = omega (arith, high, low)

  byte_of_pair : byte_of (pair_of x) ≡ x
  unfolding pair_of byte_of
  byte_of_pair = omega (arith, high, low)

-- ---- the number of four pairs of digits, and its pairs

module _ (p q r s : ℕ) (hq : q < 100) (hr : r < 100) (hs : s < 100) where
  whole : ℕ
  whole = p * 1000000 + q * 10000 + r * 100 + s

  first_pair : whole / 1000000 ≡ p
  unfolding whole
  first_pair = omega arith

  second_pair : whole / 10000 % 100 ≡ q
  unfolding whole
  second_pair = omega arith

  third_pair : whole / 100 % 100 ≡ r
  unfolding whole
  third_pair = omega arith

  last_pair : whole % 100 ≡ s
  unfolding whole
  last_pair = omega arith

joined : (v : ℕ) → v / 1000000 * 1000000 + v / 10000 % 100 * 10000 + v / 100 % 100 * 100 + v % 100 ≡ v
joined v =
    let one : v / 1000000 * 100 + v / 10000 % 100 ≡ v / 10000 = omega arith in
    let two : v / 10000 * 100 + v / 100 % 100 ≡ v / 100 = omega arith in
    let three : v / 100 * 100 + v % 100 ≡ v = omega arith in
    steps (v / 1000000) (v / 10000 % 100) (v / 100 % 100) (v % 100) (v / 10000) (v / 100) one two three
  where
    steps : (p q r s n m : ℕ) → p * 100 + q ≡ n → n * 100 + r ≡ m → m * 100 + s ≡ v
        → p * 1000000 + q * 10000 + r * 100 + s ≡ v
    steps p q r s n m e1 e2 e3 = omega arith

-- ---- four bytes

-- the count of a list's first four bytes
abbrev pub counted : List ℕ → Reading
counted l = count_of (get_or l 0 0) (get_or l 1 0) (get_or l 2 0) (get_or l 3 0)

pub form_length : (count : Count) → length (form_of count) ≡ 4
unfolding form_of
form_length None = refl
form_length (Some v) = refl

-- the form of a count in range is read as that count
pub form_read : (count : Count) → in_range count ≡ true → counted (form_of count) ≡ Ok count
unfolding count_of is_absent digits hundredths_of form_of in_range
form_read None h = refl
form_read (Some v) h =
    let small : v < 100000000 = ltb-true v 100000000 h in
    let a : v / 1000000 < 100 = omega arith in
    let b : v / 10000 % 100 < 100 = omega arith in
    let c : v / 100 % 100 < 100 = omega arith in
    let d : v % 100 < 100 = omega arith in
    rw (
      ne_eqb (byte_of (v / 1000000)) 255 (byte_below (v / 1000000) a),
      pair_byte (v / 1000000) a,
      pair_byte (v / 10000 % 100) b,
      pair_byte (v / 100 % 100) c,
      pair_byte (v % 100) d,
      pair_of_byte (v / 1000000),
      pair_of_byte (v / 10000 % 100),
      pair_of_byte (v / 100 % 100),
      pair_of_byte (v % 100),
      joined v,
    )

-- what is read is in range, and its form is the bytes read
pub record Formed (a b c d : ℕ) (count : Count) : Type 0 where
  pub form : four a b c d ≡ form_of count
  pub range : in_range count ≡ true

module _ (a b c d : ℕ) where
  formed_absent : is_absent a b c d ≡ true → Formed a b c d None
  unfolding is_absent form_of in_range
  formed_absent e =
      let ea = eqb-true a 255 (and_left (eqb a 255) (eqb b 255 && (eqb c 255 && eqb d 255)) e) in
      let e1 = and_right (eqb a 255) (eqb b 255 && (eqb c 255 && eqb d 255)) e in
      let eb = eqb-true b 255 (and_left (eqb b 255) (eqb c 255 && eqb d 255) e1) in
      let e2 = and_right (eqb b 255) (eqb c 255 && eqb d 255) e1 in
      let ec = eqb-true c 255 (and_left (eqb c 255) (eqb d 255) e2) in
      let ed = eqb-true d 255 (and_right (eqb c 255) (eqb d 255) e2) in
      record { form = cc; range = refl }

  formed_number : digits a b c d ≡ true → Formed a b c d (Some (hundredths_of a b c d))
  unfolding form_of in_range digits hundredths_of whole
  formed_number e =
      let pa = and_left (is_pair a) (is_pair b && (is_pair c && is_pair d)) e in
      let e1 = and_right (is_pair a) (is_pair b && (is_pair c && is_pair d)) e in
      let pb = and_left (is_pair b) (is_pair c && is_pair d) e1 in
      let e2 = and_right (is_pair b) (is_pair c && is_pair d) e1 in
      let pc = and_left (is_pair c) (is_pair d) e2 in
      let pd = and_right (is_pair c) (is_pair d) e2 in
      let sa = pair_small a pa in
      let sb = pair_small b pb in
      let sc = pair_small c pc in
      let sd = pair_small d pd in
      let most : pair_of a * 1000000 + pair_of b * 10000 + pair_of c * 100 + pair_of d < 100000000 = omega arith in
      record {
        form =
            sym (rw (
              first_pair (pair_of a) (pair_of b) (pair_of c) (pair_of d) sb sc sd,
              second_pair (pair_of a) (pair_of b) (pair_of c) (pair_of d) sb sc sd,
              third_pair (pair_of a) (pair_of b) (pair_of c) (pair_of d) sb sc sd,
              last_pair (pair_of a) (pair_of b) (pair_of c) (pair_of d) sb sc sd,
              byte_of_pair a pa,
              byte_of_pair b pb,
              byte_of_pair c pc,
              byte_of_pair d pd,
            ));
        range = lt-ltb _ 100000000 most;
      }

  pub formed : (count : Count) → count_of a b c d ≡ Ok count → Formed a b c d count
  unfolding count_of
  formed count e = by (is_absent a b c d) (digits a b c d) refl refl e
    where
      by : (s t : Bool) → is_absent a b c d ≡ s → digits a b c d ≡ t
          → cond s (Ok None) (cond t (Ok (Some (hundredths_of a b c d))) (Err WrongCount)) ≡ Ok count → Formed a b c d count
      by true t es et e = subst (Formed a b c d) (cc) (formed_absent es)
      by false true es et e = subst (Formed a b c d) (cc) (formed_number et)
      by false false es et e = absurd (let z : ◌≡◌ {A = ℕ} 0 1 = cc in omega arith)
