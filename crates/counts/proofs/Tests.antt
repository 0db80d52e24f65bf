-- What the functions here answer, by the tests that the code makes.
-- Assumes nothing.
use mathlib.Core.Path.{◌≡◌, refl, sym, ap, ◌∙◌}
use mathlib.Core.Bool.{true, false, ◌&&◌, and-false}
use mathlib.Core.List.{List}
use Prim.Native.Nat.{ℕ, ◌+◌, ◌*◌, ◌/◌, ◌%◌, ◌-◌, ◌≤◌, ◌<◌}
use native.Mathlib.Omega.{arith}
use lib.Dec.{eqb, ltb}
use lib.ListN.{length, get_or}
use borrow.Rule.Slice.PartMut.{put_mid}
use borrow.Author.Tests.{eq-eqb, ne_eqb, eqb-true, lt-ltb, le-ltb, ltb-true}
use Rattle.laws.proofs.Bools.{and_left, and_right, not_true}
use Rattle.block_bytes.specs.Numbers.{bytes4, number_at}
use Rattle.block_bytes.specs.Replaced.{replaced}
use Rattle.std.specs.Prelude.{Some, None, Ok, Err}
use Rattle.counts.specs.Counts.{Count, Reading}
use Rattle.counts.specs.declared.CountError.TheVariants.{WrongLength, WrongCount}
use Rattle.counts.specs.Counts.{is_pair, pair_of, hundredths_of, byte_of, is_absent, digits, count_of, read_of, four, form_of}
use Rattle.counts.specs.Counts.{in_range, write_answer, after_write}
use Rattle.counts.proofs.Forms.{form_length}

pub sum_told : (a b c d p q r s : ℕ) → p ≡ pair_of a → q ≡ pair_of b → r ≡ pair_of c → s ≡ pair_of d
    → p * 1000000 + q * 10000 + r * 100 + s ≡ hundredths_of a b c d
unfolding hundredths_of
sum_told a b c d p q r s ep eq er es = cc

module _ (a b c d : ℕ) where
  number_present : digits a b c d ≡ true → is_absent a b c d ≡ false
  unfolding digits is_absent is_pair
  number_present e =
      let first = and_left (is_pair a) (is_pair b && (is_pair c && is_pair d)) e in
      let high : a / 16 < 10 = ltb-true (a / 16) 10 (and_left (ltb (a / 16) 10) (ltb (a % 16) 10) first) in
      rw (ne_eqb a 255 (λ z. omega arith))

  pub number_told : (v : ℕ) → digits a b c d ≡ true → v ≡ hundredths_of a b c d → Ok (Some v) ≡ count_of a b c d
  unfolding count_of
  number_told v e ev = rw (number_present e, e, ev)

  pub digit_refused : is_absent a b c d ≡ false → digits a b c d ≡ false → (Err WrongCount) ≡ count_of a b c d
  unfolding count_of
  digit_refused e t = rw (e, t)

-- a number is absent exactly if it is 4,294,967,295
pub absent_told : (n : ℕ) → n ≡ 4294967295 → Ok None ≡ count_of (n / 16777216) (n / 65536 % 256) (n / 256 % 256) (n % 256)
unfolding count_of is_absent
absent_told n e = ap (λ (k : ℕ). count_of (k / 16777216) (k / 65536 % 256) (k / 256 % 256) (k % 256)) (sym e)

pub not_absent : (n : ℕ) → (n ≡ 4294967295 → ⊥) → is_absent (n / 16777216) (n / 65536 % 256) (n / 256 % 256) (n % 256) ≡ false
unfolding is_absent
not_absent n h = not_true (is_absent (n / 16777216) (n / 65536 % 256) (n / 256 % 256) (n % 256)) λ e.
    let a = n / 16777216 in
    let b = n / 65536 % 256 in
    let c = n / 256 % 256 in
    let d = n % 256 in
    let e1 = and_right (eqb a 255) (eqb b 255 && (eqb c 255 && eqb d 255)) e in
    let e2 = and_right (eqb b 255) (eqb c 255 && eqb d 255) e1 in
    h
    (from_bytes
    (eqb-true a 255 (and_left (eqb a 255) (eqb b 255 && (eqb c 255 && eqb d 255)) e))
    (eqb-true b 255 (and_left (eqb b 255) (eqb c 255 && eqb d 255) e1))
    (eqb-true c 255 (and_left (eqb c 255) (eqb d 255) e2)) (eqb-true d 255 (and_right (eqb c 255) (eqb d 255) e2)))
  where
    steps : (a b c d x y : ℕ) → a ≡ 255 → b ≡ 255 → c ≡ 255 → d ≡ 255 → a * 256 + b ≡ x → x * 256 + c ≡ y → y * 256 + d ≡ n
        → n ≡ 4294967295
    steps a b c d x y p q r s e1 e2 e3 = omega arith

    from_bytes : n / 16777216 ≡ 255 → n / 65536 % 256 ≡ 255 → n / 256 % 256 ≡ 255 → n % 256 ≡ 255 → n ≡ 4294967295
    from_bytes p q r s =
        let one : n / 16777216 * 256 + n / 65536 % 256 ≡ n / 65536 = omega arith in
        let two : n / 65536 * 256 + n / 256 % 256 ≡ n / 256 = omega arith in
        let three : n / 256 * 256 + n % 256 ≡ n = omega arith in
        steps (n / 16777216) (n / 65536 % 256) (n / 256 % 256) (n % 256) (n / 65536) (n / 256) p q r s one two three

module _ (payload : List ℕ) (which : ℕ) where
  pub read_wrong : (length payload ≡ 496 → ⊥) → (Err WrongLength) ≡ read_of payload which
  unfolding read_of
  read_wrong h = rw (ne_eqb (length payload) 496 h)

  pub read_none : length payload ≡ 496 → 124 ≤ which → (Err WrongCount) ≡ read_of payload which
  unfolding read_of
  read_none l h = rw (eq-eqb (length payload) 496 l, le-ltb which 124 h)

  -- of the number stored there
  pub read_told : (n : ℕ) (r : Reading) → length payload ≡ 496 → which < 124 → ((i : ℕ) → get_or payload i 0 < 256)
      → n ≡ number_at payload (4 * which)
      → r ≡ count_of (n / 16777216) (n / 65536 % 256) (n / 256 % 256) (n % 256) → r ≡ read_of payload which
  unfolding read_of number_at
  read_told n r l h small en er =
      let a = get_or payload (4 * which) 0 in
      let b = get_or payload (4 * which + 1) 0 in
      let c = get_or payload (4 * which + 2) 0 in
      let d = get_or payload (4 * which + 3) 0 in
      let sa = small (4 * which) in
      let sb = small (4 * which + 1) in
      let sc = small (4 * which + 2) in
      let sd = small (4 * which + 3) in
      rw (eq-eqb (length payload) 496 l, lt-ltb which 124 h)
      (er
      ∙ four_bytes (n / 16777216) (n / 65536 % 256) (n / 256 % 256) (n % 256) a b c d
      (first n a b c d sa sb sc sd en)
      (second n a b c d sa sb sc sd en)
      (third n a b c d sc sd en)
      (fourth n a b c d sd en))
    where
      four_bytes : (p q r s a b c d : ℕ) → p ≡ a → q ≡ b → r ≡ c → s ≡ d → count_of p q r s ≡ count_of a b c d
      four_bytes p q r s a b c d ea eb ec ed = cc

      first : (n a b c d : ℕ) → a < 256 → b < 256 → c < 256 → d < 256
          → n ≡ a * 16777216 + b * 65536 + c * 256 + d → n / 16777216 ≡ a
      first n a b c d p q r s e = omega arith

      second : (n a b c d : ℕ) → a < 256 → b < 256 → c < 256 → d < 256
          → n ≡ a * 16777216 + b * 65536 + c * 256 + d → n / 65536 % 256 ≡ b
      second n a b c d p q r s e = omega arith

      third : (n a b c d : ℕ) → c < 256 → d < 256 → n ≡ a * 16777216 + b * 65536 + c * 256 + d → n / 256 % 256 ≡ c
      third n a b c d r s e = omega arith

      fourth : (n a b c d : ℕ) → d < 256 → n ≡ a * 16777216 + b * 65536 + c * 256 + d → n % 256 ≡ d
      fourth n a b c d s e = omega arith

-- a number in range has eight digits
pub eight_digits : (count : Count) (v : ℕ) → in_range count ≡ true → count ≡ Some v → v < 100000000
unfolding in_range
eight_digits count v h e = ltb-true v 100000000 (sym (ap in_range e) ∙ h)

-- the four bytes of a number, and of the number that stands for absent
stored_bytes : (a b c d : ℕ) → a < 256 → b < 256 → c < 256 → d < 256
    → bytes4 (a * 16777216 + b * 65536 + c * 256 + d) ≡ four a b c d
unfolding bytes4
stored_bytes a b c d ha hb hc hd =
    let ea : (a * 16777216 + b * 65536 + c * 256 + d) / 16777216 % 256 ≡ a = omega arith in
    let eb : (a * 16777216 + b * 65536 + c * 256 + d) / 65536 % 256 ≡ b = omega arith in
    let ec : (a * 16777216 + b * 65536 + c * 256 + d) / 256 % 256 ≡ c = omega arith in
    let ed : (a * 16777216 + b * 65536 + c * 256 + d) % 256 ≡ d = omega arith in
    rw (ea, eb, ec, ed)

pub number_form : (v p q r s : ℕ) → (p ≡ byte_of (v / 1000000)) × (p < 256) → (q ≡ byte_of (v / 10000 % 100)) × (q < 256)
    → (r ≡ byte_of (v / 100 % 100)) × (r < 256) → (s ≡ byte_of (v % 100)) × (s < 256)
    → bytes4 (p * 16777216 + q * 65536 + r * 256 + s) ≡ form_of (Some v)
unfolding form_of
number_form v p q r s ep eq er es =
    stored_bytes p q r s ep.1 eq.1 er.1 es.1 ∙ rw (ep.0, eq.0, er.0, es.0)

pub absent_form : bytes4 4294967295 ≡ form_of None
unfolding bytes4 form_of
absent_form = refl

module _ (payload : List ℕ) (which : ℕ) (count : Count) where
  -- what a write leaves and answers
  abbrev pub Written : ℕ → List ℕ → Type 0
  Written answer after = (answer ≡ write_answer payload which count) × (after ≡ after_write payload which count)

  pub write_wrong : (length payload ≡ 496 → ⊥) → Written 3 payload
  unfolding write_answer after_write
  write_wrong h = (rw (ne_eqb (length payload) 496 h), rw (ne_eqb (length payload) 496 h))

  module _ (l : length payload ≡ 496) where
    pub write-none : 124 ≤ which → Written 16 payload
    unfolding write_answer after_write
    write-none h =
        (rw (eq-eqb (length payload) 496 l, le-ltb which 124 h), rw (eq-eqb (length payload) 496 l, le-ltb which 124 h))

    pub write-range : in_range count ≡ false → Written 16 payload
    unfolding write_answer after_write
    write-range h = (
      rw (eq-eqb (length payload) 496 l, h, and-false (ltb which 124)),
      rw (eq-eqb (length payload) 496 l, h, and-false (ltb which 124)),
    )

    -- the part that is lent for the count is given back
    pub write_done : (bytes : List ℕ) → which < 124 → in_range count ≡ true → bytes ≡ form_of count
        → Written 0 (put_mid (4 * which) (4 * which + 4 - 4 * which) payload bytes)
    unfolding write_answer after_write replaced
    write_done bytes h i e =
        let size : 4 * which + 4 - 4 * which ≡ 4 = omega arith in (
          rw (eq-eqb (length payload) 496 l, lt-ltb which 124 h, i),
          rw (eq-eqb (length payload) 496 l, lt-ltb which 124 h, i, e, size, form_length count),
        )
