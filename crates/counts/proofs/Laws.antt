-- The laws of request (e) of document 02, of what a read and a write of the crate's contracts give: what is written is read
-- back, and no other count is touched (`read_back`, `others_kept`, `bytes_kept`); what is read, written again, gives the same
-- payload, so each value has just one form (`written_again`, `one_form`); absent is four bytes of FF and nothing else, and
-- never a number (`absent_only_lem`, `number_only`); a refusal changes nothing (`refused_keeps`).
-- Assumes nothing.
use mathlib.Core.Path.{◌≡◌, refl, sym, ap, subst, ◌∙◌}
use mathlib.Core.Logic.{◌⊎◌, ⊎_elim, inl, inr}
use mathlib.Core.Bool.{Bool, true, false, cond}
use mathlib.Core.List.{List, [], ◌∷◌, ◌++◌}
use Prim.Native.Nat.{ℕ, ◌+◌, ◌*◌, ◌≤◌, ◌<◌}
use native.Mathlib.Omega.{arith}
use native.Mathlib.Nat.{add-zero}
use lib.Dec.{eqb, ltb, lit<}
use lib.ListN.{length, get_or, take, drop, length-drop, take-append-drop}
use lib.Seq.{get_or-drop, length-take-le, take_at, drop_at}
use borrow.Author.Tests.{eq-eqb, ne_eqb, eqb-true, eqb-false, lt-ltb, ltb-true, ltb-false}
use Rattle.laws.proofs.Bools.{order}
use Rattle.block_bytes.specs.Replaced.{replaced}
use Rattle.block_bytes.proofs.Replaced.{replaced_length, replaced_before, replaced_after}
use Rattle.std.specs.Prelude.{Some, None, Ok, Err}
use Rattle.counts.specs.Counts.{Count, Reading}
use Rattle.counts.specs.declared.CountError.TheVariants.{WrongLength, WrongCount}
use Rattle.counts.specs.Counts.{is_pair, pair_of, hundredths_of, is_absent, digits, count_of, read_of, four, bytes_at, form_of}
use Rattle.counts.specs.Counts.{in_range, write_answer, after_write}
use Rattle.counts.specs.Replies.{count_reply, count_from}
use Rattle.counts.specs.declared.CountReply.{CountReply}
use Rattle.counts.proofs.Tests.{write_wrong, write-none, write-range}
use Rattle.counts.proofs.Forms.{counted, form_length, form_read, Formed, formed}

-- ---- the bytes of a count in its payload

-- a payload of 496 bytes, and one of its counts
record Inside (payload : List ℕ) (which : ℕ) : Type 0 where
  long : length payload ≡ 496
  inside : which < 124

module _ (payload : List ℕ) (which : ℕ) (w : Inside payload which) where
  four_read : four
      (get_or payload (4 * which) 0)
      (get_or payload (4 * which + 1) 0)
      (get_or payload (4 * which + 2) 0)
      (get_or payload (4 * which + 3) 0)
      ≡ bytes_at payload which
  four_read = sym (parted rest (omega (arith, w.long, w.inside, length-drop (4 * which) payload)) ∙ places)
    where
      rest : List ℕ
      rest = drop (4 * which) payload

      parted : (l : List ℕ) → 4 ≤ length l → take 4 l ≡ four (get_or l 0 0) (get_or l 1 0) (get_or l 2 0) (get_or l 3 0)
      parted [] h = absurd (omega arith)
      parted (a ∷ []) h = absurd (omega arith)
      parted (a ∷ b ∷ []) h = absurd (omega arith)
      parted (a ∷ b ∷ c ∷ []) h = absurd (omega arith)
      parted (a ∷ b ∷ c ∷ d ∷ l) h = refl

      places : four (get_or rest 0 0) (get_or rest 1 0) (get_or rest 2 0) (get_or rest 3 0)
          ≡ four
          (get_or payload (4 * which) 0)
          (get_or payload (4 * which + 1) 0)
          (get_or payload (4 * which + 2) 0)
          (get_or payload (4 * which + 3) 0)
      places =
          rw (
            get_or-drop (4 * which) payload 0 0,
            get_or-drop (4 * which) payload 1 0,
            get_or-drop (4 * which) payload 2 0,
            get_or-drop (4 * which) payload 3 0,
            add-zero,
          )

  -- a read is of these four bytes
  read_bytes : read_of payload which ≡ counted (bytes_at payload which)
  unfolding read_of
  read_bytes = rw (eq-eqb (length payload) 496 w.long, lt-ltb which 124 w.inside) (ap counted four_read)

  -- four bytes put there, and the same four put back
  module _ (bytes : List ℕ) (size : length bytes ≡ 4) where
    fits : 4 * which + length bytes ≤ length payload
    fits = omega (arith, w.long, w.inside)

    put-inside : Inside (replaced payload (4 * which) bytes) which
    put-inside = record { long = replaced_length payload (4 * which) bytes fits ∙ w.long; inside = w.inside }

    put_there : bytes_at (replaced payload (4 * which) bytes) which ≡ bytes
    unfolding replaced
    put_there =
        let rest : List ℕ = drop (length bytes) (drop (4 * which) payload) in
        let front : length (take (4 * which) payload) ≡ 4 * which =
        length-take-le (4 * which) payload (omega (arith, w.long, w.inside)) in
        ap (take 4) (drop_at (take (4 * which) payload) (bytes ++ rest) (4 * which) front) ∙ take_at bytes rest 4 size

    put-elsewhere : (i : ℕ) → (i < 4 * which) ⊎ (4 * which + 4 ≤ i)
        → get_or (replaced payload (4 * which) bytes) i 0 ≡ get_or payload i 0
    put-elsewhere i (inl h) = replaced_before payload (4 * which) bytes fits i h
    put-elsewhere i (inr h) = replaced_after payload (4 * which) bytes fits i (omega arith)

  put_back : replaced payload (4 * which) (bytes_at payload which) ≡ payload
  unfolding replaced
  put_back =
      let rest : List ℕ = drop (4 * which) payload in
      let size : length (take 4 rest) ≡ 4 =
      length-take-le 4 rest (omega (arith, w.long, w.inside, length-drop (4 * which) payload)) in
      ap (λ (k : ℕ). take (4 * which) payload ++ (take 4 rest ++ drop k rest)) size
      ∙ ap (λ (l : List ℕ). take (4 * which) payload ++ l) (take-append-drop 4 rest)
      ∙ take-append-drop (4 * which) payload

-- ---- what is written

module _ (payload : List ℕ) (which : ℕ) (count : Count) where
  record Accepted : Type 0 where
    within : Inside payload which
    range : in_range count ≡ true
    after : after_write payload which count ≡ replaced payload (4 * which) (form_of count)

  accepted : write_answer payload which count ≡ 0 → Accepted
  unfolding after_write
  accepted e = by (eqb (length payload) 496) (ltb which 124) (in_range count) refl refl refl
    where
      by : (s t u : Bool) → eqb (length payload) 496 ≡ s → ltb which 124 ≡ t → in_range count ≡ u → Accepted
      by false t u es et eu =
          absurd (omega (arith, e, (write_wrong payload which count (eqb-false (length payload) 496 es)).0))
      by true false u es et eu =
          absurd (omega
          (arith, e, (write-none payload which count (eqb-true (length payload) 496 es) (ltb-false which 124 et)).0))
      by true true false es et eu =
          absurd (omega (arith, e, (write-range payload which count (eqb-true (length payload) 496 es) eu).0))
      by true true true es et eu = record {
        within = record { long = eqb-true (length payload) 496 es; inside = ltb-true which 124 et };
        range = eu;
        after = rw (eq-eqb (write_answer payload which count) 0 e);
      }

  -- what is written is read back
  pub read_back : write_answer payload which count ≡ 0 → read_of (after_write payload which count) which ≡ Ok count
  read_back e =
      let a = accepted e in
      let bytes : List ℕ = form_of count in
      ap (λ (l : List ℕ). read_of l which) a.after
      ∙ read_bytes (replaced payload (4 * which) bytes) which (put-inside payload which a.within bytes (form_length count))
      ∙ ap counted (put_there payload which a.within bytes (form_length count))
      ∙ form_read count a.range

  -- a refused write changes nothing
  pub refused_keeps : (write_answer payload which count ≡ 0 → ⊥) → after_write payload which count ≡ payload
  unfolding after_write
  refused_keeps h = rw (ne_eqb (write_answer payload which count) 0 h)

  -- by whether a write is accepted
  either : (P : List ℕ → Type 0) → P payload → (Accepted → P (replaced payload (4 * which) (form_of count)))
      → P (after_write payload which count)
  either P kept put = by (eqb (write_answer payload which count) 0) refl
    where
      by : (t : Bool) → eqb (write_answer payload which count) 0 ≡ t → P (after_write payload which count)
      by false e = subst P (sym (refused_keeps (eqb-false (write_answer payload which count) 0 e))) kept
      by true e =
          let a = accepted (eqb-true (write_answer payload which count) 0 e) in
          subst P (sym a.after) (put a)

  -- a write changes those four bytes only
  pub length_kept : length (after_write payload which count) ≡ length payload
  length_kept =
      either (λ l. length l ≡ length payload) refl λ a.
      (put-inside payload which a.within (form_of count) (form_length count)).long ∙ sym a.within.long

  pub bytes_kept : (i : ℕ) → (i < 4 * which) ⊎ (4 * which + 4 ≤ i)
      → get_or (after_write payload which count) i 0 ≡ get_or payload i 0
  bytes_kept i h =
      either (λ l. get_or l i 0 ≡ get_or payload i 0) refl λ a.
      put-elsewhere payload which a.within (form_of count) (form_length count) i h

  -- and leaves every other count as it was
  pub others_kept : (other : ℕ) → (other ≡ which → ⊥) → read_of (after_write payload which count) other ≡ read_of payload other
  unfolding read_of
  others_kept other h =
      let side : (i : ℕ) → i < 4 → (4 * other + i < 4 * which) ⊎ (4 * which + 4 ≤ 4 * other + i) =
      λ i small.
      ⊎_elim (λ (p : other < which). inl (omega arith)) (λ (p : which ≤ other). inr (omega arith)) (order other which) in
      let zeroth : get_or (after_write payload which count) (4 * other) 0 ≡ get_or payload (4 * other) 0 =
      rw add-zero at (bytes_kept (4 * other + 0) (side 0 (lit< tt))) in
      rw (
        length_kept,
        zeroth,
        bytes_kept (4 * other + 1) (side 1 (lit< tt)),
        bytes_kept (4 * other + 2) (side 2 (lit< tt)),
        bytes_kept (4 * other + 3) (side 3 (lit< tt)),
      )

-- ---- what is read

module _ (payload : List ℕ) (which : ℕ) (count : Count) (e : read_of payload which ≡ Ok count) where
  read_inside : Inside payload which
  unfolding read_of
  read_inside = by (eqb (length payload) 496) (ltb which 124) refl refl e
    where
      there : Reading
      there =
          count_of
          (get_or payload (4 * which) 0)
          (get_or payload (4 * which + 1) 0)
          (get_or payload (4 * which + 2) 0)
          (get_or payload (4 * which + 3) 0)

      by : (s t : Bool) → eqb (length payload) 496 ≡ s → ltb which 124 ≡ t
          → cond s (cond t there (Err WrongCount)) (Err WrongLength) ≡ Ok count → Inside payload which
      by false t es et e = absurd (let z : ◌≡◌ {A = ℕ} 0 1 = cc in omega arith)
      by true false es et e = absurd (let z : ◌≡◌ {A = ℕ} 0 1 = cc in omega arith)
      by true true es et e = record { long = eqb-true (length payload) 496 es; inside = ltb-true which 124 et }

  read_formed : Formed
      (get_or payload (4 * which) 0)
      (get_or payload (4 * which + 1) 0)
      (get_or payload (4 * which + 2) 0)
      (get_or payload (4 * which + 3) 0)
      count
  unfolding read_of
  read_formed =
      formed _ _ _ _ count
      (rw (eq-eqb (length payload) 496 read_inside.long, lt-ltb which 124 read_inside.inside) at e)

  -- the form of a count that was read is its four bytes: each value has just one form
  pub read_form : bytes_at payload which ≡ form_of count
  read_form = sym (four_read payload which read_inside) ∙ read_formed.form

  -- what is read, written again, gives the same payload
  pub written_again : (write_answer payload which count ≡ 0) × (after_write payload which count ≡ payload)
  unfolding write_answer after_write
  written_again =
      let l = eq-eqb (length payload) 496 read_inside.long in
      let i = lt-ltb which 124 read_inside.inside in (
        rw (l, i, read_formed.range),
        rw (l, i, read_formed.range, ← read_form, put_back payload which read_inside),
      )

pub one_form : (p q : List ℕ) (i j : ℕ) (count : Count) → read_of p i ≡ Ok count → read_of q j ≡ Ok count
    → bytes_at p i ≡ bytes_at q j
one_form p q i j count e f = read_form p i count e ∙ sym (read_form q j count f)

-- absent is four bytes of FF
pub absent_only_lem : (payload : List ℕ) (which : ℕ) → read_of payload which ≡ Ok None
    → bytes_at payload which ≡ four 255 255 255 255
unfolding form_of
absent_only_lem payload which e = read_form payload which None e

-- a number that is read is at most 99,999,999, and its bytes are not these
pub number_only : (payload : List ℕ) (which v : ℕ) → read_of payload which ≡ Ok (Some v)
    → (v ≤ 99999999) × (bytes_at payload which ≡ four 255 255 255 255 → ⊥)
unfolding in_range count_of is_absent
number_only payload which v e = (
  omega (arith, ltb-true v 100000000 (read_formed payload which (Some v) e).range),
  λ f.
      let w = read_inside payload which (Some v) e in
      let other : Ok (Some v) ≡ Ok None = sym e ∙ read_bytes payload which w ∙ ap counted f in
      let z : ◌≡◌ {A = ℕ} 0 1 = cc in
      omega arith,
)

-- ---- in C's numbers

-- what is written from C is read back, absent as absent
pub number_back : (payload : List ℕ) (which h : ℕ) → write_answer payload which (count_from h) ≡ 0
    → count_reply (read_of (after_write payload which (count_from h)) which) ≡ record { number = 0; hundredths = h }
number_back payload which h e =
    ap count_reply (read_back payload which (count_from h) e) ∙ by (eqb h 4294967295) refl
  where
    by : (t : Bool) → eqb h 4294967295 ≡ t
        → ◌≡◌ {A = CountReply} (count_reply (Ok (cond t None (Some h)))) (record { number = 0; hundredths = h })
    by true s = ap (λ (k : ℕ). record { number = 0; hundredths = k }) (sym (eqb-true h 4294967295 s))
    by false s = refl

-- ---- worked examples: 123.45, 0, the largest, absent, FF in one byte alone, and A for a digit

pub worked : (count_of 0x00 0x01 0x23 0x45 ≡ Ok (Some 12345)) × (count_of 0x00 0x00 0x00 0x00 ≡ Ok (Some 0))
    × (count_of 0x99 0x99 0x99 0x99 ≡ Ok (Some 99999999)) × (count_of 0xff 0xff 0xff 0xff ≡ Ok None)
    × (count_of 0xff 0x00 0x00 0x00 ≡ (Err WrongCount)) × (count_of 0x00 0x00 0x00 0x0a ≡ (Err WrongCount))
unfolding count_of is_absent digits hundredths_of is_pair pair_of
worked = (refl, refl, refl, refl, refl, refl)
