-- What `in_term` and `write_term` answer, and the laws of a term: a term that is written is read back (`written-term`), and a
-- term whose first day is after its last holds no day (`turned_term`).
-- Assumes nothing.
use mathlib.Core.Path.{◌≡◌, refl, sym, ap, ap₂, ◌∙◌}
use mathlib.Core.Bool.{Bool, true, false}
use mathlib.Core.List.{List, [], ◌++◌, append_assoc}
use Prim.Native.Nat.{ℕ, ◌-◌, ◌≤◌, ◌<◌}
use native.Mathlib.Omega.{arith}
use lib.ListN.{length, drop}
use borrow.Rule.Slice.PartMut.{put_mid}
use borrow.Author.Tests.{eq-eqb, ne_eqb}
use Rattle.laws.proofs.Bools.{not_true}
use Rattle.block_bytes.specs.Numbers.{bytes4, number_at}
use Rattle.block_bytes.specs.Replaced.{replaced}
use Rattle.block_bytes.proofs.Numbers.{bytes4_length, number_at_lem}
use Rattle.block_bytes.proofs.Replaced.{replaced_more}
use Rattle.calendar.specs.Calendar.{in_span}
use Rattle.calendar.specs.Term.{Term, term_of, in_term, term_answer, with_term}
use Rattle.calendar.proofs.Dates.{span_low, span_high, in_span_lem}

pub in_term_by : (payload : List ℕ) (day first last : ℕ) (r : Bool) → first ≡ number_at payload 0 → last ≡ number_at payload 4
    → r ≡ in_span first last day → r ≡ in_term (term_of payload) day
unfolding term_of in_term
in_term_by payload day first last r ef el er = er ∙ ap₂ (λ (f l : ℕ). in_span f l day) ef el

-- ---- what a write leaves

term_read : (first last : ℕ) (rest : List ℕ) → first < 4294967296 → last < 4294967296
    → term_of (bytes4 first ++ (bytes4 last ++ rest)) ≡ record { first = first; last = last }
unfolding term_of
term_read first last rest hf hl =
    rw (
      number_at_lem [] (bytes4 last ++ rest) first 0 refl hf,
      number_at_lem (bytes4 first) rest last 4 (bytes4_length first) hl,
    )

module _ (payload : List ℕ) (first last : ℕ) where
  pub wrong_length : (length payload ≡ 496 → ⊥) → (3 ≡ term_answer payload) × (payload ≡ with_term payload first last)
  unfolding term_answer with_term
  wrong_length d = (rw (ne_eqb (length payload) 496 d), rw (ne_eqb (length payload) 496 d))

  module _ (whole : length payload ≡ 496) where
    pub both-written : replaced (replaced payload 0 (bytes4 first)) 4 (bytes4 last) ≡ with_term payload first last
    unfolding with_term replaced bytes4
    both-written =
        let four : length (bytes4 first) ≡ 4 = bytes4_length first in
        rw (eq-eqb (length payload) 496 whole)
        (ap (λ (at : ℕ). replaced (replaced payload 0 (bytes4 first)) at (bytes4 last)) (sym four)
        ∙ replaced_more payload 0 (bytes4 first) (omega (arith, four)) (bytes4 last))

    parts : put_mid 4 (8 - 4) (put_mid 0 (4 - 0) payload (bytes4 first)) (bytes4 last)
        ≡ replaced (replaced payload 0 (bytes4 first)) 4 (bytes4 last)
    unfolding replaced bytes4
    parts = refl

    -- two parts of four bytes are lent, one behind the other
    pub done : (a b : List ℕ) → a ≡ bytes4 first → b ≡ bytes4 last
        → (0 ≡ term_answer payload) × (put_mid 4 (8 - 4) (put_mid 0 (4 - 0) payload a) b ≡ with_term payload first last)
    unfolding term_answer
    done a b ea eb = (rw (eq-eqb (length payload) 496 whole), rw (ea, eb) (parts ∙ both-written))

    pub written-term : first < 4294967296 → last < 4294967296
        → term_of (with_term payload first last) ≡ record { first = first; last = last }
    unfolding with_term replaced
    written-term hf hl =
        let rest : List ℕ = drop (length (bytes4 first ++ bytes4 last)) payload in
        rw (eq-eqb (length payload) 496 whole)
        (ap term_of (append_assoc (bytes4 first) (bytes4 last) rest) ∙ term_read first last rest hf hl)

-- ---- a day in the term

module _ (t : Term) (day : ℕ) where
  pub term_first : in_term t day ≡ true → t.first ≤ day
  unfolding in_term
  term_first e = span_low t.first t.last day e

  pub term_last : in_term t day ≡ true → day ≤ t.last
  unfolding in_term
  term_last e = span_high t.first t.last day e

  pub term_holds : t.first ≤ day → day ≤ t.last → in_term t day ≡ true
  unfolding in_term
  term_holds f l = in_span_lem t.first t.last day f l

  -- "First after last never shows"
  pub turned_term : t.last < t.first → in_term t day ≡ false
  turned_term h = not_true (in_term t day) (λ e. omega (arith, term_first e, term_last e))
