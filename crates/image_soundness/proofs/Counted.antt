-- The entries counted one by one: every one keeps the rule of its mark, and their lengths are taken from what is left.
-- Assumes nothing.
use mathlib.Core.Path.{◌≡◌, refl, sym, ap, ◌∙◌}
use mathlib.Core.Logic.{⊎_elim}
use mathlib.Core.Bool.{Bool, true, false, not, cond}
use mathlib.Core.List.{List, [], ◌∷◌}
use Prim.Native.Nat.{ℕ, ◌+◌, ◌-◌, ◌≤◌, ◌<◌}
use native.Mathlib.Omega.{arith}
use native.Mathlib.Numerals.{add-one}
use lib.Dec.{leb}
use lib.ListN.{length, get_or, drop}
use lib.Seq.{drop-cons}
use Rattle.std.proofs.lemmas.List.{drop_all}
use borrow.Author.Tests.{leb-true, le-leb, not-true}
use Rattle.std.specs.Prelude.{Some, None}
use Rattle.std.proofs.lemmas.Option.{none-some, same_Some}
use Rattle.laws.proofs.Bools.{and_left, and_right, and_both}
use Rattle.catalogue.specs.Entries.{held, zeros}
use Rattle.catalogue.specs.declared.Entry.{Entry}
use Rattle.catalogue_standings.specs.Standings.{standing_of, is_damaged}
use Rattle.image_soundness.specs.Windows.{keeps_rule, countable, tally_after, tally_of}
use Rattle.image_soundness.specs.Sound.{undamaged}
use Rattle.image_soundness.proofs.Covers.{decide, head_undamaged, tail_undamaged, both_undamaged}
use Rattle.image_soundness.proofs.Covers.{none_undamaged}

module _ (n : ℕ) where
  -- entry by entry
  pub tally_none : (left : ℕ) → tally_of [] n left ≡ Some left
  unfolding tally_of
  tally_none left = refl

  tally_on : (left : ℕ) (e : Entry) (es : List Entry) → countable n left e ≡ true
      → tally_of (e ∷ es) n left ≡ tally_of es n (left - e.length)
  unfolding tally_of
  tally_on left e es h = simp h

  tally_off : (left : ℕ) (e : Entry) (es : List Entry) → countable n left e ≡ false → tally_of (e ∷ es) n left ≡ None
  unfolding tally_of
  tally_off left e es h = simp h

  pub tally_counts : (left : ℕ) (e : Entry) (es : List Entry) (rest : ℕ) → tally_after n left e ≡ Some rest
      → tally_of (e ∷ es) n left ≡ tally_of es n rest
  unfolding tally_after tally_of
  tally_counts left e es rest h = by (countable n left e) h
    where
      by : (b : Bool) → cond b (Some (left - e.length)) None ≡ Some rest
          → cond b (tally_of es n (left - e.length)) None ≡ tally_of es n rest
      by true h = ap (tally_of es n) (same_Some (left - e.length) rest h)
      by false h = absurd (none-some rest h)

  pub tally_stops : (left : ℕ) (e : Entry) (es : List Entry) → tally_after n left e ≡ None → tally_of (e ∷ es) n left ≡ None
  unfolding tally_after tally_of
  tally_stops left e es h = by (countable n left e) h
    where
      by : (b : Bool) → cond b (Some (left - e.length)) None ≡ None → cond b (tally_of es n (left - e.length)) None ≡ None
      by true h = absurd (none-some (left - e.length) (sym h))
      by false h = refl

  -- and by the place of an entry
  module _ (es : List Entry) (i left : ℕ) where
    pub tally_step : (rest : ℕ) → i < length es → Some rest ≡ tally_after n left (get_or es i zeros)
        → tally_of (drop i es) n left ≡ tally_of (drop (i + 1) es) n rest
    tally_step rest h e = rw (drop-cons es i zeros h, add-one) (tally_counts left (get_or es i zeros) _ rest (sym e))

    pub tally_stop : i < length es → None ≡ tally_after n left (get_or es i zeros) → tally_of (drop i es) n left ≡ None
    tally_stop h e = rw (drop-cons es i zeros h) (tally_stops left (get_or es i zeros) _ (sym e))

    pub tally_end : length es ≤ i → tally_of (drop i es) n left ≡ Some left
    tally_end h = rw (drop_all i es h) (tally_none left)

  abbrev pub Alone : List Entry → Type 0
  Alone es = undamaged n (λ b. false) es ≡ true

  counts_to : (left : ℕ) (e : Entry) → countable n left e ≡ true
      → (is_damaged (standing_of n (λ b. false) e) ≡ false) × (e.length ≤ left)
  unfolding countable keeps_rule
  counts_to left e h = (
    not-true (is_damaged (standing_of n (λ b. false) e)) (and_left (keeps_rule n e) (leb e.length left) h),
    leb-true e.length left (and_right (keeps_rule n e) (leb e.length left) h),
  )

  to_counts : (left : ℕ) (e : Entry) → is_damaged (standing_of n (λ b. false) e) ≡ false → e.length ≤ left
      → countable n left e ≡ true
  unfolding countable keeps_rule
  to_counts left e d h = and_both (keeps_rule n e) (leb e.length left) (ap not d) (le-leb e.length left h)

  -- every entry keeps the rule of its mark, and their lengths are taken from what was left
  pub record Counted (left : ℕ) (es : List Entry) (rest : ℕ) : Type 0 where
    pub alone : Alone es
    pub enough : held es ≤ left
    pub rest_is : rest ≡ left - held es

  pub tally_counted : (left : ℕ) (es : List Entry) (rest : ℕ) → tally_of es n left ≡ Some rest → Counted left es rest
  unfolding held
  tally_counted left [] rest o =
      let z : left ≡ rest = same_Some left rest (sym (tally_none left) ∙ o) in
      record { alone = none_undamaged n (λ b. false); enough = omega arith; rest_is = omega arith }
  tally_counted left (e ∷ es) rest o =
      ⊎_elim
      (λ (h : countable n left e ≡ true).
      let c = counts_to left e h in
      let r = tally_counted (left - e.length) es rest (sym (tally_on left e es h) ∙ o) in
      record {
        alone = both_undamaged n (λ b. false) e es c.0 r.alone;
        enough = omega (arith, c.1, r.enough);
        rest_is = omega (arith, c.1, r.enough, r.rest_is);
      })
      (λ (h : countable n left e ≡ false). absurd (none-some rest (sym (tally_off left e es h) ∙ o)))
      (decide (countable n left e))

  pub counted_tally : (left : ℕ) (es : List Entry) → Alone es → held es ≤ left → tally_of es n left ≡ Some (left - held es)
  unfolding held
  counted_tally left [] u h = let z : left ≡ left - 0 = omega arith in tally_none left ∙ ap Some z
  counted_tally left (e ∷ es) u h =
      let c = to_counts left e (head_undamaged n (λ b. false) e es u) (omega arith) in
      let z : left - e.length - held es ≡ left - (e.length + held es) = omega arith in
      tally_on left e es c ∙ counted_tally (left - e.length) es (tail_undamaged n (λ b. false) e es u) (omega arith)
      ∙ ap Some z
