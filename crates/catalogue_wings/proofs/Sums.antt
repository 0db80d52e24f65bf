-- The sum of a wing's lengths, as the program makes it, and that it does not wrap.
-- Assumes nothing.
use Rattle.std.proofs.Common.{◌≡◌, ℕ, zero, suc, ◌+◌, ◌-◌, ◌*◌, ◌/◌, ◌%◌, ◌^◌, ◌<◌, ◌≤◌, Bool, true, false, ltb, List, [], ◌∷◌}
use Rattle.std.proofs.Common.{length, get_or, take, drop, sym, refl, ap, ◌∙◌, subst, mod-eq_of_lt, suc-mul, arith}
use Rattle.std.proofs.Common.{length-drop, get_or-drop, take_all, ltb-false, ltb-true}
use Prim.Native.Nat.{min}
use lib.ListN.{drop_of_length-le}
use Rattle.std.proofs.lemmas.List.Recursion.{is_sum_by}
use Rattle.std.specs.List.{sum_by}
use Rattle.catalogue.specs.Entries.{zeros, entry_at, held}
use Rattle.catalogue.specs.declared.Entry.{Entry}
use Rattle.catalogue_wings.specs.Wings.{wing_of, in_wing, held_by}

-- ---- the sum that the program makes

module _ (es : List Entry) (sheet first end : ℕ) (from : first ≡ min (length es) (sheet / 128 * 128))
    (to : end ≡ min (length es) (first + 128)) where
  abbrev start : ℕ
  start = 128 * (sheet / 128)

  same_front : (t : Bool) → ltb (length es) start ≡ t → drop first es ≡ drop start es
  same_front true e =
      let past : length es < start = ltb-true (length es) start e in
      drop_of_length-le es {i = first} (omega arith) ∙ sym (drop_of_length-le es {i = start} (omega arith))
  same_front false e =
      let inside : start ≤ length es = ltb-false (length es) start e in
      ap (λ (n : ℕ). drop n es) (omega arith)

  -- the entries that are summed are those of the wing
  same_wing : (t : Bool) → ltb (length es) (start + 128) ≡ t → take (end - first) (drop first es) ≡ take 128 (drop start es)
  same_wing true e =
      let short : length es < start + 128 = ltb-true (length es) (start + 128) e in
      take_all (end - first) (drop first es) (omega (arith, length-drop first es))
      ∙ same_front (ltb (length es) start) refl
      ∙ sym (take_all 128 (drop start es) (omega (arith, length-drop start es)))
  same_wing false e =
      let whole : start + 128 ≤ length es = ltb-false (length es) (start + 128) e in
      let many : end - first ≡ 128 = omega arith in
      rw (many, same_front (ltb (length es) start) refl)

  pub holds : (r : ℕ) → r < 2 ^ 64 → r ≡ sum_by (λ (e : Entry). e.length) (take (end - first) (drop first es))
      → r ≡ held_by es sheet
  unfolding held_by held
  holds r fits e =
      let wing : r ≡ held (in_wing (wing_of sheet) es) =
      e ∙ ap (sum_by (λ (e : Entry). e.length)) (same_wing (ltb (length es) (start + 128)) refl)
      ∙ sym (is_sum_by held (λ (e : Entry). e.length) refl (λ _ _. refl) (take 128 (drop start es))) in
      sym (mod-eq_of_lt fits) ∙ ap (λ (s : ℕ). s % 2 ^ 64) wing

-- ---- it does not wrap

one_more : (l : List Entry) (j : ℕ) → held (take (suc j) l) ≡ held (take j l) + (get_or l j zeros).length
unfolding held
one_more [] zero = refl
one_more [] (suc j) = refl
one_more (e ∷ l) zero = omega arith
one_more (e ∷ l) (suc j) = let h = one_more l j in omega arith

lengths_below : (b : ℕ) (l : List Entry) → ((i : ℕ) → (get_or l i zeros).length ≤ b) → (j : ℕ) → held (take j l) ≤ j * b
unfolding held
lengths_below b l h zero = omega arith
lengths_below b l h (suc j) =
    let more = one_more l j in
    let last = h j in
    let rest = lengths_below b l h j in
    let all : suc j * b ≡ j * b + b = suc-mul j b in omega arith

-- a wing has 128 entries at the most
pub lengths_fit_lem : (b : ℕ) (es : List Entry) (wing : ℕ) → ((i : ℕ) → (entry_at es i).length ≤ b) → held (in_wing wing es) ≤
    128 * b
lengths_fit_lem b es wing h =
    lengths_below b (drop (128 * wing) es)
    (λ i. subst (λ (e : Entry). e.length ≤ b) (sym (get_or-drop (128 * wing) es i zeros)) (h (128 * wing + i))) 128

-- so that of lengths of 32 bits what a wing holds is their sum
pub held_is : (es : List Entry) (sheet : ℕ) → ((i : ℕ) → (entry_at es i).length ≤ 4294967295)
    → held_by es sheet ≡ held (in_wing (wing_of sheet) es)
unfolding held_by
held_is es sheet h =
    let fits = lengths_fit_lem 4294967295 es (wing_of sheet) h in
    mod-eq_of_lt (omega (arith, fits))
