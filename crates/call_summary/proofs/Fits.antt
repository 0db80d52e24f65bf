-- What rows 21 and 1 say of the calls on a summary: the lengths that a build and a check need, and what is answered and left.
-- Assumes nothing.
use mathlib.Core.Path.{◌≡◌, sym, ap}
use mathlib.Core.Bool.{Bool, true, false, not, cond}
use mathlib.Core.List.{List, [], ◌∷◌}
use Prim.Native.Nat.{ℕ}
use native.Mathlib.Omega.{arith}
use lib.ListN.{length}
use borrow.Author.Tests.{eqb-true}
use Rattle.laws.proofs.Bools.{and_left, and_right}
use Rattle.summary.specs.Summary.{summary_length, Matched, own_summary, is_own}
use Rattle.catalogue_standings.specs.Limits.{shape_fits}
use Rattle.catalogue_standings.specs.Rows.{Verdict, row, accepted, refused, first_of, settle}
use Rattle.catalogue_standings.specs.declared.Answer.TheVariants.{Done, Own, Refused}
use Rattle.catalogue_standings.proofs.Limits.{fits}
use Rattle.catalogue_standings.proofs.Openings.{skip, stop, none_left}
use Rattle.call_summary.specs.Answers.{summary_fits, build_answer, built_summary, check_answer}

module _ (n spare : ℕ) (map summary : List ℕ) where
  abbrev whole : Bool
  whole = summary_fits n spare (length map) (length summary)

  pub lengths : whole ≡ true → Matched map n summary
  unfolding summary_fits
  lengths e =
      let f = fits n spare (length map) (and_left (shape_fits n spare (length map)) _ e) in
      record {
        few = omega (arith, f.words, f.limit);
        fits = f.covered;
        long = eqb-true (length summary) (summary_length (length map)) (and_right (shape_fits n spare (length map)) _ e);
      }

  -- what is answered and left, by the verdict
  module _ (turned : Bool) where
    abbrev verdict : Verdict
    verdict = first_of (row 21 turned ∷ row 1 (not whole) ∷ [])

    pub build-told : (v : Verdict) → verdict ≡ v → settle v Done Refused ≡ build_answer turned n spare map summary
    unfolding build_answer
    build-told v h = sym (ap (λ (w : Verdict). settle w Done Refused) h)

    pub build-left : (v : Verdict) → verdict ≡ v
        → settle v (own_summary map n) (λ number. summary) ≡ built_summary turned n spare map summary
    unfolding built_summary
    build-left v h = sym (ap (λ (w : Verdict). settle w (own_summary map n) (λ number. summary)) h)

    pub check-told : (v : Verdict) → verdict ≡ v
        → settle v (Own (cond (is_own map n summary) 1 0)) Refused ≡ check_answer turned n spare map summary
    unfolding check_answer
    check-told v h = sym (ap (λ (w : Verdict). settle w (Own (cond (is_own map n summary) 1 0)) Refused) h)

    pub away : turned ≡ true → verdict ≡ refused 21
    away t = stop 21 _ _ t

    module _ (may : turned ≡ false) where
      pub shut : whole ≡ false → verdict ≡ refused 1
      shut e = skip 21 _ _ (refused 1) may (stop 1 _ [] (ap not e))

      pub passes : whole ≡ true → verdict ≡ accepted
      passes e = skip 21 _ _ accepted may (skip 1 _ [] accepted (ap not e) none_left)
