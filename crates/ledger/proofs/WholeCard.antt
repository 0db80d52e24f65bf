-- Search and survey, of whoever may make them: with a shape and a map that fit, a search for 1 block or more is answered 10
-- exactly when no fit exists, and otherwise given the least and the space behind it (`search-lowest`); a survey answers the
-- three counts (`survey-counts`). Neither changes anything.
-- Assumes nothing.
use Rattle.std.specs.Prelude.{Option, Some, None}
use Prim.Native.Nat.{ℕ, ◌≤◌}
use mathlib.Core.Path.{◌≡◌, refl, sym, ap, subst, ◌∙◌}
use mathlib.Core.Bool.{Bool, true, false, not}
use mathlib.Core.List.{[], ◌∷◌}
use native.Mathlib.Omega.{arith}
use lib.Dec.{eqb}
use lib.ListN.{length}
use borrow.Author.Tests.{ne_eqb}
use Rattle.map_blocks.specs.Blocks as map-blocks
use Rattle.map_blocks.specs.Blocks.{least, fit, least_fit, space}
use Rattle.laws.proofs.Bools.{not_true}
use Rattle.survey.specs.Survey.{counts_of}
use Rattle.catalogue_standings.specs.Limits.{shape_fits}
use Rattle.catalogue_standings.specs.Rows.{Verdict, row, first_of, settle}
use Rattle.catalogue_standings.specs.Searches.{none, start_at, start_with_space}
use Rattle.catalogue_standings.specs.declared.Answer.{Answer}
use Rattle.catalogue_standings.specs.declared.Answer.TheVariants.{Counted, Refused}
use Rattle.call_search.specs.Answers.{search_answer, survey_answer}
use Rattle.map_blocks.proofs.Fits.{fit_is}
use Rattle.roles.specs.Roles as roles
use Rattle.roles.specs.Roles.{may}
use Rattle.card.specs.Calls.{Kept, told}
use Rattle.card.specs.Public.{search, survey, Manner, Beside, telling, ends}
use Rattle.ledger.specs.Answers.{Told}
use Rattle.ledger.specs.Claim.{Searched}
use Rattle.ledger.specs.Lists.{told_of}
use Rattle.ledger.proofs.Search.{verdict_by, tells_by, searched}

module _ (m : Manner) (s : Kept) (b : Beside) (fits : shape_fits s.shape.blocks s.shape.free (length s.map) ≡ true)
  where
    abbrev n : ℕ
    n = s.shape.blocks

    abbrev free : ℕ → Bool
    free = map-blocks.free s.map

    -- the space behind a start
    abbrev behind : ℕ → ℕ
    behind start = space free start n

    -- what a search answers, by its rows 21, 1 and 3 and by what it found
    abbrev answerBy : Bool → Bool → Bool → Option ℕ → Answer
    answerBy away misfit empty o = settle (first_of (row 21 away ∷ row 1 misfit ∷ row 3 empty ∷ row 10 (none o) ∷ []))
        (start_with_space free n (start_at o)) Refused

    abbrev toldFor : Answer → Told
    toldFor answer = told_of (telling s b (told s.shape answer) [])

    module _ (k : ℕ) (some : 1 ≤ k) where
      abbrev fits_at : ℕ → Bool
      fits_at = fit free 0 n 1 k

      beyond : (start : ℕ) → n ≤ start → fits_at start ≡ false
      beyond start le = not_true _ (λ q. omega (arith, (fit_is free 0 n 1 k start q).high))

      -- what is told, and the verdict, by what was found
      abbrev tells : Verdict → Option ℕ → ℕ → Told
      tells = tells_by 10 (omega arith) fits_at behind n beyond

      abbrev ruling : Option ℕ → Verdict
      ruling = verdict_by 10 (omega arith) fits_at behind n beyond

      by-found : (o : Option ℕ) → toldFor (answerBy false false false o) ≡ tells (ruling o) o 0
      unfolding first_of
      by-found (Some start) = refl
      by-found None = refl

      said : may m.role roles.search ≡ true
          → told_of (ends m s b (search k)) ≡ tells (ruling (least fits_at 0 n)) (least fits_at 0 n) 0
      unfolding search_answer least_fit
      said may-search =
          let found : Option ℕ = least fits_at 0 n in
          ap (λ (t : Bool). toldFor (answerBy (not t) (not (shape_fits n s.shape.free (length s.map)))
          (eqb k 0) found)) may-search
          ∙ ap (λ (t : Bool). toldFor (answerBy false (not t) (eqb k 0) found)) fits
          ∙ ap (λ (t : Bool). toldFor (answerBy false false t found)) (ne_eqb k 0 (λ z. omega (arith, some, z)))
          ∙ by-found found

      -- and nothing is changed
      pub search-lowest : may m.role roles.search ≡ true
          → (ends m s b (search k) ≡ telling s b (told s.shape (ends m s b (search k)).outcome.answer) [])
          × Searched 10 fits_at behind (told_of (ends m s b (search k)))
      search-lowest may-search = (
        refl,
        subst (Searched 10 fits_at behind) (sym (said may-search))
            (searched 10 (omega arith) fits_at behind n beyond (ruling (least fits_at 0 n)) 0 refl),
      )

    pub survey-counts : may m.role roles.survey ≡ true → ends m s b survey
        ≡ telling s b (told s.shape (Counted (counts_of free n).free (counts_of free n).runs (counts_of free n).longest)) []
    unfolding survey_answer first_of
    survey-counts may-survey =
        (λ x. telling s b (told s.shape (settle (first_of (row 21 (not (may-survey x)) ∷ row 1 (not (fits x)) ∷ []))
        (Counted (counts_of free n).free (counts_of free n).runs (counts_of free n).longest) Refused)) [])
