-- `call_search::counted` meets its contract: row 21, row 1, or the counts of the first n blocks.
-- Assumes nothing.

use Rattle.catalogue_standings.specs.Answers.{answer_in}
use Rattle.catalogue_standings.specs.declared.Refusal.{Refusal}
use Rattle.std.specs.Prelude.{Err}
use Rattle.std.proofs.lemmas.Result.{err_from_is_err_and}
use mathlib.Core.Path.{◌≡◌, sym, ap, ◌∙◌}
use mathlib.Core.Bool.{Bool, true, false, not}
use mathlib.Core.List.{List, [], ◌∷◌}
use Prim.Native.Nat.{ℕ}
use native.Mathlib.Omega.{arith}
use lib.ListN.{length}
use Rattle.map_blocks.specs.Blocks.{free}
use Rattle.survey.specs.Survey.{counts_of}
use Rattle.survey.specs.declared.Counts.{Counts}
use Rattle.catalogue_standings.specs.Rows.{Verdict, row, accepted, refused, first_of, settle}
use Rattle.catalogue_standings.specs.Limits.{shape_fits}
use Rattle.catalogue_standings.specs.declared.Answer.{Answer}
use Rattle.catalogue_standings.specs.declared.Answer.TheVariants.{Counted, Refused}
use Rattle.catalogue_standings.proofs.Limits.{fits}
use Rattle.catalogue_standings.proofs.Openings.{skip, stop, none_left}
use Rattle.catalogue_standings.proofs.Tested.{fails, holds}
use Rattle.call_search.specs.Answers.{survey_answer}
use Rattle.call_search.proofs.counted.Goals as goal

abbrev counted : Counts → Answer
counted r = Counted r.free r.runs r.longest

module _ (turned : Bool) (n spare : ℕ) (map : List ℕ) where
  out : (v : Verdict) → first_of (row 21 turned ∷ row 1 (not (shape_fits n spare (length map))) ∷ []) ≡ v
      → settle v (counted (counts_of (free map) n)) Refused ≡ survey_answer turned n spare map
  unfolding survey_answer
  out v h = sym (ap (λ (w : Verdict). settle w (counted (counts_of (free map) n)) Refused) h)

  away : turned ≡ true → Refused 21 ≡ survey_answer turned n spare map
  away e = out (refused 21) (stop 21 _ _ e)

  module _ (may : turned ≡ false) where
    shut : shape_fits n spare (length map) ≡ false → Refused 1 ≡ survey_answer turned n spare map
    shut e = out (refused 1) (skip 21 _ _ (refused 1) may (stop 1 _ [] (ap not e)))

    passes : shape_fits n spare (length map) ≡ true → counted (counts_of (free map) n) ≡ survey_answer turned n spare map
    passes e = out accepted (skip 21 _ _ accepted may (skip 1 _ [] accepted (ap not e) none_left))

pub returns-in_err-permit : goal.returns-in_err-permit
returns-in_err-permit c =
    let a = c.args in
    let p = err_from_is_err_and c.from_residual.result c.from_residual.ensures.1 in
    rw (p.1, p.2) (ap (λ (why : Refusal). answer_in (Err why)) c.in_err-permit.ensures.1
    ∙ away _ a.n a.free a.map.now c.in_err-permit.ensures.0)

pub returns-then-not-shape_fits : goal.returns-then-not-shape_fits
returns-then-not-shape_fits c =
    shut _ _ _ _ c.in_ok-permit.ensures (fails c.shape_fits.ensures c.if-not-shape_fits.true-raw)

pub survey-counts-requires : goal.survey-counts-requires
survey-counts-requires c =
    let f = fits _ _ _ (holds c.shape_fits.ensures c.if-not-shape_fits.false-raw) in
    (omega (arith, f.limit), omega (arith, f.covered))

pub returns : goal.returns
returns c =
    let a = c.args in
    let counts : c.survey-counts.result ≡ counts_of (free a.map.now) a.n = c.survey-counts.ensures in
    ap counted counts
    ∙ passes _ a.n a.free a.map.now c.in_ok-permit.ensures (holds c.shape_fits.ensures c.if-not-shape_fits.false-raw)
