-- What the calls that are lent a map and a summary alone answer and leave (document 02, request j). `turned`: whoever
-- calls may not make the call (document 02 (n)).
-- Assumes nothing.
use Rattle.std.specs.Prelude.{ℕ, Bool, not, cond, ◌&&◌, List, [], ◌∷◌, eqb, length}
use Rattle.summary.specs.Summary.{summary_length, own_summary, is_own}
use Rattle.catalogue_standings.specs.Limits.{shape_fits}
use Rattle.catalogue_standings.specs.Rows.{row, Verdict, first_of, settle}
use Rattle.catalogue_standings.specs.declared.Answer.{Answer}
use Rattle.catalogue_standings.specs.declared.Answer.TheVariants.{Done, Own, Refused}

-- The limits of n and the free count, the map's length and the summary's.
unfoldable pub summary_fits : ℕ → ℕ → ℕ → ℕ → Bool
unfolding shape_fits
summary_fits n free maplen summarylen = shape_fits n free maplen && eqb summarylen (summary_length maplen)

module _ (turned : Bool) (n free : ℕ) (map summary : List ℕ) where
  abbrev pub summary_verdict : Verdict
  summary_verdict = first_of (row 21 turned ∷ row 1 (not (summary_fits n free (length map) (length summary))) ∷ [])

  -- Build: the summary becomes the map's own.
  unfoldable pub build_answer : Answer
  build_answer = settle summary_verdict Done Refused

  unfoldable pub built_summary : List ℕ
  built_summary = settle summary_verdict (own_summary map n) (λ number. summary)

  -- Check: 1 exactly if the summary is the map's own, else 0.
  unfoldable pub check_answer : Answer
  check_answer = settle summary_verdict (Own (cond (is_own map n summary) 1 0)) Refused
