-- What the calls on the map answer: search and survey, which are lent it alone, and fresh, which makes it anew (document 01,
-- "Map and search"). `turned`: whoever calls may not make the call (document 02 (n)).
-- Assumes nothing.
use Rattle.std.specs.Prelude.{ℕ, Bool, not, List, [], ◌∷◌, eqb, length}
use Rattle.map_blocks.specs.Blocks as map-blocks
use Rattle.map_blocks.specs.Blocks.{least_fit}
use Rattle.map_blocks.specs.Maps as maps
use Rattle.survey.specs.Survey.{counts_of}
use Rattle.catalogue_standings.specs.Limits.{shape_fits, fresh_fits}
use Rattle.catalogue_standings.specs.Rows.{row, Verdict, first_of, settle, row_number}
use Rattle.catalogue_standings.specs.Searches.{none, start_at, start_with_space}
use Rattle.catalogue_standings.specs.declared.Answer.{Answer}
use Rattle.catalogue_standings.specs.declared.Answer.TheVariants.{Counted, Refused}

unfoldable pub search_answer : Bool → ℕ → ℕ → List ℕ → ℕ → Answer
unfolding shape_fits
search_answer turned n free map k =
    settle (first_of (row 21 turned ∷ row 1 (not (shape_fits n free (length map))) ∷ row 3 (eqb k 0)
    ∷ row 10 (none (least_fit (map-blocks.free map) 0 n 1 k)) ∷ []))
    (start_with_space (map-blocks.free map) n (start_at (least_fit (map-blocks.free map) 0 n 1 k))) Refused

unfoldable pub survey_answer : Bool → ℕ → ℕ → List ℕ → Answer
unfolding shape_fits
survey_answer turned n free map =
    settle (first_of (row 21 turned ∷ row 1 (not (shape_fits n free (length map))) ∷ []))
    (Counted (counts_of (map-blocks.free map) n).free (counts_of (map-blocks.free map) n).runs
    (counts_of (map-blocks.free map) n).longest)
    Refused

-- Fresh, of n itself and c: the number, and the map.
unfoldable pub fresh_verdict : Bool → ℕ → ℕ → ℕ → Verdict
unfolding fresh_fits
fresh_verdict turned n maplen c = first_of (row 21 turned ∷ row 1 (not (fresh_fits n maplen c)) ∷ [])

abbrev pub fresh_number : Bool → ℕ → List ℕ → ℕ → ℕ
fresh_number turned n map c = row_number (fresh_verdict turned n (length map) c)

abbrev pub fresh_map : Bool → ℕ → List ℕ → ℕ → List ℕ
fresh_map turned n map c = settle (fresh_verdict turned n (length map) c) (maps.fresh_map n (length map)) (λ number. map)
