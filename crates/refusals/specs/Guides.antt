-- A call that searches or changes the map goes by the map alone, or is guided by a lent summary (document 02, request j).
-- Assumes nothing.
use Rattle.std.specs.Prelude.{Option}
use Rattle.std.specs.Prelude.{ℕ, Bool, true, ◌&&◌, cond, List, eqb, leb, length}
use Rattle.map_blocks.specs.Blocks.{free}
use Rattle.summary.specs.Summary.{summary_length}
use Rattle.summary.specs.Updates.{updated_summary}
use Rattle.summary_search.specs.SearchBy.{search_by}
use Rattle.refusals.specs.Placement.{least_within}
use Rattle.refusals.specs.declared.Figures.{Figures}

-- Row 1 asks for the length of a summary that guides the call.
abbrev pub guide_fits : Bool → List ℕ → ℕ → Bool
guide_fits guided summary maplen = cond guided (eqb (length summary) (summary_length maplen)) true

-- How that is tested, of a map of any length: with more than 4,096 words row 1 holds in any case.
abbrev pub guide_tested : Bool → ℕ → ℕ → Bool
guide_tested guided maplen summarylen = cond guided (leb maplen 4096 && eqb summarylen (summary_length maplen)) true

-- What the search of a reserve finds.
abbrev pub found_by : Bool → List ℕ → List ℕ → Figures → ℕ → Option ℕ
found_by guided summary map g k =
    cond guided (search_by map summary g.from g.before g.step k) (least_within (free map) g k)

-- The summary once the k blocks from a start on have changed, the map being as it is then: only the groups above changed words
-- are.
abbrev pub guide_after : Bool → List ℕ → List ℕ → ℕ → ℕ → ℕ → List ℕ
guide_after guided summary map n start k = cond guided (updated_summary map n summary start k) summary
