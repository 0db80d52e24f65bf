-- `refusals_runs::find_run` meets its contract: by the summary, or by the map alone.
-- Assumes nothing.

use mathlib.Core.Path.{◌≡◌, sym, ap, subst, ◌∙◌}
use mathlib.Core.Bool.{Bool, true}
use lib.ListN.{length}
use borrow.Author.Tests.{eqb-true}
use Rattle.summary.specs.Summary.{summary_length}
use Rattle.refusals.specs.Guides.{guide_fits, found_by}
use Rattle.refusals_runs.proofs.find_run.Goals as goal

pub search_by-requires : goal.search_by-requires
search_by-requires c = let start = c in
    let a = start.args in
    let h = start.requires in
    let s = a.summary.now in
    let w = length a.map.now in
    let fits : guide_fits true s w ≡ true = subst (λ (t : Bool). guide_fits t s w ≡ true) c.if-guided.true h.3 in
    (h.0, h.2, eqb-true (length s) (summary_length w) fits, h.4, h.5)

pub returns-then-guided : goal.returns-then-guided
returns-then-guided c = let a = c.args in
    c.search_by.ensures
    ∙ sym (ap (λ (t : Bool). found_by t a.summary.now a.map.now a.figures a.k) c.if-guided.true)

pub search_placed-requires : goal.search_placed-requires
search_placed-requires c = let h = c.requires in
    (h.1, h.2, h.4, h.5)

pub returns : goal.returns
returns c = let a = c.args in
    c.search_placed.ensures
    ∙ sym (ap (λ (t : Bool). found_by t a.summary.now a.map.now a.figures a.k) c.if-guided.false)
