-- `refusals::follow` meets its contract.
-- Assumes nothing.

use mathlib.Core.Path.{◌≡◌, sym, ap, subst, ◌∙◌}
use mathlib.Core.Bool.{Bool, true}
use lib.ListN.{length}
use borrow.Author.Tests.{eqb-true}
use Rattle.summary.specs.Summary.{summary_length}
use Rattle.refusals.specs.Guides.{guide_fits, guide_after}
use Rattle.refusals.proofs.follow.Goals as goal

pub update-requires : goal.update-requires
update-requires c = let start = c in
    let a = start.args in
    let h = start.requires in
    let s = a.summary.now in
    let w = length a.map.now in
    let fits : guide_fits true s w ≡ true = subst (λ (t : Bool). guide_fits t s w ≡ true) c.if-guided.true h.3 in
    (record { few = h.0; fits = h.1; long = eqb-true (length s) (summary_length w) fits }, h.2)

pub returns-then-guided : goal.returns-then-guided
returns-then-guided c = let a = c.args in
    c.update.ensures
    ∙ sym (ap (λ (t : Bool). guide_after t a.summary.now a.map.now a.n a.start a.count)
    c.if-guided.true)
