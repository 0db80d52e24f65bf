-- `card::Shape::reserve_with_summary` meets its contract: the plain reserve is the placed one with 0, n and 1.
-- Assumes nothing.

use Rattle.std.proofs.Common.{◌∙◌, ap, set, true}
use Rattle.refusals.proofs.Reserve.{plain_out, plain_map, plain_summary_lem, plain_card_lem}
use Rattle.refusals.specs.Placement.{plain}
use Rattle.refusals.specs.Table.{reserve}
use Rattle.refusals.specs.declared.Out.{Out}
use Rattle.card.specs.Calls.{kept, lent_by_within, outcome_of}
use Rattle.card.specs.Public.{turned, by_summary, on}
use Rattle.card.proofs.Shape.reserve_with_summary.Goals as goal

pub returns : goal.returns
returns c = let a = c.args in
    let placed = c.reserve_placed_with_summary.ensures in
    let q = lent_by_within (turned (by_summary a.role) (on a.sheet (reserve a.limits.now a.k plain))) true a.summary.now
    (kept a.self a.map.now a.catalogue.now a.card.now) a.card.now a.limits.now a.sheet in (
      placed.0 ∙ ap (outcome_of a.self) (plain_out q a.k),
      placed.1 ∙ plain_map q a.k,
      placed.2 ∙ plain_summary_lem q a.k,
      placed.3 ∙ ap (λ (o : Out). set a.catalogue.now a.sheet o.entry) (plain_out q a.k),
      placed.4 ∙ plain_card_lem q a.k,
    )
