-- `catalogue_wings::held_by`: the sum of the lengths is what the wing holds.
-- Assumes nothing.
use Rattle.catalogue_wings.proofs.Sums.{holds}
use Rattle.catalogue_wings.proofs.held_by.Goals as goal

pub returns : goal.returns
returns c =
    holds c.args.catalogue.now c.args.sheet c.min-first.result c.min-end.result c.min-first.ensures c.min-end.ensures
    c.lengths.result c.lengths.type_inv c.lengths.ensures
