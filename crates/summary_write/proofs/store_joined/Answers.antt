-- `summary_write::store_joined` meets its contract.
-- Assumes nothing.

use mathlib.Core.Path.{ap, ap₂, ◌∙◌}
use Prim.Native.Nat.{◌*◌}
use Rattle.summary_groups.specs.declared.Group.{Group}
use Rattle.summary_groups.specs.Groups.{joined_of}
use Rattle.summary.specs.Walks.{with_group, halves_of}
use Rattle.summary_write.proofs.store_joined.Goals as goal

pub returns : goal.returns
unfolding halves_of
returns c =
    let a = c.args in
    c.store.ensures
    ∙ ap (with_group a.summary.now a.g) (c.joined.ensures ∙ ap₂ (λ (x y : Group). joined_of x y
    (64 * a.half)) c.read-a.ensures c.read-b.ensures)
