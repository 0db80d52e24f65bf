-- `summary_write::restore_joined` meets its contract.
-- Assumes nothing.

use mathlib.Core.Path.{◌≡◌, refl, ap, ap₂, ◌∙◌}
use Prim.Native.Nat.{◌*◌}
use Rattle.summary_groups.specs.declared.Group.{Group}
use Rattle.summary_groups.specs.Groups.{joined_of}
use Rattle.summary.specs.Walks.{with_group, halves_of}
use Rattle.summary_write.proofs.Stored.{decides_same}
use Rattle.summary_write.proofs.restore_joined.Goals as goal

pub returns : goal.returns
unfolding halves_of
returns c =
    let a = c.args in
    let e : c.joined.result ≡ halves_of a.summary.now a.g a.half =
    c.joined.ensures ∙ ap₂ (λ (x y : Group). joined_of x y (64 * a.half))
    c.read-a.ensures
    c.read-b.ensures in (
      decides_same _ _ _ _ _ refl e c.restore.ensures.0,
      c.restore.ensures.1 ∙ ap (with_group a.summary.now a.g) e,
    )
