-- `summary_write::restore_word` meets its contract.
-- Assumes nothing.

use mathlib.Core.Path.{◌≡◌, refl, ap, ◌∙◌}
use Prim.Native.Nat.{◌*◌}
use Rattle.summary_groups.specs.Groups.{group_of}
use Rattle.summary.specs.Summary.{usable}
use Rattle.summary.specs.Walks.{with_group}
use Rattle.summary_write.proofs.Stored.{decides_same}
use Rattle.summary_write.proofs.restore_word.Goals as goal

pub returns : goal.returns
returns c =
    let a = c.args in
    let e : c.word_group.result ≡ group_of (usable a.map.now a.n) (64 * a.i) 64 =
    c.word_group.ensures ∙ c.free_word.ensures in (
      decides_same _ _ _ _ _ refl e c.restore.ensures.0,
      c.restore.ensures.1 ∙ ap (with_group a.summary.now a.g) e,
    )
