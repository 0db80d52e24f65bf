-- `map_search::groups::quiet_groups` meets its contract. The loop's invariant: `quiet` held of each eight words passed.
-- Assumes nothing.

use mathlib.Core.Logic.{⊎_elim}
use native.Mathlib.Omega.{arith}
use Rattle.laws.proofs.Bools.{order}
use Rattle.map_search.proofs.groups.quiet_groups.Goals as goal

pub loop-i-preserved : goal.loop-i-preserved
loop-i-preserved g c = (
  omega arith,
  omega arith,
  λ t a b.
      ⊎_elim (λ l. let group = c.loop-i.invariant.2 t a l in
      (group.0, group.1, group.2, group.3, omega (arith, group.4), group.5))
      (λ h. (c.loop-i.i, h, b, omega arith, omega arith, c.if-quiet.ensures))
      (order t c.loop-i.i),
)
