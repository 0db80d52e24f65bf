-- `map_search::groups::any_of` meets its contract. The loop's invariant: `any` has the bits of what f told of each word passed.
-- Assumes nothing.

use mathlib.Core.Path.{◌≡◌}
use mathlib.Core.Logic.{⊎_elim}
use native.Mathlib.Omega.{arith}
use Rattle.laws.proofs.Bools.{order}
use Rattle.map_search.proofs.Ored.{or_first, or_second}
use Rattle.map_search.proofs.groups.any_of.Goals as goal

pub loop-t-preserved : goal.loop-t-preserved
loop-t-preserved g c = λ t a b.
    ⊎_elim (λ l. let before = c.loop-t.invariant t a l in (before.0, before.1, or_first _ _ _ before.2))
    (λ h. let e : c.loop-t.t ≡ t = omega arith in
    (c.f-any.result, rw e at c.f-any.ensures, or_second c.loop-t.any c.f-any.result))
    (order t c.loop-t.t)

pub returns : goal.returns
returns g c = λ t a b. c.loop-t.invariant t a (omega arith)
