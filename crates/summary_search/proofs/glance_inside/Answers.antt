-- `summary_search::glance_inside` meets its contract.
-- Assumes nothing.

use Prim.Native.Nat.{◌<◌, ◌≤◌}
use native.Mathlib.Omega.{arith}
use borrow.Author.Tests.{le-leb, lt-leb}
use Rattle.summary_search.specs.SearchBy.{inside_of}
use Rattle.summary_search.proofs.glance_inside.Goals as goal

pub returns-then-group-k : goal.returns-then-group-k
unfolding inside_of
returns-then-group-k c = let a = c.args in
    let short : a.group.longest < a.k = omega (arith, c.if-group-k.true) in
    simp (lt-leb _ _ short, c.min-then-group-k.ensures, c.min.ensures)

pub returns : goal.returns
unfolding inside_of
returns c = let a = c.args in
    let long : a.k ≤ a.group.longest = omega (arith, c.if-group-k.false) in
    simp (le-leb _ _ long)
