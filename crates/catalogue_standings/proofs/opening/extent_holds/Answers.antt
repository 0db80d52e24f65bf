-- `catalogue_standings::opening::extent_holds` meets its contract, test by test.
-- Assumes nothing.

use Prim.Native.Nat.{◌+◌, ◌<◌, ◌≤◌}
use native.Mathlib.Omega.{arith}
use borrow.Author.Tests.{le-leb, lt-leb}
use Rattle.catalogue_standings.specs.Standings.{extent_holds}
use Rattle.catalogue_standings.proofs.opening.extent_holds.Goals as goal

pub returns-then-blocks-lt1 : goal.returns-then-blocks-lt1
unfolding extent_holds
returns-then-blocks-lt1 c = simp (lt-leb _ _ c.if-blocks-lt1.true)

pub returns-then-n-blocks : goal.returns-then-n-blocks
unfolding extent_holds
returns-then-n-blocks c =
    let a = c.args in
    let past : a.n < a.start + a.blocks = omega arith in
    simp (le-leb _ _ c.if-blocks-lt1.false, lt-leb _ _ past)

pub returns-then-n-blocks-2 : goal.returns-then-n-blocks-2
unfolding extent_holds
returns-then-n-blocks-2 c =
    let a = c.args in
    let past : a.n < a.start + a.blocks = omega arith in
    simp (le-leb _ _ c.if-blocks-lt1.false, lt-leb _ _ past)

pub returns : goal.returns
unfolding extent_holds
returns c =
    let a = c.args in
    let inside : a.start + a.blocks ≤ a.n = omega arith in
    simp (le-leb _ _ c.if-blocks-lt1.false, le-leb _ _ inside) c.all_marked.ensures
