-- `summary_search::glance_whole` meets its contract.
-- Assumes nothing.

use Prim.Native.Nat.{◌<◌, ◌≤◌}
use native.Mathlib.Omega.{arith}
use borrow.Author.Tests.{le-leb, lt-leb, eq-eqb, ne_eqb}
use Rattle.summary_search.specs.SearchBy.{whole_of}
use Rattle.summary_search.proofs.glance_whole.Goals as goal

pub returns-then-k-s : goal.returns-then-k-s
unfolding whole_of
returns-then-k-s c = simp (le-leb _ _ c.if-k-s.true)

pub returns-then-k-group : goal.returns-then-k-group
unfolding whole_of
returns-then-k-group c = let a = c.args in
    let long : a.k ≤ a.group.longest = omega (arith, c.if-k-group.true) in
    simp (lt-leb _ _ c.if-k-s.false, le-leb _ _ long)

pub returns-then-group-m : goal.returns-then-group-m
unfolding whole_of
returns-then-group-m c = let tests = c in
    let a = tests.args in
    let short : a.group.longest < a.k = omega (arith, tests.if-k-group.false) in
    simp (lt-leb _ _ tests.if-k-s.false, lt-leb _ _ short, eq-eqb _ _ c.if-group-m.true)

pub returns : goal.returns
unfolding whole_of
returns c = let last = c in
    let tests = last in
    let a = tests.args in
    let short : a.group.longest < a.k = omega (arith, tests.if-k-group.false) in
    simp (
      lt-leb _ _ tests.if-k-s.false,
      lt-leb _ _ short,
      ne_eqb _ _ last.if-group-m.false,
      c.min-2.ensures,
      c.min.ensures,
    )
