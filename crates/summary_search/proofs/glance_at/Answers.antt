-- `summary_search::glance_at` meets its contract.
-- Assumes nothing.

use native.Mathlib.Omega.{arith}
use borrow.Author.Tests.{le-leb, lt-leb, lt-ltb, le-ltb}
use Rattle.summary_search.specs.SearchBy.{glance_of}
use Rattle.summary_search.proofs.glance_at.Goals as goal

pub returns-then-base-m : goal.returns-then-base-m
unfolding glance_of
returns-then-base-m c = simp (le-leb _ _ c.if-base-m.true)

pub returns-then-base-at : goal.returns-then-base-at
unfolding glance_of
returns-then-base-at c = simp (lt-leb _ _ c.if-base-m.false, lt-ltb _ _ c.if-base-at.true, c.glance_inside.ensures)

pub glance_whole-requires : goal.glance_whole-requires
glance_whole-requires c = let start = c in
    (omega arith, omega (arith, start.requires.1 c.if-base-at.false), omega arith)

pub returns : goal.returns
unfolding glance_of
returns c = simp (lt-leb _ _ c.if-base-m.false, le-ltb _ _ c.if-base-at.false, c.glance_whole.ensures)
