-- `bench_zero_blocks` meets its contract, at each of its answers.
-- Assumes nothing.

use borrow.Author.Tests.{le-leb, lt-leb}
use Rattle.bench_block.proofs.bench_zero_blocks.Goals as goal

pub returns-then-b-k : goal.returns-then-b-k
returns-then-b-k c = (
  rw (le-leb _ _ c.if-b-k.true),
  rw (le-leb _ _ c.if-b-k.true) c.zero_blocks.ensures,
)

pub returns : goal.returns
returns c = (rw (lt-leb _ _ c.if-b-k.false), rw (lt-leb _ _ c.if-b-k.false))
