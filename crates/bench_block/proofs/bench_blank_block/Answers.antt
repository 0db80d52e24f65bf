-- `bench_blank_block` meets its contract, at each of its answers.
-- Assumes nothing.

use borrow.Author.Tests.{le-leb, lt-leb}
use Rattle.bench_block.proofs.bench_blank_block.Goals as goal

pub returns-then-blank_block : goal.returns-then-blank_block
returns-then-blank_block c = rw (le-leb _ _ c.if-b-card.true, ← c.blank_block.ensures, c.if-blank_block.true)

pub returns-then-b-card : goal.returns-then-b-card
returns-then-b-card c = rw (le-leb _ _ c.if-b-card.true, ← c.blank_block.ensures, c.if-blank_block.false)

pub returns : goal.returns
returns c = rw (lt-leb _ _ c.if-b-card.false)
