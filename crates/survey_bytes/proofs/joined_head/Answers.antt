-- `survey_bytes::joined_head` meets its contract.
-- Assumes nothing.

use borrow.Author.Tests.{eq-eqb, ne_eqb}
use native.Mathlib.Omega.{arith}
use Rattle.survey_bytes.proofs.joined_head.Goals as goal

pub returns-then-h-eq8 : goal.returns-then-h-eq8
returns-then-h-eq8 c = (rw (eq-eqb c.args.h 8 c.if-h-eq8.true), omega arith)

pub returns-else-h-eq8 : goal.returns-else-h-eq8
returns-else-h-eq8 c = (rw (ne_eqb c.args.h 8 c.if-h-eq8.false), omega arith)
