-- `survey_bytes::joined_runs` meets its contract.
-- Assumes nothing.

use native.Mathlib.Nat.{mul-le-mul_left}
use native.Mathlib.Omega.{arith}
use Rattle.survey_bytes.proofs.Meeting.{product_none, product_some}
use Rattle.survey_bytes.proofs.joined_runs.Goals as goal

pub overflow_mul-t : goal.overflow_mul-t
overflow_mul-t c = record { fits = omega (arith, mul-le-mul_left c.args.t c.requires.2) }

pub returns-then-t-head-eq0 : goal.returns-then-t-head-eq0
returns-then-t-head-eq0 c = (omega (arith, product_none c.args.t c.args.head c.if-t-head-eq0.true), omega arith)

pub overflow_sub-result : goal.overflow_sub-result
overflow_sub-result c = omega (arith, c.requires.4 (product_some c.args.t c.args.head c.if-t-head-eq0.false).0)

pub returns : goal.returns
returns c =
    let met = product_some c.args.t c.args.head c.if-t-head-eq0.false in
    (omega (arith, met.1, c.requires.4 met.0), omega (arith, c.requires.4 met.0))
