-- `summary_search::near_of` meets its contract.
-- Assumes nothing.

use native.Mathlib.Omega.{arith}
use Rattle.summary_search.proofs.Near.{near_apart, near_long, near_few}
use Rattle.summary_search.proofs.near_of.Goals as goal

pub returns-then-step-gt8 : goal.returns-then-step-gt8
returns-then-step-gt8 c = let a = c.args in near_apart a.step a.k c.if-step-gt8.true

pub returns-then-k-gt16 : goal.returns-then-k-gt16
returns-then-k-gt16 c = let a = c.args in near_long a.step a.k (omega (arith, c.if-step-gt8.false))
    c.if-k-gt16.true

pub returns : goal.returns
returns c = let a = c.args in near_few a.step a.k (omega (arith, c.if-step-gt8.false))
    (omega (arith, c.if-k-gt16.false))
