-- `summary_search::ends_before` meets its contract.
-- Assumes nothing.

use mathlib.Core.Path.{◌≡◌, sym}
use Prim.Native.Nat.{ℕ, ◌+◌, ◌-◌, ◌≤◌}
use native.Mathlib.Omega.{arith}
use lib.Dec.{leb}
use borrow.Author.Tests.{lt-leb, le-leb, leb-true}
use Rattle.laws.proofs.Bools.{both_ways}
use Rattle.summary_search.proofs.ends_before.Goals as goal

within : (t k before : ℕ) → k ≤ before → leb t (before - k) ≡ leb (t + k) before
within t k before l =
    both_ways (leb t (before - k)) (leb (t + k) before)
    (λ e. let u : t ≤ before - k = leb-true t (before - k) e in le-leb (t + k) before (omega arith))
    (λ e. let u : t + k ≤ before = leb-true (t + k) before e in le-leb t (before - k) (omega arith))

pub returns-then-before-k : goal.returns-then-before-k
returns-then-before-k c = let a = c.args in sym (lt-leb (a.t + a.k) a.before (omega arith))

pub returns : goal.returns
returns c = within _ _ _ c.if-before-k.false
