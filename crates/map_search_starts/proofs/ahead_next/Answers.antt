-- `map_search_starts::ahead_next` meets its contract.
-- Assumes nothing.

use Prim.Native.Nat.{◌%◌, ◌<◌}
use native.Mathlib.Nat.{mod-lt}
use native.Mathlib.Omega.{arith}
use Rattle.map_search_starts.proofs.Steps.{next_back, next_on}
use Rattle.map_search_starts.proofs.ahead_next.Goals as goal

pub overflow_sub-result : goal.overflow_sub-result
overflow_sub-result c = let a = c.args in
    let l : 64 % a.step < a.step = mod-lt 64 (omega arith) in
    omega arith

pub returns-then-far-rest : goal.returns-then-far-rest
returns-then-far-rest c = let a = c.args in
    let l : 64 % a.step < a.step = mod-lt 64 (omega arith) in
    (omega arith, λ base e. next_on a.step base a.far a.rest c.requires.1 e (omega arith))

pub returns : goal.returns
returns c = let a = c.args in
    (omega arith, λ base e. next_back a.step base a.far a.rest c.requires.1 e (omega arith))
