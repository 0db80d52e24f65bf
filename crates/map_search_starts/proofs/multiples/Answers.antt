-- `map_search_starts::multiples` meets its contract. The loop's invariant: m has the multiples below `done`, which is one
-- itself.
-- Assumes nothing.

use mathlib.Core.Path.{sym, ap, ◌∙◌}
use Prim.Native.Nat.{ℕ, ◌+◌, ◌/◌, ◌%◌, ◌^◌, ◌<◌, ◌≤◌}
use native.Mathlib.Nat.{mod_self, mod-add-mod, zero-add, div-le_self}
use native.Mathlib.Omega.{arith}
use lib.Bits.{or_lt}
use Rattle.map_search_starts.proofs.Steps.{one_below, twice_below, all_below}
use Rattle.map_search_starts.proofs.multiples.Goals as goal

le-lt : {a b c : ℕ} → a ≤ b → b < c → a < c
le-lt l u = omega arith

pub loop-done-init : goal.loop-done-init
loop-done-init c = let a = c.args in (
  omega arith,
  omega arith,
  mod_self a.step,
  omega arith,
  one_below a.step c.span-m.result (omega arith) c.span-m.ensures,
)

pub loop-done-preserved : goal.loop-done-preserved
loop-done-preserved c = let a = c.args in
    let loop = c.loop-done in (
      omega arith,
      omega arith,
      sym (mod-add-mod loop.done a.step loop.done) ∙ ap (λ (x : ℕ). (x + loop.done) % a.step) loop.invariant.2
          ∙ ap (λ (x : ℕ). x % a.step) (zero-add loop.done) ∙ loop.invariant.2,
      or_lt 64 loop.m (loop.m / 2 ^ loop.done) loop.invariant.3
          (le-lt (div-le_self loop.m (2 ^ loop.done)) loop.invariant.3),
      twice_below a.step loop.done loop.m (omega arith) loop.invariant.3 loop.invariant.2 loop.invariant.4,
    )

pub returns : goal.returns
returns c = let loop = c.loop-done in
    all_below c.args.step loop.done loop.m (omega arith) loop.invariant.4
