-- `map_search_starts::look` meets its contract.
-- Assumes nothing.

use mathlib.Core.Path.{sym, ◌∙◌}
use Prim.Native.Nat.{ℕ, ◌^◌, ◌<◌}
use native.Mathlib.Omega.{arith}
use lib.Bits.{bit_and, and_lt}
use lib.Count.{count_leading_zeros, leading_le}
use Rattle.map_search_word.proofs.Ends.{first_set, First}
use Rattle.map_search_starts.proofs.Spans.{nothing_there, there}
use Rattle.map_search_starts.proofs.look.Goals as goal

pub returns-then-pairs-m-eq0 : goal.returns-then-pairs-m-eq0
returns-then-pairs-m-eq0 c = let p = c.pairs in
    let start = c in
    let a = start.args in record {
      by_index = λ q f from room here behind marks none. nothing_there q f a.k from a.base p.result a.m room
          (p.ensures f a.k a.base here behind start.requires.3) marks none c.if-pairs-m-eq0.true;
      lower_bound = tt;
    }

pub returns-then-g-eq0 : goal.returns-then-g-eq0
returns-then-g-eq0 c = let all_runs = c.runs in
    let a = c.args in record {
      by_index = λ q f from room here behind marks none. nothing_there q f a.k from a.base all_runs.result a.m room
          (λ j l e. all_runs.ensures f a.base here behind j l ∙ e) marks none c.if-g-eq0.true;
      lower_bound = tt;
    }

pub overflow_add-result : goal.overflow_add-result
overflow_add-result c = omega (arith, leading_le 64 (bit_and c.runs.result c.args.m))

pub returns : goal.returns
returns c = let all_runs = c.runs in
    let a = c.args in
    let g : ℕ = bit_and all_runs.result a.m in
    let b : g < 2 ^ 64 = and_lt 64 all_runs.result a.m (omega arith) (omega arith) in
    let first : First g (count_leading_zeros 64 g) = first_set g (omega arith) b in record {
      by_index = λ q f from room here behind marks none. there q f a.k from a.base all_runs.result a.m room
          (λ j l e. all_runs.ensures f a.base here behind j l ∙ e) marks none (count_leading_zeros 64 g) first
          (λ e. sym (all_runs.ensures f a.base here behind (count_leading_zeros 64 g) first.within) ∙ e);
      lower_bound = (omega arith, omega (arith, leading_le 64 g));
    }
