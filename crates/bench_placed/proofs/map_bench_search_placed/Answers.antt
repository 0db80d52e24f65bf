-- `bench_placed::map_bench_search_placed` meets its contract: within the limits it is the number of what `search_placed` found.
-- Assumes nothing.

use mathlib.Core.Path.{sym, ap, ◌∙◌}
use native.Mathlib.Omega.{arith}
use borrow.Author.Rules.{rules}
use Rattle.bench_map.specs.Answers.{start_for}
use Rattle.bench_map.proofs.Limits.{fits}
use Rattle.bench_placed.proofs.Figures.{no_blocks, no_step, past_last, placed_outside, placed_within}
use Rattle.bench_placed.proofs.map_bench_search_placed.Goals as goal

pub returns-then-k-eq0 : goal.returns-then-k-eq0
returns-then-k-eq0 c = no_blocks _ _ _ _ _ _ (search rules)

pub returns-then-step-eq0 : goal.returns-then-step-eq0
returns-then-step-eq0 c = no_step _ _ _ _ _ _ (search rules) (search rules)

pub returns-then-n-before : goal.returns-then-n-before
returns-then-n-before c = past_last _ _ _ _ _ _ (search rules) (search rules) (search rules)

pub search_placed-requires : goal.search_placed-requires
search_placed-requires c = let within = fits _ _ (sym c.within_limits.ensures ∙ c.if-within_limits.true) in
    (omega (arith, within.0), omega (arith, within.1), search rules, search rules)

pub returns-then-within_limits : goal.returns-then-within_limits
returns-then-within_limits c = c.unwrap_or.ensures ∙ ap start_for c.search_placed.ensures
    ∙ placed_within _ _ _ _ _ _ (search rules) (search rules) (search rules)
    (sym c.within_limits.ensures ∙ c.if-within_limits.true)

pub returns-else-within_limits : goal.returns-else-within_limits
returns-else-within_limits c = placed_outside _ _ _ _ _ _ (search rules) (search rules) (search rules)
    (sym c.within_limits.ensures ∙ c.if-within_limits.false)
