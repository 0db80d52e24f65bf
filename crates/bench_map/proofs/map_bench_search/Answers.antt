-- `bench_map::map_bench_search` meets its contract: within the limits it is the number of what `search` found.
-- Assumes nothing.

use mathlib.Core.Path.{sym, ap, ◌∙◌}
use borrow.Author.Rules.{rules}
use Rattle.bench_map.specs.Answers.{start_for}
use Rattle.bench_map.proofs.Limits.{fits, no_search, search_outside, search_within}
use Rattle.bench_map.proofs.map_bench_search.Goals as goal

pub returns-then-k-eq0 : goal.returns-then-k-eq0
returns-then-k-eq0 c = no_search _ _ _ (search rules)

pub search-requires : goal.search-requires
search-requires c = let within = fits _ _ (sym c.within_limits.ensures ∙ c.if-within_limits.true) in
    (within.0, within.1, search rules)

pub returns-then-within_limits : goal.returns-then-within_limits
returns-then-within_limits c = c.unwrap_or.ensures ∙ ap start_for c.search.ensures
    ∙ search_within _ _ _ (search rules) (sym c.within_limits.ensures ∙ c.if-within_limits.true)

pub returns-else-within_limits : goal.returns-else-within_limits
returns-else-within_limits c = search_outside _ _ _ (search rules) (sym c.within_limits.ensures ∙ c.if-within_limits.false)
