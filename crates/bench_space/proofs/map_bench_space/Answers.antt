-- `bench_space::map_bench_space` meets its contract: within the limits it is what `space` counted.
-- Assumes nothing.

use mathlib.Core.Path.{sym, ◌∙◌}
use Rattle.bench_map.proofs.Limits.{fits}
use Rattle.bench_space.proofs.Limits.{space_within, space_outside}
use Rattle.bench_space.proofs.map_bench_space.Goals as goal

pub space-requires : goal.space-requires
space-requires c = fits _ _ (sym c.within_limits.ensures ∙ c.if-within_limits.true)

pub returns-then-within_limits : goal.returns-then-within_limits
returns-then-within_limits c = c.space.ensures ∙ space_within _ _ _ (sym c.within_limits.ensures ∙ c.if-within_limits.true)

pub returns-else-within_limits : goal.returns-else-within_limits
returns-else-within_limits c = space_outside _ _ _ (sym c.within_limits.ensures ∙ c.if-within_limits.false)
