-- `summary_search::fit_in_map` meets its contract.
-- Assumes nothing.

use Rattle.std.proofs.Common.{ℕ, sym, ap, ◌∙◌}
use Rattle.map_blocks.specs.Blocks.{free, least_fit}
use Rattle.summary_search.proofs.fit_in_map.Goals as goal

pub returns-then-step-eq1 : goal.returns-then-step-eq1
returns-then-step-eq1 c =
    let a = c.args in
    c.search.ensures ∙ ap (λ (step : ℕ). least_fit (free a.map.now) a.from a.end step a.k) (sym c.if-step-eq1.true)
