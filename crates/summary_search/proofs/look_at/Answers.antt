-- `summary_search::look_at` meets its contract.
-- Assumes nothing.

use Rattle.std.proofs.Common.{ℕ, ◌+◌, min, ap, ◌∙◌, arith}
use Rattle.map_blocks.specs.Blocks.{free, least_fit}
use Rattle.summary_search.proofs.look_at.Goals as goal

pub overflow_add-t-2 : goal.overflow_add-t-2
overflow_add-t-2 c = omega (arith, c.stretch_of.ensures)

pub returns : goal.returns
returns c =
    let a = c.args in
    c.fit_in_map.ensures
    ∙ ap (λ (e : ℕ). least_fit (free a.map.now) a.t e a.step a.k)
    (c.min-end.ensures ∙ ap (λ (x : ℕ). min a.before (a.t + a.k + x)) c.stretch_of.ensures)
