-- `bench_map::map_bench_survey` meets its contract: within the limits it is what `survey` counted.
-- Assumes nothing.

use mathlib.Core.Path.{sym, ap, ◌∙◌}
use Rattle.bench_map.specs.Answers.{counts_for}
use Rattle.bench_map.proofs.Limits.{fits, survey_outside, survey_within}
use Rattle.bench_map.proofs.map_bench_survey.Goals as goal

pub survey-counts-requires : goal.survey-counts-requires
survey-counts-requires c = fits _ _ (sym c.within_limits.ensures ∙ c.if-within_limits.true)

pub returns-then-within_limits : goal.returns-then-within_limits
returns-then-within_limits c = ap counts_for c.survey-counts.ensures
    ∙ survey_within _ _ (sym c.within_limits.ensures ∙ c.if-within_limits.true)

pub returns-else-within_limits : goal.returns-else-within_limits
returns-else-within_limits c = survey_outside _ _ (sym c.within_limits.ensures ∙ c.if-within_limits.false)
