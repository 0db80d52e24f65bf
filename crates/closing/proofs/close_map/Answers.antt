-- `close_map` meets its contract.
-- Assumes nothing.
use Rattle.std.proofs.Common.{ℕ, false, List, ap, ◌∙◌}
use Rattle.map_blocks.specs.Maps.{marked}
use Rattle.closing.proofs.Taken.{taken_first_map}
use Rattle.closing.proofs.close_map.Goals as goal

pub returns : goal.returns
returns c = c.mark.ensures ∙ ap (λ (l : List ℕ). marked l 0 c.args.h false) c.fresh.ensures ∙ taken_first_map _ _ _
