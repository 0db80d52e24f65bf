-- `tally_entry` meets its contract.
-- Assumes nothing.

use Rattle.catalogue_standings.proofs.Tested.{fails, holds}
use Rattle.image_soundness.proofs.Steps.{rule_broken, counted_off}
use Rattle.image_soundness.proofs.tally_entry.Goals as goal

pub returns-then-not-keeps_rule : goal.returns-then-not-keeps_rule
returns-then-not-keeps_rule c = rule_broken _ _ _ (fails c.keeps_rule.ensures c.if-not-keeps_rule.true-raw)

pub returns : goal.returns
returns c = counted_off _ _ _ (holds c.keeps_rule.ensures c.if-not-keeps_rule.false-raw) _ c.checked_sub.ensures
