-- `tally_entries`: a turn counts one entry more, and one that does not count is the last.
-- Assumes nothing.
use Rattle.std.proofs.Common.{sym, ◌∙◌, arith}
use Rattle.image_soundness.proofs.Counted.{tally_step, tally_stop, tally_end}
use Rattle.image_soundness.proofs.tally_entries.Goals as goal

pub returns-in_err-left : goal.returns-in_err-left
returns-in_err-left c =
    c.from_residual.ensures ∙ sym (tally_stop _ _ c.loop-entry.entry-index _ (omega arith) c.in_err-left.ensures)
    ∙ c.loop-entry.invariant

pub loop-entry-preserved : goal.loop-entry-preserved
loop-entry-preserved c =
    sym (tally_step _ _ c.loop-entry.entry-index _ _ (omega arith) c.in_ok-left.ensures) ∙ c.loop-entry.invariant

pub returns : goal.returns
returns c = sym (tally_end _ _ c.loop-entry.entry-index _ (omega arith)) ∙ c.loop-entry.invariant
