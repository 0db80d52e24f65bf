-- `call_show::standing::standing` meets its contract: the opening rows refuse, or what the entry says is answered.
-- Assumes nothing.

use mathlib.Core.Path.{sym, ◌∙◌}
use Rattle.catalogue_standings.specs.Rows.{accepted}
use Rattle.refusals.proofs.Standing.{out, shut, passes}
use Rattle.call_show.proofs.standing.standing.Goals as goal

pub returns-in-Err : goal.returns-in-Err
returns-in-Err c = c.answer.ensures ∙ sym (out _ _ (shut _ c.in-Err.why c.enter.ensures c.in-Err.is))

pub returns-in-Ok : goal.returns-in-Ok
returns-in-Ok c = sym (out _ accepted (passes _ c.in-Ok.field-0 c.enter.ensures c.in-Ok.is))
