-- `pagunlit::with_summary::pagunlit_summary_check` meets its contract.
-- Assumes nothing.

use mathlib.Core.Path.{ap, ◌∙◌}
use Rattle.pagunlit_replies.specs.Replies.{reply_of}
use Rattle.pagunlit.proofs.with_summary.pagunlit_summary_check.Goals as goal

pub returns : goal.returns
returns c = c.reply_of.ensures ∙ ap reply_of c.summary_check-outcome.ensures
