use mathlib.Core.Path.{ap, ◌∙◌}
use Rattle.pagunlit_replies.specs.Replies.{reply_of}
use Rattle.pagunlit.proofs.pagunlit_survey.Goals as goal

pub returns : goal.returns
returns c = c.reply_of.ensures ∙ ap reply_of c.survey-outcome.ensures
