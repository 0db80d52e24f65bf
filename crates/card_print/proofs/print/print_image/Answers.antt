-- `card_print::print::print_image`: the text of the refusal, or of the card that load left, is what is to be printed.
-- Assumes nothing.
use Rattle.std.proofs.Common.{ap, ◌∙◌}
use Rattle.pagunlit_replies.specs.Replies.{reply_of}
use Rattle.card_print.proofs.Prints.{surveyed, prints}
use Rattle.card_print.proofs.print.print_image.Goals as goal

pub survey-counts-requires : goal.survey-counts-requires
survey-counts-requires c =
    let a = c.args in
    let e = c.load-outcome.ensures in
    surveyed a.shape a.role a.image.now a.map.now a.catalogue.now a.scratch.now a.text.now
    c.reply_of-loaded.result _ _ _ (c.reply_of-loaded.ensures ∙ ap reply_of e.0) e.1 e.2 e.3 c.if-loaded-ne0.false

pub returns-then-loaded-ne0 : goal.returns-then-loaded-ne0
returns-then-loaded-ne0 c =
    let a = c.args in
    let e = c.load-outcome.ensures in
    prints a.shape a.role a.image.now a.map.now a.catalogue.now a.scratch.now a.text.now
    c.reply_of-loaded.result _ _ _ (c.reply_of-loaded.ensures ∙ ap reply_of e.0) e.1 e.2 e.3
    (record { free = 0; runs = 0; longest = 0 }) c.describe_refusal.result c.describe_refusal.new.text
    (λ z. absurd (c.if-loaded-ne0.true z)) (λ _. c.describe_refusal.ensures)

pub returns : goal.returns
returns c =
    let a = c.args in
    let e = c.load-outcome.ensures in
    prints a.shape a.role a.image.now a.map.now a.catalogue.now a.scratch.now a.text.now
    c.reply_of-loaded.result _ _ _ (c.reply_of-loaded.ensures ∙ ap reply_of e.0) e.1 e.2 e.3
    c.survey-counts.result c.describe_card.result c.describe_card.new.text
    (λ _. (c.survey-counts.ensures, c.describe_card.ensures)) (λ d. absurd (d c.if-loaded-ne0.false))
