-- `call_show::dated::on_term` meets its contract: each way out by its row.
-- Assumes nothing.

use mathlib.Core.Path.{sym, ap, ◌∙◌}
use Rattle.calendar.proofs.Formulas.{dated, undated}
use Rattle.calendar.specs.Term.{term_of, in_term}
use Rattle.block_seals.specs.Sealed.{payload_of}
use Rattle.blocks_of_card.specs.Card.{block_of}
use Rattle.catalogue_standings.proofs.Tested.{fails, holds}
use Rattle.refusals.proofs.ShowDated.{no_date, first-unsound, outside, within}
use Rattle.call_show.proofs.dated.on_term.Goals as goal

pub returns-in_default : goal.returns-in_default
returns-in_default c = no_date _ _ _ (undated _ _ _ c.day_number.result c.day_number.ensures c.in_default.is)

pub returns-then-not-sound_block : goal.returns-then-not-sound_block
returns-then-not-sound_block c =
    let date = dated _ _ _ c.day_number.result c.day_number.ensures c.in-Some.number c.in-Some.is in
    first-unsound _ _ _ date.0 (fails c.sound_block.ensures c.if-not-sound_block.true-raw)

pub returns-then-not-day_in_term : goal.returns-then-not-day_in_term
returns-then-not-day_in_term c =
    let date = dated _ _ _ c.day_number.result c.day_number.ensures c.in-Some.number c.in-Some.is in
    let a = c.args in
    let term = term_of (payload_of (block_of a.card.now a.b)) in
    outside _ _ _ date.0 (holds c.sound_block.ensures c.if-not-sound_block.false-raw)
    (ap (in_term term) (sym date.1) ∙ fails c.day_in_term.ensures c.if-not-day_in_term.true-raw)

pub returns : goal.returns
returns c =
    let date = dated _ _ _ c.day_number.result c.day_number.ensures c.in-Some.number c.in-Some.is in
    let a = c.args in
    let term = term_of (payload_of (block_of a.card.now a.b)) in
    within _ _ _ date.0 (holds c.sound_block.ensures c.if-not-sound_block.false-raw)
    (ap (in_term term) (sym date.1) ∙ holds c.day_in_term.ensures c.if-not-day_in_term.false-raw)
