-- `call_show::place::show_block` meets its contract: the block is not sound, or its payload is copied out.
-- Assumes nothing.

use mathlib.Core.Path.{sym, ap, ◌∙◌}
use Rattle.blocks_of_card.specs.Card.{block_of}
use Rattle.catalogue_standings.specs.Rows.{Verdict}
use Rattle.catalogue_standings.proofs.Tested.{fails, holds}
use Rattle.refusals.specs.Effects.{shown_buffer}
use Rattle.refusals.proofs.Show.{not_sound, is_sound}
use Rattle.call_show.proofs.place.show_block.Goals as goal

pub returns-then-not-sound_block : goal.returns-then-not-sound_block
returns-then-not-sound_block c =
    let a = c.args in
    let told = not_sound _ (fails c.sound_block.ensures c.if-not-sound_block.true-raw) in
    (told, sym (ap (λ (v : Verdict). shown_buffer v (block_of a.card.now a.b) a.buffer.now) told))

pub returns : goal.returns
returns c =
    let a = c.args in
    let told = is_sound _ (holds c.sound_block.ensures c.if-not-sound_block.false-raw) in (
      told,
      c.copy_payload.ensures ∙ sym (ap (λ (v : Verdict). shown_buffer v (block_of a.card.now a.b) a.buffer.now) told),
    )
