-- `call_put::places::look` meets its contract.
-- Assumes nothing.

use mathlib.Core.Path.{◌≡◌, refl, sym, subst, ◌∙◌}
use Prim.Native.Nat.{ℕ, ◌+◌, ◌*◌, ◌≤◌}
use native.Mathlib.Omega.{arith}
use lib.ListN.{length}
use Rattle.std.specs.Prelude.{Option, Some, None}
use Rattle.std.specs.Option.{option_or}
use Rattle.map_blocks.specs.Blocks.{or_else}
use Rattle.catalogue_standings.proofs.Tested.{fails, holds}
use Rattle.call_put.proofs.Fillings.{Passed, none_passed, broken, sound_more, blank_more, blank_apart}
use Rattle.call_put.proofs.places.look.Invariants.{blankIn, soundIn}
use Rattle.call_put.proofs.places.look.Goals as goal
use Rattle.call_put.proofs.places.look.Goals.{then-not-sound_block+else-not-blank_block, else-not-sound_block}

either_first : (o other : Option ℕ) → or_else o other ≡ option_or o other
either_first (Some s) other = refl
either_first None other = refl

pub loop-place-init : goal.loop-place-init
loop-place-init c =
    let a = c.args in none_passed (blankIn a.card.now a.start) (soundIn a.card.now a.start a.sheet)

pub returns-then-not-blank_block : goal.returns-then-not-blank_block
returns-then-not-blank_block c =
    let a = c.args in (
      broken (blankIn a.card.now a.start) (soundIn a.card.now a.start a.sheet) a.blocks c.loop-place.place (omega arith)
          (fails c.blank_block.ensures c.if-not-blank_block.true-raw)
          (fails c.sound_block.ensures c.if-not-sound_block.true-raw),
      refl,
    )

pub loop-place-preserved : goal.loop-place-preserved
loop-place-preserved c =
    let a = c.args in
    let blank = blankIn a.card.now a.start in
    let sound = soundIn a.card.now a.start a.sheet in
    let place = c.loop-place.place in
    let inside : 512 * (a.start + place) + 512 ≤ length a.card.now = omega arith in
    elim c.if-not-sound_block.branch [
      | then-not-sound_block+else-not-blank_block w ↦
          subst (Passed blank sound (place + 1))
          (either_first c.loop-place.lowest (Some place) ∙ sym w.or-lowest.ensures ∙ sym w.lowest-is)
          (blank_more blank sound place c.loop-place.lowest c.loop-place.invariant
          (holds w.blank_block.ensures w.if-not-blank_block.false-raw))
      | else-not-sound_block w ↦
          subst (Passed blank sound (place + 1)) (sym w.lowest-is)
          (sound_more blank sound place c.loop-place.lowest c.loop-place.invariant
          (blank_apart a.card.now (a.start + place) a.sheet place inside)
          (holds c.sound_block.ensures w.if-not-sound_block.false-raw))
    ]
