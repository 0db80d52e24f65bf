-- What the program's rows read: the view of shape, map, entry and card that a call is lent.
-- Assumes nothing.
use Rattle.std.specs.Prelude.{◌+◌, ◌*◌, false, not, ◌&&◌, eqb, length}
use Rattle.calendar.specs.Term.{term_of}
use Rattle.map_blocks.specs.Blocks as map-blocks
use Rattle.blocks_of_card.specs.Card.{block_of}
use Rattle.block_seals.specs.Sealed as sealed-block
use Rattle.catalogue_wings.specs.Wings.{wing_of}
use Rattle.catalogue_standings.specs.Standings.{standing_of}
use Rattle.catalogue_standings.specs.Limits.{shape_fits, sheets_fit}
use Rattle.refusals.specs.Guides.{guide_fits, found_by}
use Rattle.refusals.specs.Lent.{Lent}
use Rattle.refusals.specs.Table.{View}

-- A call that is not lent the card.
unfoldable pub view_at : Lent → View
unfolding shape_fits sheets_fit
view_at q = record {
  turned = q.turned;
  misfit = not (guide_fits q.guided q.summary (length q.map)
      && (shape_fits q.n q.spare (length q.map) && sheets_fit q.sheets));
  blocks = q.n;
  sheets = q.sheets;
  spare = q.spare;
  stands = standing_of q.n (map-blocks.free q.map) q.entry;
  free = map-blocks.free q.map;
  found = found_by q.guided q.summary q.map;
  blank = λ p. false;
  sound = λ p. false;
  term = record { first = 0; last = 0 };
  wing = wing_of q.sheet;
  held = q.held;
}

-- A call that is lent the card, of 512·n bytes.
unfoldable pub view_on : Lent → View
unfolding shape_fits sheets_fit
view_on q = record {
  turned = q.turned;
  misfit = not (guide_fits q.guided q.summary (length q.map)
      && (shape_fits q.n q.spare (length q.map) && sheets_fit q.sheets && eqb (length q.card) (512 * q.n)));
  blocks = q.n;
  sheets = q.sheets;
  spare = q.spare;
  stands = standing_of q.n (map-blocks.free q.map) q.entry;
  free = map-blocks.free q.map;
  found = found_by q.guided q.summary q.map;
  blank = λ p. sealed-block.blank (block_of q.card (q.entry.start + p));
  sound = λ p. sealed-block.sound q.sheet p (block_of q.card (q.entry.start + p));
  term = term_of (sealed-block.payload_of (block_of q.card q.entry.start));
  wing = wing_of q.sheet;
  held = q.held;
}
