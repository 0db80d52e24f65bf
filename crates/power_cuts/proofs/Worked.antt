-- The worked lists, computed: `worked`.
-- Assumes nothing.
use mathlib.Core.Path.{refl}
use Rattle.calendar.specs.Calendar.{day_of, is_date, in_span, month_length, before_year, sum_of, leap_day, before_month}
use Rattle.calendar.specs.Term.{term_of, in_term}
use Rattle.map_blocks.specs.Blocks.{free}
use Rattle.map_blocks.specs.Maps.{marked, fresh_map}
use Rattle.blocks_of_card.specs.Card.{block_of, with_block, zeroed}
use Rattle.block_bytes.specs.Numbers.{bytes4, number_at}
use Rattle.block_seals.specs.Sealed.{sealed, sums, sound, check_holds, payload_of, blank}
use Rattle.catalogue_standings.specs.Rows.{first_of}
use Rattle.catalogue_standings.specs.Standings.{standing_of}
use Rattle.catalogue_wings.specs.Wings.{held_by}
use Rattle.roles.specs.Roles.{may}
use Rattle.refusals.specs.Effects as effects
use Rattle.refusals.specs.Table.{table_of}
use Rattle.refusals.specs.Views.{view_on, view_at}
use Rattle.power_cuts.specs.Worked.{UnfinishedIsShown, UnfinishedIsPaused}
use Rattle.power_cuts.specs.Worked.{UnfinishedIsShownAfterALoad, Worked}
use Rattle.power_cuts.proofs.WorkedClosings.{old_text_is_shown}

unfinished_is_paused : UnfinishedIsPaused
unfolding effects.reserve_out effects.reserve_map effects.reserve_card effects.change_out effects.release_out
    effects.release_map
    effects.put_card effects.put_answer view_on view_at table_of first_of standing_of marked free fresh_map zeroed with_block
    sealed
    held_by
    may
unfinished_is_paused = record { open_at_the_cut = refl; paused_then = refl }

unfinished_is_shown : UnfinishedIsShown
unfolding effects.reserve_out effects.reserve_map effects.reserve_card effects.change_out effects.release_out
    effects.release_map
    effects.put_card effects.put_answer effects.complete_out effects.show_dated_answer effects.show_dated_buffer view_on view_at
    table_of
    first_of standing_of marked free fresh_map zeroed with_block block_of sealed sound payload_of blank held_by may day_of
    is_date term_of
    in_term bytes4 number_at check_holds sums in_span month_length before_year sum_of
    leap_day before_month
unfinished_is_shown = record {
  was_complete = refl;
  open_at_the_cut = refl;
  complete_then = refl;
  shown = refl;
  the_new_text = refl;
}

unfinished_is_shown_after_a_load : UnfinishedIsShownAfterALoad
unfolding effects.reserve_out effects.reserve_map effects.reserve_card effects.put_card effects.put_answer effects.complete_out
    effects.show_answer effects.show_buffer view_on table_of first_of standing_of marked free fresh_map zeroed with_block
    block_of sealed
    sound payload_of blank held_by may bytes4 number_at check_holds sums
unfinished_is_shown_after_a_load = record { was_complete = refl; shown = refl; the_new_text = refl }

pub worked : Worked
worked = record {
  unfinished_is_shown = unfinished_is_shown;
  unfinished_is_paused = unfinished_is_paused;
  old_text_is_shown = old_text_is_shown;
  unfinished_is_shown_after_a_load = unfinished_is_shown_after_a_load;
}
