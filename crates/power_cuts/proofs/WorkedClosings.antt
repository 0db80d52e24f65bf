-- The worked list with two closings: `old_text_is_shown`. What a closing leaves is worked out block by block.
-- Assumes nothing.
use Prim.Native.Nat.{ℕ, ◌≤◌}
use mathlib.Core.Path.{◌≡◌, refl, sym, ap, ◌∙◌}
use mathlib.Core.List.{List, [], ◌∷◌, ◌++◌, append-nil}
use native.Mathlib.Omega.{arith}
use lib.ListN.{length, take, drop, length-drop, take-append-drop, drop_of_length-le}
use lib.Seq.{drop-drop}
use Rattle.map_blocks.specs.Blocks.{free}
use Rattle.map_blocks.specs.Maps.{marked, fresh_map}
use Rattle.blocks_of_card.specs.Card.{block_of, with_block, zeroed}
use Rattle.block_bytes.specs.Numbers.{bytes4, number_at}
use Rattle.block_seals.specs.Sealed.{sealed, sums, sound, check_holds, payload_of, blank}
use Rattle.catalogue.specs.declared.Entry.{Entry}
use Rattle.catalogue_standings.specs.Rows.{first_of}
use Rattle.catalogue_standings.specs.Standings.{standing_of}
use Rattle.catalogue_standings.specs.declared.Answer.TheVariants.{Done, Refused}
use Rattle.catalogue_standings.specs.declared.Standing.TheVariants.{Complete}
use Rattle.catalogue_wings.specs.Wings.{held_by}
use Rattle.closing.specs.Closed.{source, closed_card}
use Rattle.closing.specs.Effects as closings
use Rattle.closing_moves.proofs.Moved.{sourced_block, sourced_length}
use Rattle.survey.specs.Survey.{counts_of}
use Rattle.roles.specs.Roles.{may}
use Rattle.refusals.specs.Effects as effects
use Rattle.refusals.specs.Table as table
use Rattle.refusals.specs.Placement.{plain}
use Rattle.refusals.specs.Table.{reserve, put, complete, release, table_of}
use Rattle.refusals.specs.Views.{view_on, view_at}
use Rattle.card.specs.Calls.{Kept}
use Rattle.card.specs.Public.{End}
use Rattle.role_lists.specs.Carers.{stands}
use Rattle.power_cuts.specs.Images.{recalled}
use Rattle.power_cuts.specs.Worked.{calls, shut, wide, text, behind_agap, pharmacist_sees, OldTextIsShown}

-- ---- a card of three blocks

all_taken : (x : List ℕ) → length x ≡ 512 → x ≡ take 512 x
all_taken x h =
    sym (take-append-drop 512 x) ∙ ap (λ (l : List ℕ). take 512 x ++ l) (drop_of_length-le x {i = 512}
    (omega arith)) ∙ append-nil (take 512 x)

three_blocks : (x : List ℕ) → length x ≡ 1536 → x ≡ block_of x 0 ++ (block_of x 1 ++ block_of x 2)
unfolding block_of
three_blocks x h =
    sym (take-append-drop 512 x)
    ∙ ap (λ (l : List ℕ). take 512 x ++ l)
    (sym (take-append-drop 512 (drop 512 x))
    ∙ ap (λ (l : List ℕ). take 512 (drop 512 x) ++ l)
    (drop-drop 512 512 x ∙ all_taken (drop 1024 x) (length-drop 1024 x ∙ omega arith)))

-- ---- the first closing: sheet 1 moves to block 0, sheet 0 to block 1, and block 2 keeps its bytes

abbrev once : List ℕ
once = sealed 1 0 (text 2) ++ (sealed 0 0 (text 1) ++ sealed 0 0 (text 1))

closed_card_lem : (shut behind_agap).card ≡ closed_card behind_agap.entries behind_agap.card
unfolding effects.reserve_out effects.reserve_map effects.reserve_card effects.accept_out effects.accept_map effects.accept_card
    effects.release_out effects.release_map effects.put_card effects.put_answer effects.complete_out effects.show_answer
    effects.show_buffer closings.close_number closings.close_map closings.close_entries closings.close_card view_on view_at
    table_of
    first_of standing_of marked free fresh_map zeroed with_block block_of sealed sound payload_of blank held_by may bytes4
    number_at
    check_holds sums counts_of
closed_card_lem = refl

bytes : length behind_agap.card ≡ 1536
unfolding effects.reserve_out effects.reserve_map effects.reserve_card effects.accept_out effects.accept_map effects.accept_card
    effects.release_out effects.release_map effects.put_card effects.put_answer effects.complete_out effects.show_answer
    effects.show_buffer closings.close_number closings.close_map closings.close_entries closings.close_card view_on view_at
    table_of
    first_of standing_of marked free fresh_map zeroed with_block block_of sealed sound payload_of blank held_by may bytes4
    number_at
    check_holds sums counts_of
bytes = refl

-- the card that a closing leaves, of three blocks whose sources are known
module _ (entries : List Entry) (card : List ℕ) (long : length card ≡ 1536) (b c d : ℕ) (few : (b ≤ 2) × (c ≤ 2) × (d ≤ 2))
    (first : source entries entries 0 ≡ b) (second : source entries entries 1 ≡ c) (third : source entries entries 2 ≡ d) where
  left_so : closed_card entries card ≡ block_of card b ++ (block_of card c ++ block_of card d)
  unfolding closed_card
  left_so =
      three_blocks (closed_card entries card) (sourced_length card (source entries entries) ∙ long)
      ∙ λ x. of 0 b first (omega arith) few.0 x
      ++ (of 1 c second (omega arith) few.1 x ++ of 2 d third (omega arith) few.2 x)
    where
      of : (at from : ℕ) → source entries entries at ≡ from → at ≤ 2 → from ≤ 2
          → block_of (closed_card entries card) at ≡ block_of card from
      of at from e l u = sourced_block card (source entries entries) at from e (omega (arith, long)) (omega (arith, long))

blocks_once : block_of behind_agap.card 1 ++ (block_of behind_agap.card 2 ++ block_of behind_agap.card 2) ≡ once
unfolding effects.accept_out effects.accept_map effects.accept_card effects.put_card effects.put_answer effects.complete_out
    view_on
    table_of first_of standing_of marked free fresh_map zeroed with_block block_of sealed sound blank held_by may bytes4
    number_at
    check_holds sums source
blocks_once = refl

sources_once : (source behind_agap.entries behind_agap.entries 0 ≡ 1)
    × (source behind_agap.entries behind_agap.entries 1 ≡ 2) × (source behind_agap.entries behind_agap.entries 2 ≡ 2)
unfolding effects.accept_out effects.accept_map effects.accept_card effects.put_card effects.put_answer effects.complete_out
    view_on
    table_of first_of standing_of marked free fresh_map zeroed with_block block_of sealed sound blank held_by may bytes4
    number_at
    check_holds sums source
sources_once = (refl, refl, refl)

after_once : (shut behind_agap).card ≡ once
after_once =
    closed_card_lem
    ∙ left_so behind_agap.entries behind_agap.card bytes 1 2 2 (omega arith, omega arith, omega arith) sources_once.0
    sources_once.1 sources_once.2
    ∙ blocks_once

-- ---- from there on, whatever the closing left

abbrev written_from : List ℕ → Kept
written_from card =
    calls (recalled behind_agap card)
    (table.on 0 release ∷ table.on 0 (reserve wide 1 plain) ∷ table.on 0 (put 0 (text 3)) ∷ table.on 0 complete ∷ [])

-- sheet 0 is released
abbrev freed_from : List ℕ → Kept
freed_from card = calls (written_from card) (table.on 0 release ∷ [])

-- the second closing: sheet 1 moves to block 0, with the block that is not its own
abbrev twice : List ℕ
twice = sealed 0 0 (text 1) ++ (sealed 0 0 (text 1) ++ sealed 0 0 (text 1))

closed_again : (shut (freed_from once)).card ≡ closed_card (freed_from once).entries (freed_from once).card
unfolding effects.reserve_out effects.reserve_map effects.reserve_card effects.accept_out effects.accept_map effects.accept_card
    effects.release_out effects.release_map effects.put_card effects.put_answer effects.complete_out effects.show_answer
    effects.show_buffer closings.close_number closings.close_map closings.close_entries closings.close_card view_on view_at
    table_of
    first_of standing_of marked free fresh_map zeroed with_block block_of sealed sound payload_of blank held_by may bytes4
    number_at
    check_holds sums counts_of source
closed_again = refl

bytes_again : length (freed_from once).card ≡ 1536
unfolding effects.reserve_out effects.reserve_map effects.reserve_card effects.accept_out effects.accept_map effects.accept_card
    effects.release_out effects.release_map effects.put_card effects.put_answer effects.complete_out effects.show_answer
    effects.show_buffer closings.close_number closings.close_map closings.close_entries closings.close_card view_on view_at
    table_of
    first_of standing_of marked free fresh_map zeroed with_block block_of sealed sound payload_of blank held_by may bytes4
    number_at
    check_holds sums counts_of source
bytes_again = refl

sources_twice : (source (freed_from once).entries (freed_from once).entries 0 ≡ 1)
    × (source (freed_from once).entries (freed_from once).entries 1 ≡ 1)
    × (source (freed_from once).entries (freed_from once).entries 2 ≡ 2)
unfolding effects.reserve_out effects.reserve_map effects.reserve_card effects.accept_out effects.accept_map effects.accept_card
    effects.release_out effects.release_map effects.put_card effects.put_answer effects.complete_out effects.show_answer
    effects.show_buffer closings.close_number closings.close_map closings.close_entries closings.close_card view_on view_at
    table_of
    first_of standing_of marked free fresh_map zeroed with_block block_of sealed sound payload_of blank held_by may bytes4
    number_at
    check_holds sums counts_of source
sources_twice = (refl, refl, refl)

blocks_twice : block_of (freed_from once).card 1 ++ (block_of (freed_from once).card 1 ++ block_of
    (freed_from once).card 2) ≡ twice
unfolding effects.reserve_out effects.reserve_map effects.reserve_card effects.accept_out effects.accept_map effects.accept_card
    effects.release_out effects.release_map effects.put_card effects.put_answer effects.complete_out effects.show_answer
    effects.show_buffer closings.close_number closings.close_map closings.close_entries closings.close_card view_on view_at
    table_of
    first_of standing_of marked free fresh_map zeroed with_block block_of sealed sound payload_of blank held_by may bytes4
    number_at
    check_holds sums counts_of source
blocks_twice = refl

after_twice : (shut (freed_from once)).card ≡ twice
after_twice =
    closed_again
    ∙ left_so (freed_from once).entries (freed_from once).card bytes_again 1 1 2 (omega arith, omega arith, omega arith)
    sources_twice.0 sources_twice.1 sources_twice.2
    ∙ blocks_twice

-- ---- what is shown

abbrev seen : Kept → List ℕ → ℕ → End
seen s card sheet = pharmacist_sees (recalled s card) sheet 0

not_its_own : (seen behind_agap once 1).outcome.answer ≡ Refused 4
unfolding effects.reserve_out effects.reserve_map effects.reserve_card effects.accept_out effects.accept_map effects.accept_card
    effects.release_out effects.release_map effects.put_card effects.put_answer effects.complete_out effects.show_answer
    effects.show_buffer closings.close_number closings.close_map closings.close_entries closings.close_card view_on view_at
    table_of
    first_of standing_of marked free fresh_map zeroed with_block block_of sealed sound payload_of blank held_by may bytes4
    number_at
    check_holds sums counts_of source
not_its_own = refl

saved_complete : stands (written_from once) 0 ≡ Complete 0 1
unfolding effects.reserve_out effects.reserve_map effects.reserve_card effects.accept_out effects.accept_map effects.accept_card
    effects.release_out effects.release_map effects.put_card effects.put_answer effects.complete_out effects.show_answer
    effects.show_buffer closings.close_number closings.close_map closings.close_entries closings.close_card view_on view_at
    table_of
    first_of standing_of marked free fresh_map zeroed with_block block_of sealed sound payload_of blank held_by may bytes4
    number_at
    check_holds sums counts_of source
saved_complete = refl

saved_text : (pharmacist_sees (written_from once) 0 0).buffer ≡ text 3
unfolding effects.reserve_out effects.reserve_map effects.reserve_card effects.accept_out effects.accept_map effects.accept_card
    effects.release_out effects.release_map effects.put_card effects.put_answer effects.complete_out effects.show_answer
    effects.show_buffer closings.close_number closings.close_map closings.close_entries closings.close_card view_on view_at
    table_of
    first_of standing_of marked free fresh_map zeroed with_block block_of sealed sound payload_of blank held_by may bytes4
    number_at
    check_holds sums counts_of source
saved_text = refl

shown : (seen (written_from once) twice 0).outcome.answer ≡ Done
unfolding effects.reserve_out effects.reserve_map effects.reserve_card effects.accept_out effects.accept_map effects.accept_card
    effects.release_out effects.release_map effects.put_card effects.put_answer effects.complete_out effects.show_answer
    effects.show_buffer closings.close_number closings.close_map closings.close_entries closings.close_card view_on view_at
    table_of
    first_of standing_of marked free fresh_map zeroed with_block block_of sealed sound payload_of blank held_by may bytes4
    number_at
    check_holds sums counts_of source
shown = refl

old_text : (seen (written_from once) twice 0).buffer ≡ text 1
unfolding effects.reserve_out effects.reserve_map effects.reserve_card effects.accept_out effects.accept_map effects.accept_card
    effects.release_out effects.release_map effects.put_card effects.put_answer effects.complete_out effects.show_answer
    effects.show_buffer closings.close_number closings.close_map closings.close_entries closings.close_card view_on view_at
    table_of
    first_of standing_of marked free fresh_map zeroed with_block block_of sealed sound payload_of blank held_by may bytes4
    number_at
    check_holds sums counts_of source
old_text = refl

-- what the last image shows, by what the closings left
abbrev last : {A : Type 0} → (End → A) → List ℕ → A
last read card = read (seen (written_from card) (shut (freed_from card)).card 0)

both_cuts : {A : Type 0} (read : End → A) → last read (shut behind_agap).card ≡ read (seen (written_from once) twice 0)
both_cuts read =
    ap (last read) after_once ∙ ap (λ (card : List ℕ). read (seen (written_from once) card 0)) after_twice

pub old_text_is_shown : OldTextIsShown
old_text_is_shown = record {
  not_its_own = ap (λ (card : List ℕ). (seen behind_agap card 1).outcome.answer) after_once ∙ not_its_own;
  saved_complete = ap (λ (card : List ℕ). stands (written_from card) 0) after_once ∙ saved_complete;
  saved_text = ap (λ (card : List ℕ). (pharmacist_sees (written_from card) 0 0).buffer) after_once ∙ saved_text;
  shown = both_cuts (λ e. e.outcome.answer) ∙ shown;
  the_old_text = both_cuts (λ e. e.buffer) ∙ old_text;
}
