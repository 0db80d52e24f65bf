-- Where the rule ends: worked lists that break it, so that its conditions are not idle. That they come to this is `worked` in
-- proofs/Worked.antt, by computation.
-- Assumes nothing.
use Rattle.std.specs.Prelude.{ℕ, ◌≡◌, List, [], ◌∷◌, ◌++◌, replicate}
use Rattle.calendar.specs.Calendar.{Date}
use Rattle.catalogue_standings.specs.declared.Answer.TheVariants.{Done, Refused}
use Rattle.catalogue_standings.specs.declared.Standing.TheVariants.{Complete, Paused, Open}
use Rattle.roles.specs.Roles.{pharmacist, carer}
use Rattle.refusals.specs.Placement.{plain}
use Rattle.refusals.specs.Table as table
use Rattle.refusals.specs.Table.{SheetCall, reserve, put, complete, release, change, pause, accept, show, show_dated}
use Rattle.card.specs.Calls.{Kept}
use Rattle.card.specs.Public.{on, close, by_map, Beside, End, ends, kept_after}
use Rattle.ledger.specs.Lists.{Made, end_of, fresh_state, pharmacists_calls}
use Rattle.role_lists.specs.Carers.{stands}
use Rattle.power_cuts.specs.Images.{recalled}

-- ---- what the lists are made of

-- What a list of a pharmacist's calls on sheets leaves.
abbrev pub left_by : Kept → List Made → Kept
left_by s [] = s
left_by s (m ∷ made) = left_by (kept_after (end_of s m)) made

abbrev pub calls : Kept → List SheetCall → Kept
calls s asked = left_by s (pharmacists_calls asked)

-- What a closing leaves, of a card of one word.
abbrev pub scratched : Beside
scratched = record { summary = []; scratch = 0 ∷ []; image = [] }

abbrev pub shut : Kept → Kept
shut s = kept_after (ends (by_map pharmacist) s scratched close)

-- The limits of the eight wings, wide enough; texts that show on every day to the year 2099; a day; and a buffer.
abbrev pub wide : List ℕ
wide = replicate 8 8

abbrev pub text : ℕ → List ℕ
text byte = (0 ∷ 0 ∷ 0 ∷ 0 ∷ 0 ∷ 0 ∷ 255 ∷ 255 ∷ []) ++ replicate 488 byte

abbrev pub day : Date
day = record { year = 2026; month = 1; day = 1 }

abbrev pub buffer : List ℕ
buffer = replicate 496 0

abbrev pub nothing : Beside
nothing = record { summary = []; scratch = []; image = [] }

-- What a carer is shown of a place on that day, and a pharmacist on any.
abbrev pub carer_sees : Kept → ℕ → ℕ → End
carer_sees s sheet place = ends (by_map carer) s nothing (on sheet (show_dated place day buffer))

abbrev pub pharmacist_sees : Kept → ℕ → ℕ → End
pharmacist_sees s sheet place = ends (by_map pharmacist) s nothing (on sheet (show place buffer))

-- ---- blocks are taken after a release that was not saved

-- A sheet of two places is complete, and saved. It is released, reserved anew, and a new text is put to place 0 only.
abbrev pub finished : Kept
finished =
    calls (fresh_state 2 1 (replicate 1024 0))
    (table.on 0 (reserve wide 2 plain) ∷ table.on 0 (put 0 (text 1)) ∷ table.on 0 (put 1 (text 2)) ∷ table.on 0 complete ∷ [])

abbrev pub begun_anew : Kept
begun_anew =
    calls finished (table.on 0 release ∷ table.on 0 (reserve wide 2 plain) ∷ table.on 0 (put 0 (text 3)) ∷ [])

-- The power goes, and the image is loaded: the sheet stands Complete, and a carer is shown the new, unfinished text, which was
-- never part of a Complete sheet.
pub record UnfinishedIsShown : Type 0 where
  pub was_complete : stands finished 0 ≡ Complete 0 2
  pub open_at_the_cut : stands begun_anew 0 ≡ Open 0 2
  pub complete_then : stands (recalled finished begun_anew.card) 0 ≡ Complete 0 2
  pub shown : (carer_sees (recalled finished begun_anew.card) 0 0).outcome.answer ≡ Done
  pub the_new_text : (carer_sees (recalled finished begun_anew.card) 0 0).buffer ≡ text 3

-- ---- the same after a release that returned no blocks

-- A sheet is paused without blocks, and saved. It is released, reserved and half written.
abbrev pub paused_first : Kept
paused_first = calls (fresh_state 2 1 (replicate 1024 0)) (table.on 0 (change pause) ∷ [])

abbrev pub half_written : Kept
half_written = calls paused_first (table.on 0 release ∷ table.on 0 (reserve wide 2 plain) ∷ table.on 0 (put 0 (text 3)) ∷ [])

-- The power goes, and the image is loaded: an unfinished sheet passes for a pause.
pub record UnfinishedIsPaused : Type 0 where
  pub open_at_the_cut : stands half_written 0 ≡ Open 0 2
  pub paused_then : stands (recalled paused_first half_written.card) 0 ≡ Paused

-- ---- a closing after a cut between a closing and its save, with a place that is not its sheet's

-- Block 0 is free, sheet 1 stands at block 1 and sheet 0 at block 2, both complete, and are saved. The card is closed.
abbrev pub behind_agap : Kept
behind_agap =
    calls (fresh_state 3 2 (replicate 1536 0))
    (table.on 1 (accept wide 1 1) ∷ table.on 0 (accept wide 2 1) ∷ table.on 1 (put 0 (text 2)) ∷ table.on 0 (put 0 (text 1))
    ∷ table.on 1 complete ∷ table.on 0 complete ∷ [])

-- The power goes, and the old image is loaded: sheet 1 holds sheet 0's block. Sheet 0 is released, written anew at block 0,
-- completed and saved.
abbrev pub cut_once : Kept
cut_once = recalled behind_agap (shut behind_agap).card

abbrev pub written_anew : Kept
written_anew =
    calls cut_once
    (table.on 0 release ∷ table.on 0 (reserve wide 1 plain) ∷ table.on 0 (put 0 (text 3)) ∷ table.on 0 complete ∷ [])

-- Sheet 0 is released and the card closed; the power goes, and the image is loaded.
abbrev pub cut_twice : Kept
cut_twice = recalled written_anew (shut (calls written_anew (table.on 0 release ∷ []))).card

-- It shows sheet 0's old text, and not the one that it was saved with.
pub record OldTextIsShown : Type 0 where
  pub not_its_own : (pharmacist_sees cut_once 1 0).outcome.answer ≡ Refused 4
  pub saved_complete : stands written_anew 0 ≡ Complete 0 1
  pub saved_text : (pharmacist_sees written_anew 0 0).buffer ≡ text 3
  pub shown : (pharmacist_sees cut_twice 0 0).outcome.answer ≡ Done
  pub the_old_text : (pharmacist_sees cut_twice 0 0).buffer ≡ text 1

-- ---- a put after a load of another image than the last one

-- A sheet is Open, and saved; its place is put, it is completed, and saved again.
abbrev pub opened : Kept
opened = calls (fresh_state 1 1 (replicate 512 0)) (table.on 0 (reserve wide 1 plain) ∷ [])

abbrev pub saved_last : Kept
saved_last = calls opened (table.on 0 (put 0 (text 1)) ∷ table.on 0 complete ∷ [])

-- The first image is loaded, and the place put again; no blocks are taken. The power goes, and the last image is loaded.
abbrev pub put_between : Kept
put_between = recalled saved_last (calls (recalled opened saved_last.card) (table.on 0 (put 0 (text 3)) ∷ [])).card

pub record UnfinishedIsShownAfterALoad : Type 0 where
  pub was_complete : stands saved_last 0 ≡ Complete 0 1
  pub shown : (pharmacist_sees put_between 0 0).outcome.answer ≡ Done
  pub the_new_text : (pharmacist_sees put_between 0 0).buffer ≡ text 3

-- All of them.
pub record Worked : Type 0 where
  pub unfinished_is_shown : UnfinishedIsShown
  pub unfinished_is_paused : UnfinishedIsPaused
  pub old_text_is_shown : OldTextIsShown
  pub unfinished_is_shown_after_a_load : UnfinishedIsShownAfterALoad
