-- Images written before document 02 (g), when an entry marked Paused had start 0 and length 0 alone: the rule as it was, and
-- what is claimed of save and load by the rule as it is, of calls that are not turned away. What an image is (`image_of`,
-- `state_in`, Image.antt) has not moved, nor
-- has a row (Table.antt), but for when an entry is damaged. Proved in proofs/Before.antt.
-- Assumes nothing.
use Rattle.std.specs.Prelude.{◌≡◌, Bool, true, false, not, ◌&&◌, ◌||◌, cond, List, [], ◌∷◌, ℕ, eqb}
use Rattle.map_blocks.specs.Blocks.{free}
use Rattle.catalogue.specs.Entries.{absent_mark, paused_mark, open_mark, complete_mark}
use Rattle.catalogue.specs.declared.Entry.{Entry}
use Rattle.catalogue_standings.specs.Rows.{Verdict, accepted, first_of}
use Rattle.catalogue_standings.specs.Standings.{extent_holds, is_damaged}
use Rattle.catalogue_standings.specs.declared.Standing.{Standing}
use Rattle.catalogue_standings.specs.declared.Standing.TheVariants.{Absent, Paused, Open, Complete, Damaged}
use Rattle.image_soundness.specs.Sound.{State, sound_if}
use Rattle.image.specs.Image.{state_in}
use Rattle.image.specs.Table.{save_rows_if, load_rows_if, save_verdict, load_verdict}

-- What an entry said (`standing_of` is what it says now).
unfoldable pub standing_before : ℕ → (ℕ → Bool) → Entry → Standing
unfolding extent_holds
standing_before n free e =
    cond (eqb e.mark absent_mark) (cond (eqb e.start 0 && eqb e.length 0) Absent Damaged)
    (cond (eqb e.mark paused_mark) (cond (eqb e.start 0 && eqb e.length 0) Paused Damaged)
    (cond (eqb e.mark open_mark) (cond (extent_holds n free e.start e.length) (Open e.start e.length) Damaged)
    (cond (eqb e.mark complete_mark) (cond (extent_holds n free e.start e.length)
    (Complete e.start e.length) Damaged)
    Damaged)))

unfoldable pub undamaged_before : ℕ → (ℕ → Bool) → List Entry → Bool
undamaged_before n f [] = true
undamaged_before n f (e ∷ es) = not (is_damaged (standing_before n f e)) && undamaged_before n f es

-- A state that was sound, and what save and load answered.
abbrev pub sound_before : State → Bool
sound_before s = sound_if (undamaged_before s.blocks (free s.map) s.entries) s

abbrev pub save_verdict_before : State → ℕ → ℕ → Verdict
save_verdict_before s scratchlen bufferlen = first_of (save_rows_if false (sound_before s) s scratchlen bufferlen)

abbrev pub load_verdict_before : List ℕ → ℕ → ℕ → ℕ → Verdict
load_verdict_before image maplen count scratchlen =
    first_of (load_rows_if false (sound_before (state_in image)) image maplen count scratchlen)

-- No entry marked Paused has blocks: its start is 0 and its length 0.
abbrev pub not_paused_with : Entry → Bool
not_paused_with e = not (eqb e.mark paused_mark) || (eqb e.start 0 && eqb e.length 0)

unfoldable pub no_paused_blocks : List Entry → Bool
no_paused_blocks [] = true
no_paused_blocks (e ∷ es) = not_paused_with e && no_paused_blocks es

-- Save and load answer as they did where no sheet is paused with blocks: what one accepts, and what it refuses with.
abbrev pub SavesAsBefore : Type 0
SavesAsBefore =
    (s : State) (scratchlen bufferlen : ℕ) → no_paused_blocks s.entries ≡ true
    → save_verdict false s scratchlen bufferlen ≡ save_verdict_before s scratchlen bufferlen

abbrev pub LoadsAsBefore : Type 0
LoadsAsBefore =
    (image : List ℕ) (maplen count scratchlen : ℕ) → no_paused_blocks (state_in image).entries ≡ true
    → load_verdict false image maplen count scratchlen ≡ load_verdict_before image maplen count scratchlen

-- So each state that could be saved still can be, and each image that could be loaded.
abbrev pub StillSaves : Type 0
StillSaves =
    (s : State) (scratchlen bufferlen : ℕ) → save_verdict_before s scratchlen bufferlen ≡ accepted
    → save_verdict false s scratchlen bufferlen ≡ accepted

abbrev pub StillLoads : Type 0
StillLoads =
    (image : List ℕ) (maplen count scratchlen : ℕ) → load_verdict_before image maplen count scratchlen ≡ accepted
    → load_verdict false image maplen count scratchlen ≡ accepted
