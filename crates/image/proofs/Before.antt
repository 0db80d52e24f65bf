-- Save and load answer as they did before document 02 (g) where no sheet is paused with blocks, and what they accepted they
-- accept.
-- Assumes nothing.
use mathlib.Core.Path.{◌≡◌, refl, ap, ap₂, ◌∙◌}
use mathlib.Core.Bool.{Bool, true, false, not, ◌&&◌, ◌||◌, cond, true≢false, false≢true}
use mathlib.Core.List.{List, [], ◌∷◌}
use Prim.Native.Nat.{ℕ}
use lib.Dec.{eqb}
use borrow.Author.Tests.{not-true, not-false}
use Rattle.map_blocks.specs.Blocks.{free}
use Rattle.laws.proofs.Bools.{and_left, and_right, and_both}
use Rattle.catalogue.specs.Entries.{absent_mark, paused_mark}
use Rattle.catalogue.specs.declared.Entry.{Entry}
use Rattle.catalogue_standings.specs.Rows.{first_of}
use Rattle.catalogue_standings.specs.Standings.{standing_of, is_damaged}
use Rattle.catalogue_standings.specs.declared.Standing.{Standing}
use Rattle.catalogue_standings.specs.declared.Standing.TheVariants.{Absent, Paused, Damaged}
use Rattle.image_soundness.specs.Sound.{State, undamaged, sound, sound_if}
use Rattle.image.specs.Before.{standing_before, undamaged_before, sound_before, not_paused_with, no_paused_blocks}
use Rattle.image.specs.Before.{SavesAsBefore, LoadsAsBefore, StillSaves, StillLoads}
use Rattle.image.specs.Image.{blocks_in, sheets_in, state_in, filled}
use Rattle.image.specs.Table.{save_rows_if, save_verdict, load_rows_if, load_verdict}
use Rattle.catalogue_standings.proofs.Rows.{clear}

-- ---- an entry

module _ (n : ℕ) (f : ℕ → Bool) (e : Entry) where
  -- by whether its mark is Absent or Paused, and whether start and length are 0
  same : (p q z : Bool) (paused rest : Standing) → (not q || z) ≡ true
      → cond p (cond z Absent Damaged) (cond q (cond z Paused paused) rest)
      ≡ cond p (cond z Absent Damaged) (cond q (cond z Paused Damaged) rest)
  same true q z paused rest b = refl
  same false true true paused rest b = refl
  same false true false paused rest b = absurd (false≢true b)
  same false false z paused rest b = refl

  same_standing : not_paused_with e ≡ true → standing_of n f e ≡ standing_before n f e
  unfolding standing_of standing_before
  same_standing b =
      same (eqb e.mark absent_mark) (eqb e.mark paused_mark) (eqb e.start 0 && eqb e.length 0) _ _ b

  bare : (p q z : Bool) (rest : Standing)
      → is_damaged (cond p (cond z Absent Damaged) (cond q (cond z Paused Damaged) rest)) ≡ false → (not q || z) ≡ true
  bare p false z rest d = refl
  bare p true true rest d = refl
  bare true true false rest d = absurd (true≢false d)
  bare false true false rest d = absurd (true≢false d)

  was_bare : is_damaged (standing_before n f e) ≡ false → not_paused_with e ≡ true
  unfolding standing_before
  was_bare d = bare (eqb e.mark absent_mark) (eqb e.mark paused_mark) (eqb e.start 0 && eqb e.length 0) _ d

-- ---- a state

same_undamaged : (n : ℕ) (f : ℕ → Bool) (es : List Entry) → no_paused_blocks es ≡ true → undamaged n f es
    ≡ undamaged_before n f es
unfolding undamaged undamaged_before no_paused_blocks
same_undamaged n f [] b = refl
same_undamaged n f (e ∷ es) b =
    ap₂ (λ (s : Standing) (t : Bool). not (is_damaged s) && t) (same_standing n f e (and_left _ _ b))
    (same_undamaged n f es (and_right (not_paused_with e) _ b))

pub were_bare : (n : ℕ) (f : ℕ → Bool) (es : List Entry) → undamaged_before n f es ≡ true → no_paused_blocks es ≡ true
unfolding undamaged_before no_paused_blocks
were_bare n f [] u = refl
were_bare n f (e ∷ es) u =
    and_both _ _ (was_bare n f e (not-true _ (and_left (not (is_damaged (standing_before n f e))) _ u)))
    (were_bare n f es (and_right (not (is_damaged (standing_before n f e))) _ u))

same_sound : (s : State) → no_paused_blocks s.entries ≡ true → sound s ≡ sound_before s
unfolding sound
same_sound s b = ap (λ (whole : Bool). sound_if whole s) (same_undamaged s.blocks (free s.map) s.entries b)

-- what was sound had no sheet paused with blocks
sound_bare : (s : State) → sound_before s ≡ true → no_paused_blocks s.entries ≡ true
sound_bare s h =
    were_bare s.blocks (free s.map) s.entries
    (and_left (undamaged_before s.blocks (free s.map) s.entries) _
    (and_left _ _ (and_left _ _ (and_left _ _ h))))

-- ---- save and load

pub saves_as_before : SavesAsBefore
unfolding save_verdict
saves_as_before s scratchlen bufferlen b =
    ap (λ (whole : Bool). first_of (save_rows_if false whole s scratchlen bufferlen)) (same_sound s b)

pub loads_as_before : LoadsAsBefore
unfolding load_verdict
loads_as_before image maplen count scratchlen b =
    ap (λ (whole : Bool). first_of (load_rows_if false whole image maplen count scratchlen)) (same_sound (state_in image) b)

pub still_saves : StillSaves
still_saves s scratchlen bufferlen e =
    let rows = save_rows_if false (sound_before s) s scratchlen bufferlen in
    saves_as_before s scratchlen bufferlen (sound_bare s (not-false _ (clear 4 rows e).0)) ∙ e

pub still_loads : StillLoads
still_loads image maplen count scratchlen e =
    let rows = load_rows_if false (sound_before (state_in image)) image maplen count scratchlen in
    loads_as_before image maplen count scratchlen
    (sound_bare (state_in image)
    (and_left (sound_before (state_in image)) (filled image (blocks_in image) (sheets_in image))
    (not-false _ (clear 14 rows e).1.0)))
    ∙ e
