-- The standing of a sheet, as its entry has it (document 01, "Shape, catalogue, blocks").
-- Assumes nothing.
use Rattle.std.specs.Prelude.{Bool, true, false, not, ◌&&◌, cond, ℕ, ◌+◌, eqb, leb}
use Rattle.map_blocks.specs.Blocks.{all}
use Rattle.catalogue.specs.Entries.{absent_mark, paused_mark, open_mark, complete_mark}
use Rattle.catalogue.specs.declared.Entry.{Entry}
use Rattle.catalogue_standings.specs.declared.Standing.{Standing}
use Rattle.catalogue_standings.specs.declared.Standing.TheVariants.{Absent, Paused, PausedWith, Open, Complete, Damaged}

-- An extent of an entry marked Open, Complete or Paused holds: length ≥ 1, start + length ≤ n, and no block of it free in the
-- map.
unfoldable pub extent_holds : ℕ → (ℕ → Bool) → ℕ → ℕ → Bool
extent_holds n free start length = leb 1 length && leb (start + length) n && all (λ b. not (free b)) start length

-- What an entry says, and Damaged where it breaks the rule of its mark: Absent has start 0 and length 0, Open and Complete an
-- extent that holds. Paused is 0 and 0 (`Paused`) or has an extent that holds (`PausedWith`: a finished course that was paused;
-- document 02 (g)). Any other mark is damage, and so is an entry of three zeros.
unfoldable pub standing_of : ℕ → (ℕ → Bool) → Entry → Standing
unfolding extent_holds
standing_of n free e =
    cond (eqb e.mark absent_mark) (cond (eqb e.start 0 && eqb e.length 0) Absent Damaged)
    (cond (eqb e.mark paused_mark) (cond (eqb e.start 0 && eqb e.length 0) Paused
    (cond (extent_holds n free e.start e.length) (PausedWith e.start e.length) Damaged))
    (cond (eqb e.mark open_mark) (cond (extent_holds n free e.start e.length) (Open e.start e.length) Damaged)
    (cond (eqb e.mark complete_mark) (cond (extent_holds n free e.start e.length)
    (Complete e.start e.length) Damaged)
    Damaged)))

abbrev pub is_absent : Standing → Bool
is_absent Absent = true
is_absent Paused = false
is_absent (PausedWith s l) = false
is_absent (Open s l) = false
is_absent (Complete s l) = false
is_absent Damaged = false

-- In either form.
abbrev pub is_paused : Standing → Bool
is_paused Absent = false
is_paused Paused = true
is_paused (PausedWith s l) = true
is_paused (Open s l) = false
is_paused (Complete s l) = false
is_paused Damaged = false

-- Paused, and without blocks.
abbrev pub is_paused_without : Standing → Bool
is_paused_without Absent = false
is_paused_without Paused = true
is_paused_without (PausedWith s l) = false
is_paused_without (Open s l) = false
is_paused_without (Complete s l) = false
is_paused_without Damaged = false

abbrev pub is_open : Standing → Bool
is_open Absent = false
is_open Paused = false
is_open (PausedWith s l) = false
is_open (Open s l) = true
is_open (Complete s l) = false
is_open Damaged = false

abbrev pub is_complete : Standing → Bool
is_complete Absent = false
is_complete Paused = false
is_complete (PausedWith s l) = false
is_complete (Open s l) = false
is_complete (Complete s l) = true
is_complete Damaged = false

abbrev pub is_damaged : Standing → Bool
is_damaged Absent = false
is_damaged Paused = false
is_damaged (PausedWith s l) = false
is_damaged (Open s l) = false
is_damaged (Complete s l) = false
is_damaged Damaged = true

-- The mark, start and length that a standing has; a damaged one has none.
abbrev pub mark_of : Standing → ℕ
mark_of Absent = absent_mark
mark_of Paused = paused_mark
mark_of (PausedWith s l) = paused_mark
mark_of (Open s l) = open_mark
mark_of (Complete s l) = complete_mark
mark_of Damaged = 0

abbrev pub start_of : Standing → ℕ
start_of Absent = 0
start_of Paused = 0
start_of (PausedWith s l) = s
start_of (Open s l) = s
start_of (Complete s l) = s
start_of Damaged = 0

abbrev pub length_of : Standing → ℕ
length_of Absent = 0
length_of Paused = 0
length_of (PausedWith s l) = l
length_of (Open s l) = l
length_of (Complete s l) = l
length_of Damaged = 0
