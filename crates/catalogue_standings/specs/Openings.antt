-- The rows that every call begins with, 1, 2 and 4 for the entry, as one answer: a refusal, or the sheet's standing.
-- Assumes nothing.
use Rattle.std.specs.Prelude.{ℕ, Bool, cond, leb, Result, Ok, Err}
use Rattle.catalogue_standings.specs.Refusals.{number}
use Rattle.catalogue_standings.specs.declared.Refusal.{Refusal}
use Rattle.catalogue_standings.specs.declared.Refusal.TheVariants as refusal
use Rattle.catalogue_standings.specs.declared.Standing.{Standing}
use Rattle.catalogue_standings.specs.declared.Standing.TheVariants.{Absent, Paused, PausedWith, Open, Complete, Damaged}

-- The refusal of a standing that is not admitted: rows 4 to 8.
abbrev pub refusal_of : Standing → Refusal
refusal_of Absent = refusal.IsAbsent
refusal_of Paused = refusal.IsPaused
refusal_of (PausedWith s l) = refusal.IsPaused
refusal_of (Open s l) = refusal.IsOpen
refusal_of (Complete s l) = refusal.IsComplete
refusal_of Damaged = refusal.Damaged

-- The number of its row: 4, or 5 to 8.
abbrev pub row_of : Standing → ℕ
row_of s = number (refusal_of s)

abbrev pub unless_damaged : Standing → Result Standing Refusal
unless_damaged Absent = Ok Absent
unless_damaged Paused = Ok Paused
unless_damaged (PausedWith s l) = Ok (PausedWith s l)
unless_damaged (Open s l) = Ok (Open s l)
unless_damaged (Complete s l) = Ok (Complete s l)
unless_damaged Damaged = Err refusal.Damaged

-- fits: row 1 does not hold
unfoldable pub opened_of : Bool → ℕ → ℕ → Standing → Result Standing Refusal
opened_of fits c sheet stands =
    cond fits (cond (leb c sheet) (Err refusal.NoSuchSheet) (unless_damaged stands)) (Err refusal.Misfit)

-- 21 before them, of one who may not make the call (document 02 (n)).
abbrev pub opened_for : Bool → Bool → ℕ → ℕ → Standing → Result Standing Refusal
opened_for turned fits c sheet stands = cond turned (Err refusal.TurnedAway) (opened_of fits c sheet stands)
