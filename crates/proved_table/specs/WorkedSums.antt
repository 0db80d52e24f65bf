-- A worked block whose sums A and B pass 65,521, as the program in tests/ works them out: `worked-sums` there writes this
-- file, and the gate compares.
-- Assumes nothing.
use Rattle.std.specs.Prelude.{ℕ}

-- its sheet
abbrev pub worked_sheet : ℕ
worked_sheet = 1023

-- its place
abbrev pub worked_place : ℕ
worked_place = 262143

-- each byte of its payload
abbrev pub worked_byte : ℕ
worked_byte = 255

-- A
abbrev pub worked_a : ℕ
worked_a = 61731

-- B
abbrev pub worked_b : ℕ
worked_b = 37582
