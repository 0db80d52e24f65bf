-- A worked card of 70 blocks and two sheets whose values all differ, and its text, as the program in
-- tests/ works them out bit by bit: `worked-text` there writes this file, and the gate compares.
-- Assumes nothing.
use Rattle.std.specs.Prelude.{List, [], ◌∷◌, ℕ}

-- n
abbrev pub blocks : ℕ
blocks = 70

-- free count
abbrev pub spare : ℕ
spare = 36

-- mark of sheet 0
abbrev pub mark_0 : ℕ
mark_0 = 0x4F

-- start of sheet 0
abbrev pub start_0 : ℕ
start_0 = 9

-- length of sheet 0
abbrev pub length_0 : ℕ
length_0 = 4

-- mark of sheet 1
abbrev pub mark_1 : ℕ
mark_1 = 0x43

-- start of sheet 1
abbrev pub start_1 : ℕ
start_1 = 37

-- length of sheet 1
abbrev pub length_1 : ℕ
length_1 = 30

-- the words of the map
abbrev pub map : List ℕ
map =
    0xFF87FFFFF8000000
    ∷ 0x1C00000000000000
    ∷ []

-- card 70 36 2
-- runs 3 longest 24
-- 0 O 9 4
-- 1 C 37 30
abbrev pub text : List ℕ
text =
    0x63 ∷ 0x61 ∷ 0x72 ∷ 0x64 ∷ 0x20 ∷ 0x37 ∷ 0x30 ∷ 0x20 ∷ 0x33 ∷ 0x36 ∷ 0x20 ∷ 0x32 ∷ 0x0A
    ∷ 0x72 ∷ 0x75 ∷ 0x6E ∷ 0x73 ∷ 0x20 ∷ 0x33 ∷ 0x20 ∷ 0x6C ∷ 0x6F ∷ 0x6E ∷ 0x67 ∷ 0x65 ∷ 0x73 ∷ 0x74 ∷ 0x20 ∷ 0x32
    ∷ 0x34 ∷ 0x0A
    ∷ 0x30 ∷ 0x20 ∷ 0x4F ∷ 0x20 ∷ 0x39 ∷ 0x20 ∷ 0x34 ∷ 0x0A
    ∷ 0x31 ∷ 0x20 ∷ 0x43 ∷ 0x20 ∷ 0x33 ∷ 0x37 ∷ 0x20 ∷ 0x33 ∷ 0x30 ∷ 0x0A
    ∷ []
