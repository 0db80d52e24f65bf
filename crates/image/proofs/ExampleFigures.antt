-- A worked card of 70 blocks and two sheets whose values all differ, and its image, as the program in
-- tests/ works them out bit by bit: `worked-image` there writes this file, and the gate compares.
-- Assumes nothing.
use mathlib.Core.List.{List, [], ◌∷◌}
use Prim.Native.Nat.{ℕ}

-- n
abbrev pub blocks : ℕ
blocks = 70

-- free count
abbrev pub spare : ℕ
spare = 36

-- mark of sheet 0
abbrev pub mark_0 : ℕ
mark_0 = 0x4F

-- start of sheet 0
abbrev pub start_0 : ℕ
start_0 = 9

-- length of sheet 0
abbrev pub length_0 : ℕ
length_0 = 4

-- mark of sheet 1
abbrev pub mark_1 : ℕ
mark_1 = 0x43

-- start of sheet 1
abbrev pub start_1 : ℕ
start_1 = 37

-- length of sheet 1
abbrev pub length_1 : ℕ
length_1 = 30

-- the words of the map
abbrev pub map : List ℕ
map =
    0xFF87FFFFF8000000
    ∷ 0x1C00000000000000
    ∷ []

-- block number, number of blocks; n, free count, c; mark, start, length of each; halves of each word
abbrev pub head : List ℕ
head =
    0x00 ∷ 0x00 ∷ 0x00 ∷ 0x00
    ∷ 0x00 ∷ 0x00 ∷ 0x00 ∷ 0x01
    ∷ 0x00 ∷ 0x00 ∷ 0x00 ∷ 0x46
    ∷ 0x00 ∷ 0x00 ∷ 0x00 ∷ 0x24
    ∷ 0x00 ∷ 0x00 ∷ 0x00 ∷ 0x02
    ∷ 0x00 ∷ 0x00 ∷ 0x00 ∷ 0x4F
    ∷ 0x00 ∷ 0x00 ∷ 0x00 ∷ 0x09
    ∷ 0x00 ∷ 0x00 ∷ 0x00 ∷ 0x04
    ∷ 0x00 ∷ 0x00 ∷ 0x00 ∷ 0x43
    ∷ 0x00 ∷ 0x00 ∷ 0x00 ∷ 0x25
    ∷ 0x00 ∷ 0x00 ∷ 0x00 ∷ 0x1E
    ∷ 0xFF ∷ 0x87 ∷ 0xFF ∷ 0xFF
    ∷ 0xF8 ∷ 0x00 ∷ 0x00 ∷ 0x00
    ∷ 0x1C ∷ 0x00 ∷ 0x00 ∷ 0x00
    ∷ 0x00 ∷ 0x00 ∷ 0x00 ∷ 0x00
    ∷ []

-- how many zeros follow
abbrev pub fill : ℕ
fill = 444

-- A and B
abbrev pub sums : List ℕ
sums =
    0x00 ∷ 0x00 ∷ 0x05 ∷ 0xE8
    ∷ 0x00 ∷ 0x00 ∷ 0xAB ∷ 0x4B
    ∷ []
