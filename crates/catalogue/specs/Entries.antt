-- The entries of a catalogue, as a list: what is found for a sheet, how many blocks they hold, and what fresh leaves (document
-- 01, "Shape, catalogue, blocks").
-- Assumes nothing.
use Rattle.std.specs.Prelude.{Bool, cond, List, [], ◌∷◌, ℕ, ◌+◌, length, get_or, replicate}
use Rattle.catalogue.specs.declared.Entry.{Entry}
use Rattle.catalogue.specs.declared.Slot.{Slot}

-- The mark of each standing, in ASCII: A, P, O and C.
abbrev pub absent_mark : ℕ
absent_mark = 0x41

abbrev pub paused_mark : ℕ
paused_mark = 0x50

abbrev pub open_mark : ℕ
open_mark = 0x4f

abbrev pub complete_mark : ℕ
complete_mark = 0x43

-- three zeros, which stand for the entry of a sheet that has none: damaged, never a pause
abbrev pub zeros : Entry
zeros = record { mark = 0; start = 0; length = 0 }

-- Absent has start 0 and length 0
abbrev pub absent : Entry
absent = record { mark = absent_mark; start = 0; length = 0 }

-- the entry of a sheet, the sheets being numbered from 0
abbrev pub entry_at : List Entry → ℕ → Entry
entry_at entries sheet = get_or entries sheet zeros

-- how many entries there are, and the entry of a sheet
abbrev pub slot_at : List Entry → ℕ → Slot
slot_at entries sheet = record { count = length entries; entry = entry_at entries sheet }

-- how many blocks the entries hold, all together
unfoldable pub held : List Entry → ℕ
held [] = 0
held (e ∷ es) = e.length + held es

-- the entries after fresh: all Absent if fresh was accepted, else as they were
abbrev pub cleared_if : List Entry → Bool → List Entry
cleared_if entries accepted = cond accepted (replicate (length entries) absent) entries
