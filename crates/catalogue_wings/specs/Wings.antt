-- A sheet's wing, and the blocks that a wing holds (document 02 (k)).
-- Assumes nothing.
use Rattle.std.specs.Prelude.{ℕ, ◌*◌, ◌/◌, ◌%◌, ◌^◌, List, take, drop}
use Rattle.catalogue.specs.Entries.{held}
use Rattle.catalogue.specs.declared.Entry.{Entry}

-- A sheet's wing is its number divided by 128, rounded down.
abbrev pub wing_of : ℕ → ℕ
wing_of sheet = sheet / 128

-- The sheets of a wing, of a list of all sheets in the order of their numbers.
abbrev pub in_wing : {A : Type 0} → ℕ → List A → List A
in_wing wing sheets = take 128 (drop (128 * wing) sheets)

-- The blocks held by the wing of a sheet: the lengths in its sheets' entries together, as the entries have them, damaged ones
-- too, in 64 bits. (128 lengths of 32 bits do not come to 2 ^ 64: `lengths_fit_lem` in proofs/Sums.antt.)
unfoldable pub held_by : List Entry → ℕ → ℕ
unfolding held
held_by entries sheet = held (in_wing (wing_of sheet) entries) % 2 ^ 64
