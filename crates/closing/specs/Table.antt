-- The rows of closing (document 02 (l)): 21 (document 02 (n)), 1 and 4. A call is refused with the first row that holds.
-- `turned`: whoever calls may not make the call.
-- Assumes nothing.
use Rattle.std.specs.Prelude.{ℕ, ◌*◌, Bool, not, ◌&&◌, List, [], ◌∷◌, length, ◌==◌}
use Rattle.catalogue_standings.specs.Rows.{Row, row, Verdict, first_of}
use Rattle.image_soundness.specs.Sound.{State, sound}
use Rattle.image.specs.Table.{save_fits}

-- n, c, the free count and the lengths of map and scratch are as save wants them, and the card has 512·n bytes. `fits`: so has
-- what else is lent, a summary, its length.
unfoldable pub close_fits : ℕ → ℕ → Bool → ℕ → ℕ → ℕ → ℕ → Bool
unfolding save_fits
close_fits n spare fits c maplen cardlen scratchlen = save_fits n spare c maplen scratchlen && cardlen == 512 * n && fits

-- Close, of a state, with a card and a scratch of these lengths: 21, 1, then 4 unless the state is sound, by the definition
-- that
-- save uses.
unfoldable pub close_rows : Bool → State → Bool → ℕ → ℕ → List Row
unfolding close_fits sound
close_rows turned s fits cardlen scratchlen =
    row 21 turned
    ∷ row 1 (not (close_fits s.blocks s.spare fits (length s.entries) (length s.map) cardlen scratchlen))
    ∷ row 4 (not (sound s))
    ∷ []

unfoldable pub close_verdict : Bool → State → Bool → ℕ → ℕ → Verdict
unfolding close_rows
close_verdict turned s fits cardlen scratchlen = first_of (close_rows turned s fits cardlen scratchlen)
