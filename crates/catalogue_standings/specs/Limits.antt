-- Row 1, for what a call is lent: the limits of n, c and the free count, and the map's length (document 01, "What the caller
-- gets instead").
-- Assumes nothing.
use Rattle.std.specs.Prelude.{ℕ, ◌*◌, Bool, true, ◌&&◌, eqb, leb, Option, Some, None}
use Rattle.map_blocks.specs.Maps.{words_for}

-- n and the free count are within their limits, and the map is n/64 rounded up words long.
unfoldable pub shape_fits : ℕ → ℕ → ℕ → Bool
shape_fits n free maplen = leb 1 n && leb n 262144 && leb free n && eqb maplen (words_for n)

-- c is within its limits.
unfoldable pub sheets_fit : ℕ → Bool
sheets_fit c = leb 1 c && leb c 1024

-- Fresh takes n itself, and all of it is free.
unfoldable pub fresh_fits : ℕ → ℕ → ℕ → Bool
unfolding shape_fits sheets_fit
fresh_fits n maplen c = shape_fits n n maplen && sheets_fit c

-- The card, of a call that is lent it, is 512·n bytes long.
abbrev pub card_fits : ℕ → Option ℕ → Bool
card_fits n None = true
card_fits n (Some bytes) = eqb bytes (512 * n)

-- What a call on a sheet is lent has the right lengths.
abbrev pub lent_fits : ℕ → ℕ → ℕ → ℕ → Option ℕ → Bool
lent_fits n free maplen c None = shape_fits n free maplen && sheets_fit c
lent_fits n free maplen c (Some bytes) = shape_fits n free maplen && sheets_fit c && eqb bytes (512 * n)
