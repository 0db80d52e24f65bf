-- One word of a map: its bits, the masks over them, and the blocks of a window. Names for the contracts of the functions on
-- words, here and in the crates above.
-- Assumes nothing.
use Rattle.std.specs.Prelude.{ℕ, ◌*◌, ◌/◌, ◌%◌, ◌^◌, ◌<◌, ◌≡◌, Bool, not, ◌&&◌, ◌||◌, eqb, leb, ltb}
use Rattle.map_blocks.specs.Blocks.{all}

-- Bit j of a word counted from the most significant, as blocks are: the top bit once the word is shifted left by j.
-- From 64 on there is none.
unfoldable pub bit : ℕ → ℕ → Bool
bit w j = eqb (w * 2 ^ j / 2 ^ 63 % 2) 1

-- Each bit that is 1 in m is 1 in w.
unfoldable pub has_all : ℕ → ℕ → Bool
unfolding all bit
has_all w m = all (λ j. not (bit m j) || bit w j) 0 64

-- The word m has the bits lo to hi - 1 set, and no others.
abbrev pub Mask : ℕ → ℕ → ℕ → Type 0
Mask lo hi m = (j : ℕ) → j < 64 → bit m j ≡ (leb lo j && ltb j hi)

-- The blocks that a search within a window may use.
abbrev pub in_window : (ℕ → Bool) → ℕ → ℕ → ℕ → Bool
in_window f from before b = (leb from b && ltb b before) && f b
