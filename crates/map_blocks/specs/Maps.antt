-- A map as a whole, made from which of its blocks are free. Every change of a map is stated as such a map, so that what
-- a call leaves is an equation, with the bits from n on and the length in it.
-- Assumes nothing.
use Rattle.std.specs.Prelude.{ℕ, zero, suc, ◌+◌, ◌*◌, ◌/◌, Bool, not, ◌&&◌, cond, List, [], ◌∷◌, leb, ltb, length}
use Rattle.map_blocks.specs.Blocks.{free, all}

-- w, the words of the map of a card of n blocks: n/64 rounded up.
abbrev pub words_for : ℕ → ℕ
words_for n = (n + 63) / 64

-- The m blocks from b on as a number of m bits, the first the most significant; 1 is free.
unfoldable pub pack : (ℕ → Bool) → ℕ → ℕ → ℕ
pack f b zero = 0
pack f b (suc m) = pack f b m * 2 + cond (f (b + m)) 1 0

-- w words, the first block of which is b.
unfoldable pub words : (ℕ → Bool) → ℕ → ℕ → List ℕ
unfolding pack
words f b zero = []
words f b (suc w) = pack f b 64 ∷ words f (b + 64) w

-- The map of w words in which block b is free exactly where f b.
unfoldable pub map_of : (ℕ → Bool) → ℕ → List ℕ
unfolding words
map_of f w = words f 0 w

-- The map of w words that fresh leaves: blocks below n are free, bits from n on are 0.
unfoldable pub fresh_map : ℕ → ℕ → List ℕ
unfolding map_of
fresh_map n w = map_of (λ b. ltb b n) w

-- b is one of the k blocks from start on.
abbrev pub in_run : ℕ → ℕ → ℕ → Bool
in_run start k b = leb start b && ltb b (start + k)

-- The map with the k blocks from start on made free (to is true) or taken, and every other block as it was.
unfoldable pub marked : List ℕ → ℕ → ℕ → Bool → List ℕ
unfolding map_of free
marked map start k to = map_of (λ b. cond (in_run start k b) to (free map b)) (length map)

-- Block b of the map is in a state: free (state is true) or taken.
abbrev pub in_state : List ℕ → Bool → ℕ → Bool
in_state map state b = cond state (free map b) (not (free map b))

-- The map is that of a fresh card of n blocks: those below n are free, bits from n on are 0.
unfoldable pub is_fresh : List ℕ → ℕ → Bool
is_fresh map n = all (λ b. in_state map (ltb b n) b) 0 (64 * length map)
