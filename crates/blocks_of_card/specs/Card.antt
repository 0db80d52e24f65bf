-- The blocks of a card: block b is bytes 512·b to 512·b + 511 (document 01, "Shape, catalogue, blocks").
-- Assumes nothing.
use Rattle.std.specs.Prelude.{List, ◌++◌, ℕ, zero, suc, ◌+◌, ◌*◌, take, drop, replicate}

-- block b of the card
unfoldable pub block_of : List ℕ → ℕ → List ℕ
block_of card b = take 512 (drop (512 * b) card)

-- the card with block b replaced
unfoldable pub with_block : List ℕ → ℕ → List ℕ → List ℕ
with_block card b bytes = take (512 * b) card ++ (bytes ++ drop 512 (drop (512 * b) card))

-- the card with k blocks from b on filled with zeros
unfoldable pub zeroed : List ℕ → ℕ → ℕ → List ℕ
zeroed card b zero = card
zeroed card b (suc k) = with_block (zeroed card b k) (b + k) (replicate 512 0)
