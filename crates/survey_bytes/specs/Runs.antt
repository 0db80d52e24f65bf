-- The runs of a part of a card, which is a list of its blocks in order, true where a block is free: its free blocks at the
-- head and at the tail, its longest run and its number of runs (document 01, "Map and search").
-- Assumes nothing.
use Rattle.std.specs.Prelude.{Bool, ◌&&◌, cond, List, [], ◌∷◌, ℕ, zero, suc, ◌+◌, max, eqb, length}

-- The free blocks at the head, up to the first taken one.
unfoldable pub head_of : List Bool → ℕ
head_of [] = 0
head_of (x ∷ xs) = cond x (suc (head_of xs)) 0

-- The longest run, 0 if none: the most free blocks that stand at the head of any rest of the list.
unfoldable pub longest_of : List Bool → ℕ
unfolding head_of
longest_of [] = 0
longest_of (x ∷ xs) = max (head_of (x ∷ xs)) (longest_of xs)

-- The separate runs, each as long as it can be and so counted at its last block: a free one with no free one after it.
unfoldable pub runs_of : List Bool → ℕ
unfolding head_of
runs_of [] = 0
runs_of (x ∷ xs) = cond (x && eqb (head_of xs) 0) 1 0 + runs_of xs

-- The free blocks at the tail, after the last taken one.
unfoldable pub tail_of : List Bool → ℕ
tail_of [] = 0
tail_of (x ∷ xs) = cond (x && eqb (tail_of xs) (length xs)) (suc (tail_of xs)) (tail_of xs)

-- 1 where two lists of blocks meet in one run: the first ends in a free block and the second begins with one.
unfoldable pub meet : ℕ → ℕ → ℕ
meet zero h = 0
meet (suc t) zero = 0
meet (suc t) (suc h) = 1
