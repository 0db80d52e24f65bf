-- Blocks of a card that have their bytes of other blocks (document 02 (l)).
-- Assumes nothing.
use Rattle.std.specs.Prelude.{cond, List, [], ◌∷◌, ℕ, zero, suc, ◌+◌, ◌-◌, ◌*◌, ◌/◌, ◌%◌, length, get_or}
use Rattle.map_blocks.specs.Maps.{in_run}

-- The m bytes f i, f (i + 1) and so on.
unfoldable pub bytes_from : (ℕ → ℕ) → ℕ → ℕ → List ℕ
bytes_from f i zero = []
bytes_from f i (suc m) = f i ∷ bytes_from f (suc i) m

-- A card as long as this one, of which block b has the bytes that block g b has here.
unfoldable pub sourced : (ℕ → ℕ) → List ℕ → List ℕ
unfolding bytes_from
sourced g card = bytes_from (λ j. get_or card (512 * g (j / 512) + j % 512) 0) 0 (length card)

-- The block whose bytes block b has, once the k blocks from `from` on were moved to those from `to` on.
abbrev pub moved_from : ℕ → ℕ → ℕ → ℕ → ℕ
moved_from to from k b = cond (in_run to k b) (from + (b - to)) b

-- The card then.
unfoldable pub moved : List ℕ → ℕ → ℕ → ℕ → List ℕ
unfolding sourced
moved card to from k = sourced (moved_from to from k) card
