-- A sound state (document 01, "Saved image").
-- Assumes nothing.
use Rattle.std.specs.Prelude.{Bool, true, false, not, ◌&&◌, cond, List, [], ◌∷◌, ℕ, ◌+◌, ◌-◌, ◌*◌, eqb, leb, length}
use Rattle.map_blocks.specs.Blocks.{free, all}
use Rattle.map_blocks.specs.Maps.{in_run, in_state}
use Rattle.survey.specs.Survey.{counts_of}
use Rattle.catalogue.specs.declared.Entry.{Entry}
use Rattle.catalogue_standings.specs.Standings.{standing_of, is_damaged}

-- What is saved and loaded: n, the carried free count, the entries and the map.
pub record State : Type 0 where
  pub blocks : ℕ
  pub spare : ℕ
  pub entries : List Entry
  pub map : List ℕ

-- How many of the extents cover block b.
unfoldable pub coverings : List Entry → ℕ → ℕ
coverings [] b = 0
coverings (e ∷ es) b = cond (in_run e.start e.length b) 1 0 + coverings es b

-- No entry is damaged, f saying which blocks are free.
unfoldable pub undamaged : ℕ → (ℕ → Bool) → List Entry → Bool
undamaged n f [] = true
undamaged n f (e ∷ es) = not (is_damaged (standing_of n f e)) && undamaged n f es

-- No entry is damaged; extents are disjoint; a block is free exactly when uncovered; bits from n on are 0; and the free count
-- is the number of free blocks. Whether an entry is damaged is by the rule of its mark; the rest is said for any such rule.
abbrev pub sound_if : Bool → State → Bool
sound_if whole s =
    whole
    && all (λ b. leb (coverings s.entries b) 1) 0 s.blocks
    && all (λ b. in_state s.map (eqb (coverings s.entries b) 0) b) 0 s.blocks
    && all (in_state s.map false) s.blocks (64 * length s.map - s.blocks)
    && eqb s.spare (counts_of (free s.map) s.blocks).free

unfoldable pub sound : State → Bool
unfolding coverings undamaged
sound s = sound_if (undamaged s.blocks (free s.map) s.entries) s
