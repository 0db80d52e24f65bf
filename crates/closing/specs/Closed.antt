-- A card with its gaps closed (document 02 (l)): all extents moved towards block 0, in order of their starts, with no block
-- free before or between them, and the bytes of their blocks moved along. Blocks that are free afterwards keep the bytes they
-- had.
-- Assumes nothing.
use Rattle.std.specs.Prelude.{ℕ, ◌+◌, ◌-◌, cond, ◌&&◌, List, [], ◌∷◌, map, length, nat_le, nat_lt}
use Rattle.map_blocks.specs.Maps.{in_run, map_of}
use Rattle.catalogue.specs.Entries.{held}
use Rattle.catalogue.specs.declared.Entry.{Entry}
use Rattle.closing_moves.specs.Moved.{sourced}
use Rattle.image_soundness.specs.Sound.{State}

-- How many blocks the extents that start before s have, all together. An extent that starts at s moves there, so that extents
-- stand in order of their starts, the first at block 0, and each where the one before it ends.
unfoldable pub below : List Entry → ℕ → ℕ
below [] s = 0
below (e ∷ es) s = cond (nat_lt e.start s) e.length 0 + below es s

-- An entry of `entries` afterwards: its mark and length stay.
abbrev pub closed_entry : List Entry → Entry → Entry
closed_entry entries e = record { mark = e.mark; start = below entries e.start; length = e.length }

unfoldable pub closed_entries : List Entry → List Entry
unfolding below
closed_entries entries = map (closed_entry entries) entries

-- The block whose bytes block b has afterwards, looked up among es: the block of the extent that lies over b then. Where none
-- does, b itself.
unfoldable pub source : List Entry → List Entry → ℕ → ℕ
unfolding below
source entries [] b = b
source entries (e ∷ es) b =
    let start = below entries e.start in
    cond (in_run start e.length b) (e.start + (b - start)) (source entries es b)

-- The card afterwards.
unfoldable pub closed_card : List Entry → List ℕ → List ℕ
unfolding source
closed_card entries card = sourced (source entries entries) card

-- The map of w words of a card of n blocks of which the first h are taken and the others free. Bits from n on are 0.
abbrev pub first_taken : ℕ → ℕ → ℕ → List ℕ
first_taken h n w = map_of (λ b. nat_le h b && nat_lt b n) w

-- The map afterwards: as many blocks are taken as all extents have, the first ones.
unfoldable pub closed_map : List Entry → ℕ → List ℕ → List ℕ
unfolding held
closed_map entries n map = first_taken (held entries) n (length map)

-- What a save is of afterwards: n and the free count stay.
abbrev pub closed_state : State → State
closed_state s = record {
  blocks = s.blocks;
  spare = s.spare;
  entries = closed_entries s.entries;
  map = closed_map s.entries s.blocks s.map;
}
