-- The summary of a map (document 02, request (j)): with p the least power of two not below w, 2p - 1 groups of three 32-bit
-- numbers, in the order head, tail, longest.
-- Assumes nothing.
use Rattle.std.specs.Prelude.{ℕ, zero, suc, ◌+◌, ◌-◌, ◌*◌, ◌≤◌, ◌≡◌, Bool, true, false, ◌&&◌, List, [], ◌∷◌, eqb, ltb, length}
use Rattle.std.specs.Prelude.{get_or}
use Rattle.map_blocks.specs.Blocks.{free}
use Rattle.summary_groups.specs.declared.Group.{Group}
use Rattle.summary_groups.specs.Groups.{place, power, group_of}

-- The numbers of the c groups from g on.
unfoldable pub numbers : (ℕ → Group) → ℕ → ℕ → List ℕ
numbers group g zero = []
numbers group g (suc c) = (group g).head ∷ (group g).tail ∷ (group g).longest ∷ numbers group (suc g) c

-- Group g as a summary has it.
abbrev pub group_in : List ℕ → ℕ → Group
group_in s g = record { head = get_or s (3 * g) 0; tail = get_or s (3 * g + 1) 0; longest = get_or s (3 * g + 2) 0 }

-- Group g of p words, f saying which blocks are free.
unfoldable pub group_at : (ℕ → Bool) → ℕ → ℕ → Group
unfolding group_of place
group_at f p g = group_of f (64 * (place p g).first) (64 * (place p g).size)

-- The summary for p words, f saying which blocks are free.
unfoldable pub summary_of : (ℕ → Bool) → ℕ → List ℕ
unfolding numbers group_at
summary_of f p = numbers (group_at f p) 0 (2 * p - 1)

-- The blocks of a map that count as free: those below n that are. So bits from n on count as taken, and so do missing words.
unfoldable pub usable : List ℕ → ℕ → ℕ → Bool
usable map n b = ltb b n && free map b

-- The map's own summary.
unfoldable pub own_summary : List ℕ → ℕ → List ℕ
unfolding summary_of power
own_summary map n = summary_of (usable map n) (power (length map))

-- How many numbers the summary of a map of w words has.
abbrev pub summary_length : ℕ → ℕ
summary_length w = 3 * (2 * power w - 1)

-- Two lists are the same, number by number.
unfoldable pub same_numbers : List ℕ → List ℕ → Bool
same_numbers [] [] = true
same_numbers [] (y ∷ ys) = false
same_numbers (x ∷ xs) [] = false
same_numbers (x ∷ xs) (y ∷ ys) = eqb x y && same_numbers xs ys

-- A summary is the map's own.
unfoldable pub is_own : List ℕ → ℕ → List ℕ → Bool
unfolding same_numbers own_summary
is_own map n s = same_numbers s (own_summary map n)

-- A map of at most 262,144 blocks, n of them the card's, and a summary that has its length.
pub record Matched (map : List ℕ) (n : ℕ) (s : List ℕ) : Type 0 where
  pub few : length map ≤ 4096
  pub fits : n ≤ 64 * length map
  pub long : length s ≡ summary_length (length map)
