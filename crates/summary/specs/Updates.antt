-- What an update leaves of a summary, whatever was in it, after some blocks of the map have changed (document 02, request (j)):
-- only the groups above changed words change, and of these only those below which some group has changed.
-- Assumes nothing.
use Rattle.std.specs.Prelude.{ℕ, zero, suc, ◌+◌, ◌-◌, ◌*◌, ◌/◌, Bool, ◌&&◌, cond, List, eqb, leb, ltb, length}
use Rattle.summary_groups.specs.declared.Group.{Group}
use Rattle.summary_groups.specs.Groups.{Span, place, power, joined_of}
use Rattle.summary.specs.Summary.{numbers, group_in, group_at, usable}

-- The words at a place have one of the count blocks from start on; with a count of 0 none has.
abbrev pub changed : ℕ → ℕ → Span → Bool
changed start count l = ltb 0 count && (ltb start (64 * (l.first + l.size)) && ltb (64 * l.first) (start + count))

-- The words at a place have all of the count blocks from start on.
abbrev pub holds_all : ℕ → ℕ → Span → Bool
holds_all start count l = leb (64 * l.first) start && leb (start + count) (64 * (l.first + l.size))

abbrev pub same_group : Group → Group → Bool
same_group x y = eqb x.head y.head && (eqb x.tail y.tail && eqb x.longest y.longest)

-- Group h has all changed blocks, and is x afterwards, as it was in the summary s: so no group above it changes.
unfoldable pub idle : ℕ → ℕ → ℕ → List ℕ → ℕ → Group → Bool
idle start count p s h x = holds_all start count (place p h) && same_group x (group_in s h)

-- Group g afterwards, of halves of half words that are x and y afterwards.
unfoldable pub built_from : ℕ → ℕ → ℕ → List ℕ → ℕ → Group → Group → ℕ → Group
unfolding idle
built_from start count p s g x y half =
    cond (idle start count p s (2 * g + 1) x) (group_in s g)
    (cond (idle start count p s (2 * g + 2) y) (group_in s g) (joined_of x y (64 * half)))

-- Group g of p words afterwards: as it was in the summary s, if it has none of the changed words; otherwise that of its word, f
-- saying which blocks are free, or built from its two halves as they are afterwards. The first argument bounds how often a
-- group is halved.
unfoldable pub updated_in : ℕ → (ℕ → Bool) → ℕ → List ℕ → ℕ → ℕ → ℕ → Group
unfolding group_at built_from
updated_in zero f p s start count g = group_in s g
updated_in (suc m) f p s start count g =
    cond (changed start count (place p g))
    (cond (eqb (place p g).size 1) (group_at f p g)
    (built_from start count p s g (updated_in m f p s start count (2 * g + 1)) (updated_in m f p s start count (2 * g + 2))
    ((place p g).size / 2)))
    (group_in s g)

-- The summary afterwards, the count blocks from start on having changed.
unfoldable pub updated_summary : List ℕ → ℕ → List ℕ → ℕ → ℕ → List ℕ
unfolding numbers updated_in power
updated_summary map n s start count =
    numbers (updated_in (power (length map)) (usable map n) (power (length map)) s start count) 0 (2 * power (length map) - 1)
