-- The blocks of a map, its fits and the least of them (document 01, "Map and search").
-- Assumes nothing.
use Rattle.std.specs.Prelude.{Option, Some, None}
use Rattle.std.specs.Prelude.{ℕ, zero, suc, ◌+◌, ◌-◌, ◌/◌, ◌%◌, ◌^◌, Bool, true, ◌&&◌, cond, List, eqb, leb, get_or}

-- Block b of a map is free: bit 63 - (b mod 64) of word b div 64 is 1, bit 63 being the most significant.
unfoldable pub free : List ℕ → ℕ → Bool
free map b = eqb (get_or map (b / 64) 0 / 2 ^ (63 - b % 64) % 2) 1

-- A test f holds of the k numbers from s on.
unfoldable pub all : (ℕ → Bool) → ℕ → ℕ → Bool
all f s zero = true
all f s (suc k) = f s && all f (suc s) k

-- s is a multiple of step. A step of 1 admits every number.
unfoldable pub on_step : ℕ → ℕ → Bool
on_step step s = eqb (s % step) 0

-- A fit for k within the figures from, before and step, where f says which blocks are free: a start s, at or after `from`,
-- with s + k ≤ before, blocks s to s + k - 1 all free, on a multiple of step. Document 01's fit in a card of n blocks is the
-- one with 0, n and 1.
unfoldable pub fit : (ℕ → Bool) → ℕ → ℕ → ℕ → ℕ → ℕ → Bool
unfolding all on_step
fit f from before step k s = leb from s && leb (s + k) before && all f s k && on_step step s

-- The least of the m numbers from s on that passes the test p.
unfoldable pub least : (ℕ → Bool) → ℕ → ℕ → Option ℕ
least p s zero = None
least p s (suc m) = cond (p s) (Some s) (least p (suc s) m)

-- The least fit for k, where k ≥ 1: no fit starts at `before` or after it.
unfoldable pub least_fit : (ℕ → Bool) → ℕ → ℕ → ℕ → ℕ → Option ℕ
unfolding least fit
least_fit f from before step k = least (fit f from before step k) 0 before

-- The first answer, or the second where it has none.
abbrev pub or_else : Option ℕ → Option ℕ → Option ℕ
or_else (Some s) other = Some s
or_else None other = other

-- How many of the m numbers from s on pass a test f before the first that does not.
unfoldable pub run : (ℕ → Bool) → ℕ → ℕ → ℕ
run f s zero = 0
run f s (suc m) = cond (f s) (suc (run f (suc s) m)) 0

-- The space behind a start: the number of free blocks from it to the next taken block or n.
unfoldable pub space : (ℕ → Bool) → ℕ → ℕ → ℕ
unfolding run
space f start n = run f start (n - start)
