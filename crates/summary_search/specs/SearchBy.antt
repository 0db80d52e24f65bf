-- The search by a summary (document 02, request (j)), for all figures; the plain search is the one with 0, n and 1. Where few
-- blocks are wanted it looks at the first words of the map, where a card mostly has them. Otherwise it goes down from group 0
-- by the summary's numbers alone to where a run of k may start first, and looks at the map there. With the map's own summary it
-- gives the least fit (`by_own`), and with any summary nothing but fits (`by_fits`); both in proofs/Searches.antt.
-- Assumes nothing.
use Rattle.std.specs.declared.ops.ControlFlow.{ControlFlow}
use Rattle.std.specs.declared.ops.ControlFlow.TheVariants.{Break, Continue}
use Rattle.std.specs.Prelude.{Option, Some, None, ℕ, zero, suc, ◌+◌, ◌-◌, ◌*◌, ◌/◌, min, max, cond, List, eqb, leb, ltb, length}
use Rattle.map_blocks.specs.Blocks.{free, least_fit, or_else}
use Rattle.summary_groups.specs.declared.Group.{Group}
use Rattle.summary_groups.specs.Groups.{power}
use Rattle.summary.specs.Summary.{group_in}

-- What the numbers of a group tell a search for k blocks from block `at` on: `Some (Break t)`, a run may start at t and none
-- before it; `Some (Continue s)`, none does, and the group ends in s free blocks; `None`, the group has such a run.

-- A group that has `at` inside, and ends before block stop.
unfoldable pub inside_of : Group → ℕ → ℕ → ℕ → Option (ControlFlow ℕ ℕ)
inside_of x at k stop = cond (leb k x.longest) None (Some (Continue (min (min x.tail x.longest) (stop - at))))

-- A group of m blocks from base on, which is not before `at`, with s free blocks right before it.
unfoldable pub whole_of : Group → ℕ → ℕ → ℕ → ℕ → Option (ControlFlow ℕ ℕ)
whole_of x k base m s =
    cond (leb (k - s) x.head) (Some (Break (base - s)))
    (cond (leb k x.longest) None
    (cond (eqb x.head m) (Some (Continue (s + m))) (Some (Continue (min (min x.tail x.longest) m)))))

-- Any group.
unfoldable pub glance_of : Group → ℕ → ℕ → ℕ → ℕ → ℕ → Option (ControlFlow ℕ ℕ)
unfolding inside_of whole_of
glance_of x at k base m s =
    cond (leb (base + m) at) (Some (Continue 0)) (cond (ltb base at) (inside_of x at k (base + m)) (whole_of x k base m s))

-- What is settled, or what comes of looking.
abbrev pub or_look : Option (ControlFlow ℕ ℕ) → ControlFlow ℕ ℕ → ControlFlow ℕ ℕ
or_look (Some r) deeper = r
or_look None deeper = deeper

-- A step, or where it found no start, the next one with the free blocks that it ends in.
abbrev pub onward : ControlFlow ℕ ℕ → (ℕ → ControlFlow ℕ ℕ) → ControlFlow ℕ ℕ
onward (Break t) next = Break t
onward (Continue s) next = next s

-- Group g, of the m blocks from base on, with s free blocks right before it. A group that must be looked into is its two
-- halves, one after the other; in one word the run may start anywhere. The first argument bounds how often a group is halved.
unfoldable pub seek_in : ℕ → List ℕ → ℕ → ℕ → ℕ → ℕ → ℕ → ℕ → ControlFlow ℕ ℕ
unfolding glance_of
seek_in zero summary at k g base m s = Continue 0
seek_in (suc d) summary at k g base m s =
    or_look (glance_of (group_in summary g) at k base m s)
    (cond (eqb m 64) (Break (max at base))
    (onward (seek_in d summary at k (2 * g + 1) base (m / 2) s)
    (λ next. seek_in d summary at k (2 * g + 2) (base + m / 2) (m / 2) next)))

-- All p words.
unfoldable pub seek : List ℕ → ℕ → ℕ → ℕ → ControlFlow ℕ ℕ
unfolding seek_in
seek summary p at k = seek_in p summary at k 0 0 (64 * p) 0

-- How many blocks behind the first start a turn looks at: 4,096, or 64 steps if these are more. Where starts are further apart
-- than that, all that a card can have.
abbrev pub stretch : ℕ → ℕ
stretch step = 64 * max 64 (min step 4096)

-- What a turn finds where the summary gives a start, otherwise nothing.
abbrev pub on_hit : ControlFlow ℕ ℕ → (ℕ → Option ℕ) → Option ℕ
on_hit (Break t) turn = turn t
on_hit (Continue s) turn = None

-- The search from block `at` on, in turns: the least fit of a stretch of the map, from where the summary tells that a run may
-- start; where it has none, the next turn behind the stretch. The first argument bounds the turns.
unfoldable pub turns : ℕ → List ℕ → List ℕ → ℕ → ℕ → ℕ → ℕ → Option ℕ
unfolding seek power
turns zero map summary before step k at = None
turns (suc d) map summary before step k at =
    on_hit (seek summary (power (length map)) at k) (λ t.
    cond (ltb before (t + k)) None
    (or_else (least_fit (free map) t (min before (t + k + stretch step)) step k)
    (turns d map summary before step k (t + stretch step + 1))))

-- The search down the groups. Where group 0's longest is below k it gives no fit, whatever the map holds.
unfoldable pub search_down : List ℕ → List ℕ → ℕ → ℕ → ℕ → ℕ → Option ℕ
unfolding turns
search_down map summary from before step k =
    cond (ltb (group_in summary 0).longest k) None (turns (suc before) map summary before step k from)

-- How many blocks from `from` on are looked at in the map first, without the groups: eight words, where few blocks are wanted
-- and their starts are near each other.
abbrev pub near_of : ℕ → ℕ → ℕ
near_of step k = cond (ltb 8 step) 0 (cond (ltb 16 k) 0 512)

-- The search by a summary: where group 0's longest is not below k, the first words of the map, and then down the groups.
unfoldable pub search_by : List ℕ → List ℕ → ℕ → ℕ → ℕ → ℕ → Option ℕ
unfolding search_down
search_by map summary from before step k =
    cond (leb k (group_in summary 0).longest)
    (or_else (least_fit (free map) from (min before (from + near_of step k)) step k)
    (search_down map summary from before step k))
    None
