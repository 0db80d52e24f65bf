-- Names for the contracts of the functions that go down a summary.
-- Assumes nothing.
use Rattle.std.specs.declared.ops.ControlFlow.{ControlFlow}
use Rattle.std.specs.declared.ops.ControlFlow.TheVariants.{Break, Continue}
use Rattle.std.specs.Prelude.{ℕ, zero, suc, ◌+◌, ◌-◌, ◌*◌, ◌/◌, ◌≤◌, ◌<◌, ◌≡◌, ◌⊎◌, List, length}
use Rattle.summary_groups.specs.Places.{Sited}
use Rattle.summary_search.specs.SearchBy.{onward, seek_in}
use Rattle.summary_search.specs.declared.Stage.{Stage}
use Rattle.summary_search.specs.declared.Stage.TheVariants.{Look, Pass}

-- Group g of p words is the m blocks from base on.
pub record Located (p g base m : ℕ) : Type 0 where
  pub first : ℕ
  pub size : ℕ
  pub sited : Sited p g first size
  pub starts : base ≡ 64 * first
  pub blocks : m ≡ 64 * size

-- Group g of a summary is the m blocks from base on.
pub record Lies (s : List ℕ) (g base m : ℕ) : Type 0 where
  pub words : ℕ
  pub long : length s ≡ 3 * (2 * words - 1)
  pub located : Located words g base m

-- ---- a search from group to group

-- How far a search has to go: the blocks that are left, and the groups on the way down or up. It falls with each step.
abbrev pub to_go : Stage → ℕ
to_go (Look p) = (262144 - p.base) * 1000000 + p.m
to_go (Pass p) = (262144 - (p.base + p.m)) * 1000000 + 500000 + p.g

-- Of a search from block `at` on for k blocks: `on` says what comes of a group's step for the whole search, where the group is
-- half of group h, which has 2 * m blocks from start on. A first half's step goes on to the second half.
module _ (summary : List ℕ) (at k : ℕ) where
  pub record Half (Way : ℕ → ℕ → ℕ → ℕ → (ControlFlow ℕ ℕ → ControlFlow ℕ ℕ) → Type 0) (d g base m : ℕ)
      (on : ControlFlow ℕ ℕ → ControlFlow ℕ ℕ) : Type 0 where
    pub h : ℕ
    pub start : ℕ
    pub above : ControlFlow ℕ ℕ → ControlFlow ℕ ℕ
    pub way : Way (suc d) h start (2 * m) above
    pub lies : Lies summary h start (2 * m)
    pub enough : 2 * m ≤ 64 * suc d
    pub side : ((g ≡ 2 * h + 1) × (base ≡ start)
        × ((r : ControlFlow ℕ ℕ) → on r ≡ above (onward r (λ next. seek_in d summary at k (2 * h + 2) (start + m) m next))))
        ⊎ ((g ≡ 2 * h + 2) × (base ≡ start + m) × ((r : ControlFlow ℕ ℕ) → on r ≡ above r))

  -- j halvings below group 0, which has all blocks.
  abbrev pub Way : ℕ → ℕ → ℕ → ℕ → ℕ → ℕ → (ControlFlow ℕ ℕ → ControlFlow ℕ ℕ) → Type 0
  Way whole zero d g base m on = (g ≡ 0) × (base ≡ 0) × (m ≡ whole) × ((r : ControlFlow ℕ ℕ) → on r ≡ r)
  Way whole (suc j) d g base m on = Half (Way whole j) d g base m on

  -- Group g is to be looked at, with s free blocks right before it.
  pub record Ahead (whole g base m s : ℕ) : Type 0 where
    pub j : ℕ
    pub d : ℕ
    pub on : ControlFlow ℕ ℕ → ControlFlow ℕ ℕ
    pub way : Way whole j (suc d) g base m on
    pub lies : Lies summary g base m
    pub enough : m ≤ 64 * suc d
    pub behind : at ≤ base → s + at ≤ base
    pub short : s < k
    pub comes : seek_in (whole / 64) summary at k 0 0 whole 0 ≡ on (seek_in (suc d) summary at k g base m s)

  -- Group g is passed, and ends in s free blocks.
  pub record Passed (whole g base m s : ℕ) : Type 0 where
    pub j : ℕ
    pub d : ℕ
    pub on : ControlFlow ℕ ℕ → ControlFlow ℕ ℕ
    pub way : Way whole j (suc d) g base m on
    pub lies : Lies summary g base m
    pub enough : m ≤ 64 * suc d
    pub behind : at ≤ base + m → s + at ≤ base + m
    pub few : s ≤ base + m
    pub short : s < k
    pub comes : seek_in (whole / 64) summary at k 0 0 whole 0 ≡ on (Continue s)

  -- Where a search stands before its end.
  abbrev pub Stands : ℕ → Stage → Type 0
  Stands whole (Look p) = Ahead whole p.g p.base p.m p.s
  Stands whole (Pass p) = Passed whole p.g p.base p.m p.s

  -- At its end, with its step.
  abbrev pub Ended : ℕ → ControlFlow ℕ ℕ → Type 0
  Ended whole step = step ≡ seek_in (whole / 64) summary at k 0 0 whole 0

  -- What follows a stage: the next one, which is nearer to the end, or the end.
  abbrev pub Follows : ℕ → Stage → ControlFlow (ControlFlow ℕ ℕ) Stage → Type 0
  Follows whole stage (Break step) = Ended whole step
  Follows whole stage (Continue next) = Stands whole next × (to_go next < to_go stage)
