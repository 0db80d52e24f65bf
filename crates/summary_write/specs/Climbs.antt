-- What is stored on the way up from changed words, level by level. Names for the contracts of the functions of an update.
-- Assumes nothing.
use Rattle.std.specs.Prelude.{ℕ, ◌+◌, ◌-◌, ◌*◌, ◌/◌, ◌^◌, ◌≤◌, ◌<◌, ◌≡◌, Bool, List, ◌⊎◌, length}
use Rattle.summary_groups.specs.declared.Group.{Group}
use Rattle.summary_groups.specs.Groups.{joined_of}
use Rattle.summary.specs.Summary.{group_in}
use Rattle.summary.specs.Walks.{Level, Target, RestIn}

-- The groups g to stop - 1 are to be built from their two halves, of half words each, and in the summary s the halves are as
-- aimed at.
pub record Joins (aim : ℕ → Group) (s : List ℕ) (g stop half : ℕ) : Type 0 where
  pub left : (h : ℕ) → g ≤ h → h < stop → group_in s (2 * h + 1) ≡ aim (2 * h + 1)
  pub right : (h : ℕ) → g ≤ h → h < stop → group_in s (2 * h + 2) ≡ aim (2 * h + 2)
  pub both : (h : ℕ) → g ≤ h → h < stop → joined_of (aim (2 * h + 1)) (aim (2 * h + 2)) (64 * half) ≡ aim h

-- From a summary to the next: what was as aimed at is so still, the groups g to stop - 1 are, and no other has changed.
pub record Stores (aim : ℕ → Group) (old new : List ℕ) (g stop : ℕ) : Type 0 where
  pub still : (h : ℕ) → group_in old h ≡ aim h → group_in new h ≡ aim h
  pub done : (h : ℕ) → g ≤ h → h < stop → group_in new h ≡ aim h
  pub other : (h : ℕ) → (h < g) ⊎ (stop ≤ h) → group_in new h ≡ group_in old h

-- The groups of half words that have one of the words lo to hi - 1: of count in all the numbers a to z, groups g to stop - 1.
pub record At (p lo hi half count g stop : ℕ) : Type 0 where
  pub power : (k : ℕ) × (count ≡ 2 ^ k)
  pub level : Level p count half
  pub a : ℕ
  pub z : ℕ
  pub first : g + 1 ≡ count + a
  pub last : stop ≡ count + z
  pub least : a ≤ z
  pub inside : z < count
  pub from : a * half ≤ lo
  pub before : lo < a * half + half
  pub to : z * half < hi
  pub behind : hi ≤ z * half + half

-- Where the way up stands, which began with the summary s₀ and has come to s: the groups of the level and those below it are as
-- aimed at, those apart are still, those above are as they were; and if one group of the level has all of the words, it is not.
pub record Climbs (f : ℕ → Bool) (p lo hi : ℕ) (s₀ s : List ℕ) (half g stop : ℕ) : Type 0 where
  pub count : ℕ
  pub at : At p lo hi half count g stop
  pub rest : (aim : ℕ → Group) → Target f p lo hi s₀ aim → RestIn p lo hi s₀ aim → RestIn p lo hi s aim
  pub aimed : (aim : ℕ → Group) → Target f p lo hi s₀ aim → RestIn p lo hi s₀ aim
      → (h : ℕ) → count ≤ h + 1 → h + 1 < 2 * p → group_in s h ≡ aim h
  pub above : (aim : ℕ → Group) → Target f p lo hi s₀ aim → RestIn p lo hi s₀ aim
      → (h : ℕ) → h + 1 < count → group_in s h ≡ group_in s₀ h
  pub moved : (aim : ℕ → Group) → Target f p lo hi s₀ aim → RestIn p lo hi s₀ aim → stop ≡ g + 1 → aim g ≡ group_in s₀ g → ⊥

-- The same, where one group of the level above has all of the words.
pub record Rises (f : ℕ → Bool) (p lo hi : ℕ) (s₀ s : List ℕ) (half g : ℕ) : Type 0 where
  pub stop : ℕ
  pub power : (k : ℕ) × (p ≡ 2 ^ k)
  pub few : p ≤ 4096
  pub climb : Climbs f p lo hi s₀ s half g stop
  pub one : stop / 2 ≤ (g - 1) / 2 + 1

-- A group of half words in a summary, from which a way leads up.
pub record Stands (s : List ℕ) (half g : ℕ) : Type 0 where
  pub p : ℕ
  pub power : (k : ℕ) × (p ≡ 2 ^ k)
  pub few : p ≤ 4096
  pub long : length s ≡ 3 * (2 * p - 1)
  pub lo : ℕ
  pub hi : ℕ
  pub count : ℕ
  pub stop : ℕ
  pub at : At p lo hi half count g stop

-- What an update of the words lo to hi - 1 is to come to: every group is as aimed at.
abbrev pub Comes : (ℕ → Bool) → ℕ → ℕ → ℕ → List ℕ → List ℕ → Type 0
Comes f p lo hi s₀ s = (aim : ℕ → Group) → Target f p lo hi s₀ aim → RestIn p lo hi s₀ aim
    → (h : ℕ) → h + 1 < 2 * p → group_in s h ≡ aim h
