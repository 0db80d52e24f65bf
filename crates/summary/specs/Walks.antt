-- What the functions do that go through the groups of a summary. Names for their contracts; those of build, check and update
-- need none of them.
-- Assumes nothing.
use Rattle.std.specs.Prelude.{ℕ, ◌+◌, ◌-◌, ◌*◌, ◌/◌, ◌≤◌, ◌<◌, ◌≡◌, Bool, true, false, List, ◌⊎◌, set}
use Rattle.summary_groups.specs.declared.Group.{Group}
use Rattle.summary_groups.specs.Groups.{place, group_of, joined_of}
use Rattle.summary_groups.specs.Places.{Below, Sited, Apart}
use Rattle.summary.specs.Summary.{group_in, group_at}

-- The summary with group g stored.
abbrev pub with_group : List ℕ → ℕ → Group → List ℕ
with_group s g x = set (set (set s (3 * g) x.head) (3 * g + 1) x.tail) (3 * g + 2) x.longest

-- Group g as its two halves in a summary tell, of half words each.
unfoldable pub halves_of : List ℕ → ℕ → ℕ → Group
halves_of s g half = joined_of (group_in s (2 * g + 1)) (group_in s (2 * g + 2)) (64 * half)

-- The groups of size words are count many: groups count - 1 to 2 count - 2, one behind the other.
pub record Level (p count size : ℕ) : Type 0 where
  pub some : 0 < count
  pub sited : (i : ℕ) → i < count → Sited p (count - 1 + i) (i * size) size

-- Group h has all of the words lo to hi - 1, and what is aimed at is as it was in the summary s.
pub record Idle (p lo hi : ℕ) (s : List ℕ) (aim : ℕ → Group) (h : ℕ) : Type 0 where
  pub low : (place p h).first ≤ lo
  pub high : hi ≤ (place p h).first + (place p h).size
  pub same : aim h ≡ group_in s h

-- Groups that an update of the words lo to hi - 1 aims at: each that has one of them is that of its word, f saying which blocks
-- are free, or built from its two halves; but above a group that has all of the words and stays as it was, none changes.
pub record Target (f : ℕ → Bool) (p lo hi : ℕ) (s : List ℕ) (aim : ℕ → Group) : Type 0 where
  pub word : (g first : ℕ) → Sited p g first 1 → (Apart p lo hi g → ⊥) → group_of f (64 * first) 64 ≡ aim g
  pub halves : (g first size : ℕ) → Sited p g first size → (size ≡ 1 → ⊥) → (Apart p lo hi g → ⊥)
      → (Idle p lo hi s aim (2 * g + 1) → ⊥) → (Idle p lo hi s aim (2 * g + 2) → ⊥)
      → joined_of (aim (2 * g + 1)) (aim (2 * g + 2)) (64 * (size / 2)) ≡ aim g
  pub kept : (g first size : ℕ) → Sited p g first size → (size ≡ 1 → ⊥) → (Apart p lo hi g → ⊥)
      → Idle p lo hi s aim (2 * g + 1) ⊎ Idle p lo hi s aim (2 * g + 2) → group_in s g ≡ aim g

-- The groups that have none of those words are as aimed at.
abbrev pub RestIn : ℕ → ℕ → ℕ → List ℕ → (ℕ → Group) → Type 0
RestIn p lo hi s aim = (h : ℕ) → h + 1 < 2 * p → Apart p lo hi h → group_in s h ≡ aim h

-- Every group below g of a summary is right.
abbrev pub RightBelow : (ℕ → Bool) → ℕ → List ℕ → ℕ → Type 0
RightBelow f p s g = (h : ℕ) → h + 1 < 2 * p → Below g h → group_in s h ≡ group_at f p h

-- What building from group g down leaves: the groups that were right are so still, and those below g are.
pub record Builds (f : ℕ → Bool) (p g : ℕ) (old new : List ℕ) : Type 0 where
  pub still : (h : ℕ) → group_in old h ≡ group_at f p h → group_in new h ≡ group_at f p h
  pub done : RightBelow f p new g

-- A test says whether something holds.
abbrev pub Decides : Bool → Type 0 → Type 0
Decides r holds = (r ≡ true → holds) × (r ≡ false → holds → ⊥)
