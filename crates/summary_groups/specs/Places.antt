-- Names for the contracts of the functions that go through the groups of a summary: where a group lies, and what is below it.
-- Assumes nothing.
use Rattle.std.specs.Prelude.{◌≡◌, ℕ, ◌+◌, ◌*◌, ◌^◌, ◌≤◌, ◌⊎◌}
use Rattle.summary_groups.specs.Groups.{place}

-- Group h is group g, or a half of one that is below g.
pub data Below (g : ℕ) : ℕ → Type 0 where
  same : Below g g
  left : (h : ℕ) → Below g h → Below g (2 * h + 1)
  right : (h : ℕ) → Below g h → Below g (2 * h + 2)

-- Group g of p words lies at the words first to first + size - 1; size is a power of two.
pub record Sited (p g first size : ℕ) : Type 0 where
  pub lies : place p g ≡ record { first = first; size = size }
  pub level : (k : ℕ) × (size ≡ 2 ^ k)
  pub sum : first + p ≡ (g + 1) * size
  pub inside : first + size ≤ p
  pub small : p ≤ 4096

-- Group g has none of the words lo to hi - 1.
abbrev pub Apart : ℕ → ℕ → ℕ → ℕ → Type 0
Apart p lo hi g = (hi ≤ (place p g).first) ⊎ ((place p g).first + (place p g).size ≤ lo)
