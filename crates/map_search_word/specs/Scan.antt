-- What a search knows of one word, and as it passes from word to word. Names for the contracts of `scan_word`, and of the
-- functions of crate map_search that go through a map by it.
-- Assumes nothing.
use Rattle.std.specs.Prelude.{ℕ, suc, ◌+◌, ◌-◌, ◌≤◌, ◌<◌, ◌≡◌, Bool, true, false}
use Rattle.std.specs.declared.ops.ControlFlow.{ControlFlow}
use Rattle.std.specs.declared.ops.ControlFlow.TheVariants.{Break, Continue}
use Rattle.map_blocks.specs.Blocks.{all}
use Rattle.map_blocks.specs.Words.{bit}

-- Every run of k bits in a word holds the bits of m.
abbrev pub Core : ℕ → ℕ → Type 0
Core k m = (j : ℕ) → j < 64 → bit m j ≡ true → (64 - k ≤ j) × (j < k)

-- r ones stand at the end of w, and no more.
pub record Tail (w r : ℕ) : Type 0 where
  pub within : r ≤ 64
  pub held : (j : ℕ) → j < 64 → 64 ≤ j + r → bit w j ≡ true
  pub stop : (j : ℕ) → suc (j + r) ≡ 64 → bit w j ≡ false

-- What a search for k blocks knows where it comes to block `base`, f saying which blocks are free: the s blocks before
-- it are free, they are fewer than k, and no run of k starts before them.
pub record Carried (f : ℕ → Bool) (k base s : ℕ) : Type 0 where
  pub room : s ≤ base
  pub short : s < k
  pub held : (t : ℕ) → base ≤ t + s → t < base → f t ≡ true
  pub none : (t : ℕ) → t + s < base → all f t k ≡ false

-- A run of k starts at r, and none before it.
pub record Least (f : ℕ → Bool) (k r : ℕ) : Type 0 where
  pub fits : all f r k ≡ true
  pub none : (t : ℕ) → t < r → all f t k ≡ false

-- What a search knows once it has passed the words before block `end`.
abbrev pub Stepped : (ℕ → Bool) → ℕ → ℕ → ControlFlow ℕ ℕ → Type 0
Stepped f k end (Break r) = Least f k r
Stepped f k end (Continue s) = Carried f k end s

-- The same of the numbers alone, whichever blocks are free.
abbrev pub Bounded : ℕ → ℕ → ControlFlow ℕ ℕ → Type 0
Bounded k end (Break r) = r ≤ end
Bounded k end (Continue s) = (s < k) × (s ≤ end)
