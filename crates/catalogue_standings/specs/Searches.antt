-- What a search found, as the rows and the answers have it.
-- Assumes nothing.
use Rattle.std.specs.Prelude.{Option, Some, None}
use Rattle.std.specs.Prelude.{ℕ, Bool, true, false}
use Rattle.map_blocks.specs.Blocks.{space}
use Rattle.catalogue_standings.specs.declared.Answer.{Answer}
use Rattle.catalogue_standings.specs.declared.Answer.TheVariants.{Start}

-- Nothing was found.
abbrev pub none : Option ℕ → Bool
none (Some s) = false
none None = true

-- The start that a search found.
abbrev pub start_at : Option ℕ → ℕ
start_at (Some s) = s
start_at None = 0

-- The answer of a search and of a reserve: a start, and the space behind it in a card of n blocks (document 02 (b)).
abbrev pub start_with_space : (ℕ → Bool) → ℕ → ℕ → Answer
start_with_space free n start = Start start (space free start n)
