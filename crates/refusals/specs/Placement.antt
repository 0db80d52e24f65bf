-- The three figures of a reserve: from, before and step (document 02, request a).
-- Assumes nothing.
use Rattle.std.specs.Prelude.{Option}
use Rattle.std.specs.Prelude.{ℕ, Bool, ◌||◌, eqb, leb, ltb}
use Rattle.map_blocks.specs.Blocks.{fit, least_fit}
use Rattle.refusals.specs.declared.Figures.{Figures}

abbrev pub figures : ℕ → ℕ → ℕ → Figures
figures from before step = record { from = from; before = before; step = step }

-- A plain reserve carries no figures, a placed one its own.
pub data Placement : Type 0 where
  plain : Placement
  placed : Figures → Placement

-- The plain reserve is the one with 0, n and 1.
abbrev pub figures_in : ℕ → Placement → Figures
figures_in n plain = figures 0 n 1
figures_in n (placed g) = g

-- Row 15: step is 0, from ≥ before or before > n.
abbrev pub misfigured : ℕ → Figures → Bool
misfigured n g = eqb g.step 0 || leb g.before g.from || ltb n g.before

-- A fit within the figures, and the least of them.
abbrev pub fit_within : (ℕ → Bool) → Figures → ℕ → ℕ → Bool
fit_within f g k s = fit f g.from g.before g.step k s

abbrev pub least_within : (ℕ → Bool) → Figures → ℕ → Option ℕ
least_within f g k = least_fit f g.from g.before g.step k
