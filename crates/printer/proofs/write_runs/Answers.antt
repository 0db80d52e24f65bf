-- `write_runs` meets its contract.
-- Assumes nothing.

use mathlib.Core.List.{List}
use Prim.Native.Nat.{ℕ}
use Rattle.survey.specs.declared.Counts.{Counts}
use Rattle.printer.specs.Decimal.{decimal, numeral}
use Rattle.printer.specs.Writing.{Writes}
use Rattle.printer.specs.Lines.{runs_word, longest_word, newline, runs_line}
use Rattle.printer.proofs.Written.{then}
use Rattle.printer.proofs.write_runs.Goals as goal

whole : (counts : Counts) (text t₁ t₂ t₃ t₄ : List ℕ) (at a₁ a₂ a₃ a₄ : ℕ) → Writes runs_word text at a₁ t₁
    → Writes (decimal counts.runs) t₁ a₁ a₂ t₂
    → Writes longest_word t₂ a₂ a₃ t₃ → Writes (numeral counts.longest newline) t₃ a₃ a₄ t₄
    → Writes (runs_line counts) text at a₄ t₄
unfolding runs_line
whole counts text t₁ t₂ t₃ t₄ at a₁ a₂ a₃ a₄ w₁ w₂ w₃ w₄ = then (then (then w₁ w₂) w₃) w₄

pub returns : goal.returns
returns c = whole _ _ _ _ _ _ _ _ _ _ _ c.write_word-at.ensures c.write_number-at.ensures c.write_word-at-2.ensures
    c.write_numeral.ensures
