-- `describe_refusal` meets its contract.
-- Assumes nothing.

use mathlib.Core.List.{List}
use Prim.Native.Nat.{ℕ}
use Rattle.printer.specs.Decimal.{numeral}
use Rattle.printer.specs.Writing.{Writes}
use Rattle.printer.specs.Lines.{newline}
use Rattle.printer.specs.Text.{refused_word, refusal_text}
use Rattle.printer.proofs.Written.{then}
use Rattle.printer.proofs.describe_refusal.Goals as goal

whole : (number : ℕ) (text t₁ t₂ : List ℕ) (at a₁ a₂ : ℕ) → Writes refused_word text at a₁ t₁
    → Writes (numeral number newline) t₁ a₁ a₂ t₂
    → Writes (refusal_text number) text at a₂ t₂
unfolding refusal_text
whole number text t₁ t₂ at a₁ a₂ w₁ w₂ = then w₁ w₂

pub returns : goal.returns
returns c = whole _ _ _ _ _ _ _ c.write_word-at.ensures
    c.write_numeral.ensures
