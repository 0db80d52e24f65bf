-- `write_card` meets its contract.
-- Assumes nothing.

use mathlib.Core.List.{List}
use Prim.Native.Nat.{ℕ}
use Rattle.printer.specs.Decimal.{numeral}
use Rattle.printer.specs.Writing.{Writes}
use Rattle.printer.specs.Lines.{card_word, space, newline, card_line}
use Rattle.printer.proofs.Written.{then}
use Rattle.printer.proofs.write_card.Goals as goal

whole : (n spare c : ℕ) (text t₁ t₂ t₃ t₄ : List ℕ) (at a₁ a₂ a₃ a₄ : ℕ) → Writes card_word text at a₁ t₁
    → Writes (numeral n space) t₁ a₁ a₂ t₂
    → Writes (numeral spare space) t₂ a₂ a₃ t₃ → Writes (numeral c newline) t₃ a₃ a₄ t₄
    → Writes (card_line n spare c) text at a₄ t₄
unfolding card_line
whole n spare c text t₁ t₂ t₃ t₄ at a₁ a₂ a₃ a₄ w₁ w₂ w₃ w₄ = then (then (then w₁ w₂) w₃) w₄

pub returns : goal.returns
returns c = whole _ _ _ _ _ _ _ _ _ _ _ _ _ c.write_word-at.ensures c.write_numeral-at.ensures
    c.write_numeral-at-2.ensures
    c.write_numeral.ensures
