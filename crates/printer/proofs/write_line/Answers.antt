-- `write_line` meets its contract.
-- Assumes nothing.

use mathlib.Core.List.{List, [], ◌∷◌}
use Prim.Native.Nat.{ℕ, ◌%◌}
use Rattle.catalogue.specs.declared.Entry.{Entry}
use Rattle.printer.specs.Decimal.{numeral}
use Rattle.printer.specs.Writing.{Writes}
use Rattle.printer.specs.Lines.{space, newline, sheet_line}
use Rattle.printer.proofs.Written.{then}
use Rattle.printer.proofs.write_line.Goals as goal

whole : (sheet : ℕ) (e : Entry) (text t₁ t₂ t₃ t₄ t₅ : List ℕ) (at a₁ a₂ a₃ a₄ a₅ : ℕ)
    → Writes (numeral sheet space) text at a₁ t₁
    → Writes (e.mark % 256 ∷ []) t₁ a₁ a₂ t₂ → Writes (space ∷ []) t₂ a₂ a₃ t₃ → Writes (numeral e.start space) t₃ a₃ a₄ t₄
    → Writes (numeral e.length newline) t₄ a₄ a₅ t₅ → Writes (sheet_line sheet e) text at a₅ t₅
unfolding sheet_line
whole sheet e text t₁ t₂ t₃ t₄ t₅ at a₁ a₂ a₃ a₄ a₅ w₁ w₂ w₃ w₄ w₅ = then (then (then w₁ (then w₂ w₃)) w₄) w₅

pub returns : goal.returns
returns c = whole _ _ _ _ _ _ _ _ _ _ _ _ _ _ c.write_numeral-at.ensures c.write_byte-at.ensures c.write_byte-at-2.ensures
    c.write_numeral-at-2.ensures
    c.write_numeral.ensures
