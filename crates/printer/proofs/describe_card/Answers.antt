-- `describe_card` meets its contract.
-- Assumes nothing.

use mathlib.Core.List.{List, ◌++◌}
use Prim.Native.Nat.{ℕ, ◌-◌}
use native.Mathlib.Omega.{arith}
use lib.ListN.{length, take}
use Rattle.catalogue.specs.declared.Entry.{Entry}
use Rattle.survey.specs.declared.Counts.{Counts}
use Rattle.printer.specs.Writing.{Writes}
use Rattle.printer.specs.Lines.{card_line, runs_line}
use Rattle.printer.specs.Text.{sheet_lines, card_text}
use Rattle.printer.proofs.Lines.{every_line}
use Rattle.printer.proofs.Written.{then}
use Rattle.printer.proofs.describe_card.Goals as goal

whole : (n spare : ℕ) (counts : Counts) (es : List Entry) (text t₁ t₂ : List ℕ) (a₁ a₂ : ℕ)
    → Writes (card_line n spare (length es) ++ runs_line counts) text 0 a₁ t₁
    → Writes (sheet_lines 0 (take (length t₁ - 0) es)) t₁ a₁ a₂ t₂ → Writes (card_text n spare counts es) text 0 a₂ t₂
unfolding card_text
whole n spare counts es text t₁ t₂ a₁ a₂ w₁ w₂ = then w₁ (every_line es 0 t₁ t₂ a₁ a₂ (omega arith) w₂)

pub returns : goal.returns
returns c = whole _ _ _ _ _ _ _ _ _ c.write_head-third.ensures c.write_sheets.ensures
