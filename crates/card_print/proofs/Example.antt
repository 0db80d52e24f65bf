-- What is printed of the worked image, whose values all differ (proofs/Example.antt of the crate image), is the worked text
-- (specs/Printed.antt of the crate printer), byte by byte.
-- Assumes nothing.
use Prim.Native.Nat.{ℕ, zero, suc}
use mathlib.Core.Path.{◌≡◌, refl, subst, ◌∙◌}
use mathlib.Core.Bool.{true, false}
use mathlib.Core.List.{List, ◌++◌}
use native.Mathlib.Omega.{arith}
use lib.ListN.{replicate}
use Rattle.map_blocks.specs.Blocks.{free, all}
use Rattle.survey.specs.Survey.{counts_of}
use Rattle.catalogue_standings.specs.Limits.{shape_fits, sheets_fit}
use Rattle.catalogue_standings.specs.Standings.{standing_of}
use Rattle.image_soundness.specs.Sound.{coverings, undamaged, sound}
use Rattle.image.specs.Table.{save_fits}
use Rattle.image.proofs.ExampleFigures.{blocks, spare, map, head, fill, sums}
use Rattle.image.proofs.Example.{card, example}
use Rattle.image.proofs.Journey.{Words}
use Rattle.printer.specs.ExampleFigures.{text}
use Rattle.printer.specs.Printed.{printed}
use Rattle.card_print.specs.Printed.{printed_of}
use Rattle.card_print.proofs.Whole.{saved_printed}

words : Words map
words zero = omega arith
words (suc zero) = omega arith
words (suc (suc i)) = omega arith

fits : save_fits blocks spare 2 2 2 ≡ true
unfolding save_fits shape_fits sheets_fit
fits = refl

whole : sound card ≡ true
unfolding sound undamaged coverings standing_of all free counts_of
whole = refl

pub example_printed : printed_of false (head ++ replicate fill 0 ++ sums) 2 2 2 ≡ text
example_printed =
    subst (λ (image : List ℕ). printed_of false image 2 2 2 ≡ text) example
    (saved_printed card words fits whole ∙ printed.worked_card)
