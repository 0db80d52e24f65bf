-- The contracts of the printer's functions, of the functions themselves: what each ensures is the proposition that stands here,
-- by computation (`.._contract`), and what it asks of its caller: nothing (`print_image_asks_nothing`), or no more entries than
-- there are (`print_with_asks`). So a clause of the source that is made weaker, or one that asks more, is refused here.
-- Assumes nothing.
use Prim.Native.Nat.{◌≤◌}
use mathlib.Core.Path.{refl}
use seplogic.Ra.Ura.{Ura}
use base.Logic.{SProp}
use contract.Monad.{Fun}
use types.Logic.{Logic}
use prog.Memory.{Memory}
use prog.Routine.{Routine}
use Rattle.block.proofs.Clauses.{Ensures, Asks, AsksNothing}
use Rattle.card_print.specs.Printed.{Prints, PrintsWith}
use Rattle.card_print.specs.contracts.print.print_image as print-image-function
use Rattle.card_print.specs.contracts.print.print_with as print-with-function

-- what is passed is a.0, a.1.0 and so on, in the order of the parameters, and what is left of it t.0, t.1.0 and so on
module _ {M : Type 1} {𝓤 : Ura M} (𝓛 : Logic 𝓤) (mem : Memory → SProp 𝓤) (run : Routine → Fun 𝓤) where
  pub print_image_contract : Ensures 𝓤 print-image-function.ended (print-image-function.clauses 𝓛 mem run) (λ κs a r t.
      let lent = a.1.1 in
      let left = t.1.1 in
      Prints a.0 a.1.0 lent.0.now lent.1.0.now lent.1.1.0.now lent.1.1.1.0.now
      lent.1.1.1.1.0.now
      r left.1.0.now left.1.1.0.now left.1.1.1.0.now left.1.1.1.1.0.now)
  print_image_contract κs a r t g = refl

  pub print_with_contract : Ensures 𝓤 print-with-function.ended (print-with-function.clauses 𝓛 mem run) (λ κs a r t.
      let lent = a.1.1 in
      let left = t.1.1 in
      PrintsWith a.0 a.1.0 lent.0.now lent.1.0.now lent.1.1.0 lent.1.1.1.0
      lent.1.1.1.1.0.now lent.1.1.1.1.1.0.now
      r left.1.0.now left.1.1.1.1.0.now left.1.1.1.1.1.0.now)
  print_with_contract κs a r t g = refl

  pub print_image_asks_nothing : AsksNothing 𝓤 print-image-function.ended (print-image-function.clauses 𝓛 mem run)
  print_image_asks_nothing κs a g = refl

  pub print_with_asks : Asks 𝓤 print-with-function.ended (print-with-function.clauses 𝓛 mem run) (λ κs a.
      a.1.1.1.1.1.0 ≤ 1024)
  print_with_asks κs a g = refl
