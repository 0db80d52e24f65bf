-- The contracts of the calendar for C, of its functions themselves, as in Contracts.antt: what each ensures is the proposition
-- that stands here, and it asks nothing of its caller.
-- Assumes nothing.
use mathlib.Core.Path.{◌≡◌, refl}
use seplogic.Ra.Ura.{Ura}
use base.Logic.{SProp}
use contract.Monad.{Fun}
use types.Logic.{Logic}
use prog.Memory.{Memory}
use prog.Routine.{Routine}
use Rattle.calendar.specs.Days.{day_of_date, day_of_number}
use Rattle.block.proofs.Clauses.{Ensures, AsksNothing}
use Rattle.pagunlit.specs.contracts.days.pagunlit_day_of_date as date-function
use Rattle.pagunlit.specs.contracts.days.pagunlit_day_of_number as number-function

module _ {M : Type 1} {𝓤 : Ura M} (𝓛 : Logic 𝓤) (mem : Memory → SProp 𝓤) (run : Routine → Fun 𝓤) where
  pub pagunlit_day_of_date_contract : Ensures 𝓤 date-function.ended (date-function.clauses 𝓛 mem run) (λ κs a r t.
      r ≡ day_of_date a.0 a.1.0 a.1.1.0)
  pagunlit_day_of_date_contract κs a r t g = refl

  pub pagunlit_day_of_number_contract : Ensures 𝓤 number-function.ended (number-function.clauses 𝓛 mem run) (λ κs a r t.
      r ≡ day_of_number a.0)
  pagunlit_day_of_number_contract κs a r t g = refl

  pub pagunlit_day_of_date_asks_nothing : AsksNothing 𝓤 date-function.ended (date-function.clauses 𝓛 mem run)
  pagunlit_day_of_date_asks_nothing κs a g = refl

  pub pagunlit_day_of_number_asks_nothing : AsksNothing 𝓤 number-function.ended (number-function.clauses 𝓛 mem run)
  pagunlit_day_of_number_asks_nothing κs a g = refl
