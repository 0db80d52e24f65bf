-- The contracts of the calendar's public functions, of the functions themselves: what each ensures is the proposition that
-- stands here, by computation (`.._contract`), and it asks nothing of its caller (`.._asks_nothing`), but that the test of a
-- term asks for a payload's length (`in_term_asks`). So a clause of the source that is made weaker, or one that asks more, is
-- refused here.
-- Assumes nothing.
use mathlib.Core.Path.{◌≡◌, refl}
use seplogic.Ra.Ura.{Ura}
use lib.ListN.{length}
use base.Logic.{SProp}
use contract.Monad.{Fun}
use types.Logic.{Logic}
use prog.Memory.{Memory}
use prog.Routine.{Routine}
use Rattle.block.proofs.Clauses.{Ensures, Asks, AsksNothing}
use Rattle.calendar.specs.Calendar.{is_date, dated_of}
use Rattle.calendar.specs.Days.{day_of_date, day_of_number}
use Rattle.calendar.specs.Term.{term_of, in_term, wrong_length, number_in, term_answer, with_term}
use Rattle.calendar.specs.contracts.is_date as is-date-function
use Rattle.calendar.specs.contracts.day_number as day-number-function
use Rattle.calendar.specs.contracts.days.day_of_date as day-of-date-function
use Rattle.calendar.specs.contracts.days.day_of_number as day-of-number-function
use Rattle.calendar.specs.contracts.in_term as in-term-function
use Rattle.calendar.specs.contracts.write_term as write-term-function
use Rattle.calendar.specs.contracts.WrongLength.number as number-method

-- what is passed is a.0, a.1.0 and so on, in the order of the parameters, and what is left of it t.0, t.1.0 and so on
module _ {M : Type 1} {𝓤 : Ura M} (𝓛 : Logic 𝓤) (mem : Memory → SProp 𝓤) (run : Routine → Fun 𝓤) where
  pub is_date_contract : Ensures 𝓤 is-date-function.ended (is-date-function.clauses 𝓛 mem run) (λ κs a r t.
      r ≡ is_date a.0 a.1.0 a.1.1.0)
  is_date_contract κs a r t g = refl

  pub day_number_contract : Ensures 𝓤 day-number-function.ended (day-number-function.clauses 𝓛 mem run) (λ κs a r t.
      r ≡ dated_of a.0 a.1.0 a.1.1.0)
  day_number_contract κs a r t g = refl

  pub day_of_date_contract : Ensures 𝓤 day-of-date-function.ended (day-of-date-function.clauses 𝓛 mem run) (λ κs a r t.
      r ≡ day_of_date a.0 a.1.0 a.1.1.0)
  day_of_date_contract κs a r t g = refl

  pub day_of_number_contract : Ensures 𝓤 day-of-number-function.ended (day-of-number-function.clauses 𝓛 mem run)
      (λ κs a r t. r ≡ day_of_number a.0)
  day_of_number_contract κs a r t g = refl

  pub in_term_contract : Ensures 𝓤 in-term-function.ended (in-term-function.clauses 𝓛 mem run) (λ κs a r t.
      r ≡ in_term (term_of a.0.now) a.1.0)
  in_term_contract κs a r t g = refl

  pub write_term_contract : Ensures 𝓤 write-term-function.ended (write-term-function.clauses 𝓛 mem run) (λ κs a r t.
      (number_in r ≡ term_answer a.0.now) × (t.0.now ≡ with_term a.0.now a.1.0 a.1.1.0))
  write_term_contract κs a r t g = refl

  pub number_contract : Ensures 𝓤 number-method.ended (number-method.clauses 𝓛 mem run) (λ κs a r t. r ≡ wrong_length)
  number_contract κs a r t g = refl

  pub is_date_asks_nothing : AsksNothing 𝓤 is-date-function.ended (is-date-function.clauses 𝓛 mem run)
  is_date_asks_nothing κs a g = refl

  pub day_number_asks_nothing : AsksNothing 𝓤 day-number-function.ended (day-number-function.clauses 𝓛 mem run)
  day_number_asks_nothing κs a g = refl

  pub day_of_date_asks_nothing : AsksNothing 𝓤 day-of-date-function.ended (day-of-date-function.clauses 𝓛 mem run)
  day_of_date_asks_nothing κs a g = refl

  pub day_of_number_asks_nothing : AsksNothing 𝓤 day-of-number-function.ended (day-of-number-function.clauses 𝓛 mem run)
  day_of_number_asks_nothing κs a g = refl

  pub in_term_asks : Asks 𝓤 in-term-function.ended (in-term-function.clauses 𝓛 mem run) (λ κs a. length a.0.now ≡ 496)
  in_term_asks κs a g = refl

  pub write_term_asks_nothing : AsksNothing 𝓤 write-term-function.ended (write-term-function.clauses 𝓛 mem run)
  write_term_asks_nothing κs a g = refl

  pub number_asks_nothing : AsksNothing 𝓤 number-method.ended (number-method.clauses 𝓛 mem run)
  number_asks_nothing κs a g = refl
