-- The contracts of the dose counts' functions, of the functions themselves: what each ensures is the proposition that stands
-- here, by computation (`.._contract`), and it asks nothing of its caller (`.._asks_nothing`). So a clause of the source that
-- is made weaker, or one that asks something, is refused here.
-- Assumes nothing.
use mathlib.Core.Path.{◌≡◌, refl}
use seplogic.Ra.Ura.{Ura}
use base.Logic.{SProp}
use contract.Monad.{Fun}
use types.Logic.{Logic}
use prog.Memory.{Memory}
use prog.Routine.{Routine}
use Rattle.block.proofs.Clauses.{Ensures, AsksNothing}
use Rattle.counts.specs.Counts.{number, number_in, read_of, write_answer, after_write}
use Rattle.counts.specs.Replies.{count_reply, count_from}
use Rattle.counts.specs.contracts.read_count as read-count-function
use Rattle.counts.specs.contracts.write_count as write-count-function
use Rattle.counts.specs.contracts.reply_of as reply-of-function
use Rattle.counts.specs.contracts.count_from as count-from-function
use Rattle.counts.specs.contracts.CountError.number as number-method

-- what is passed is a.0, a.1.0 and so on, in the order of the parameters, and what is left of it t.0, t.1.0 and so on
module _ {M : Type 1} {𝓤 : Ura M} (𝓛 : Logic 𝓤) (mem : Memory → SProp 𝓤) (run : Routine → Fun 𝓤) where
  pub read_count_contract : Ensures 𝓤 read-count-function.ended (read-count-function.clauses 𝓛 mem run) (λ κs a r t.
      r ≡ read_of a.0.now a.1.0)
  read_count_contract κs a r t g = refl

  pub write_count_contract : Ensures 𝓤 write-count-function.ended (write-count-function.clauses 𝓛 mem run) (λ κs a r t.
      (number_in r ≡ write_answer a.0.now a.1.0 a.1.1.0) × (t.0.now ≡ after_write a.0.now a.1.0 a.1.1.0))
  write_count_contract κs a r t g = refl

  pub reply_of_contract : Ensures 𝓤 reply-of-function.ended (reply-of-function.clauses 𝓛 mem run) (λ κs a r t.
      r ≡ count_reply a.0)
  reply_of_contract κs a r t g = refl

  pub count_from_contract : Ensures 𝓤 count-from-function.ended (count-from-function.clauses 𝓛 mem run) (λ κs a r t.
      r ≡ count_from a.0)
  count_from_contract κs a r t g = refl

  pub number_contract : Ensures 𝓤 number-method.ended (number-method.clauses 𝓛 mem run) (λ κs a r t. r ≡ number a.0)
  number_contract κs a r t g = refl

  pub read_count_asks_nothing : AsksNothing 𝓤 read-count-function.ended (read-count-function.clauses 𝓛 mem run)
  read_count_asks_nothing κs a g = refl

  pub write_count_asks_nothing : AsksNothing 𝓤 write-count-function.ended (write-count-function.clauses 𝓛 mem run)
  write_count_asks_nothing κs a g = refl

  pub reply_of_asks_nothing : AsksNothing 𝓤 reply-of-function.ended (reply-of-function.clauses 𝓛 mem run)
  reply_of_asks_nothing κs a g = refl

  pub count_from_asks_nothing : AsksNothing 𝓤 count-from-function.ended (count-from-function.clauses 𝓛 mem run)
  count_from_asks_nothing κs a g = refl

  pub number_asks_nothing : AsksNothing 𝓤 number-method.ended (number-method.clauses 𝓛 mem run)
  number_asks_nothing κs a g = refl
