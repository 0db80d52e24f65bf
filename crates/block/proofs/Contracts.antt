-- The contracts of seal and check, of the two functions themselves: what each ensures is the proposition that stands here, by
-- computation (`.._contract`), and it asks nothing of its caller (`.._asks_nothing`). So a clause of the source that is made
-- weaker, or one that asks something, is refused here.
-- Assumes nothing.
use mathlib.Core.Path.{◌≡◌, refl}
use seplogic.Ra.Ura.{Ura}
use base.Logic.{SProp}
use contract.Monad.{Fun}
use types.Logic.{Logic}
use prog.Memory.{Memory}
use prog.Routine.{Routine}
use Rattle.block.specs.Calls.{seal_answer, after_seal, check_answer}
use Rattle.block.proofs.Clauses.{Ensures, AsksNothing}
use Rattle.block.specs.contracts.seal as seal-function
use Rattle.block.specs.contracts.check as check-function

-- what is passed is a.0, a.1.0 and so on, in the order of the parameters, and what is left of it t.0, t.1.0 and so on
module _ {M : Type 1} {𝓤 : Ura M} (𝓛 : Logic 𝓤) (mem : Memory → SProp 𝓤) (run : Routine → Fun 𝓤) where
  pub seal_contract : Ensures 𝓤 seal-function.ended (seal-function.clauses 𝓛 mem run) (λ κs a r t.
      (r ≡ seal_answer a.1.1.0.now a.1.1.1.0.now)
      × (t.1.1.1.0.now ≡ after_seal a.0 a.1.0 a.1.1.0.now a.1.1.1.0.now))
  seal_contract κs a r t g = refl

  pub check_contract : Ensures 𝓤 check-function.ended (check-function.clauses 𝓛 mem run) (λ κs a r t.
      r ≡ check_answer a.0.now)
  check_contract κs a r t g = refl

  pub seal_asks_nothing : AsksNothing 𝓤 seal-function.ended (seal-function.clauses 𝓛 mem run)
  seal_asks_nothing κs a g = refl

  pub check_asks_nothing : AsksNothing 𝓤 check-function.ended (check-function.clauses 𝓛 mem run)
  check_asks_nothing κs a g = refl
