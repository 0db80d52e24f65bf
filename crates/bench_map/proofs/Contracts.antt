-- The contracts of the benchmark's functions, of the functions themselves: what each ensures is the proposition that stands
-- here, by computation (`.._contract`), and it asks nothing of its caller (`.._asks_nothing`).
-- Assumes nothing.
use mathlib.Core.Path.{◌≡◌, refl}
use seplogic.Ra.Ura.{Ura}
use base.Logic.{SProp}
use contract.Monad.{Fun}
use types.Logic.{Logic}
use prog.Memory.{Memory}
use prog.Routine.{Routine}
use Rattle.block.proofs.Clauses.{Ensures, AsksNothing}
use Rattle.bench_map.specs.Answers.{within_limits, searched, surveyed}
use Rattle.bench_map.specs.contracts.within_limits as limits-function
use Rattle.bench_map.specs.contracts.map_bench_search as search-function
use Rattle.bench_map.specs.contracts.map_bench_survey as survey-function

-- what is passed is a.0, a.1.0 and so on, in the order of the parameters, and what is left of it t.0, t.1.0 and so on
module _ {M : Type 1} {𝓤 : Ura M} (𝓛 : Logic 𝓤) (mem : Memory → SProp 𝓤) (run : Routine → Fun 𝓤) where
  pub within_limits_contract : Ensures 𝓤 limits-function.ended (limits-function.clauses 𝓛 mem run)
      (λ κs a r t. r ≡ within_limits a.0.now a.1.0)
  within_limits_contract κs a r t g = refl

  pub map_bench_search_contract : Ensures 𝓤 search-function.ended (search-function.clauses 𝓛 mem run)
      (λ κs a r t. r ≡ searched a.0.now a.1.0 a.1.1.0)
  map_bench_search_contract κs a r t g = refl

  pub map_bench_survey_contract : Ensures 𝓤 survey-function.ended (survey-function.clauses 𝓛 mem run)
      (λ κs a r t. r ≡ surveyed a.0.now a.1.0)
  map_bench_survey_contract κs a r t g = refl

  pub within_limits_asks_nothing : AsksNothing 𝓤 limits-function.ended (limits-function.clauses 𝓛 mem run)
  within_limits_asks_nothing κs a g = refl

  pub map_bench_search_asks_nothing : AsksNothing 𝓤 search-function.ended (search-function.clauses 𝓛 mem run)
  map_bench_search_asks_nothing κs a g = refl

  pub map_bench_survey_asks_nothing : AsksNothing 𝓤 survey-function.ended (survey-function.clauses 𝓛 mem run)
  map_bench_survey_asks_nothing κs a g = refl
