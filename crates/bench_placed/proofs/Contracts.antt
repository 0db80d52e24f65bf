-- The contract of the benchmark's function, of the function itself: what it ensures is the proposition that stands
-- here, by computation (`.._contract`), and it asks nothing of its caller (`.._asks_nothing`).
-- Assumes nothing.
use mathlib.Core.Path.{◌≡◌, refl}
use seplogic.Ra.Ura.{Ura}
use base.Logic.{SProp}
use contract.Monad.{Fun}
use types.Logic.{Logic}
use prog.Memory.{Memory}
use prog.Routine.{Routine}
use Rattle.block.proofs.Clauses.{Ensures, AsksNothing}
use Rattle.bench_placed.specs.Answers.{placed_searched}
use Rattle.bench_placed.specs.contracts.map_bench_search_placed as placed-function

-- what is passed is a.0, a.1.0 and so on, in the order of the parameters, and what is left of it t.0, t.1.0 and so on
module _ {M : Type 1} {𝓤 : Ura M} (𝓛 : Logic 𝓤) (mem : Memory → SProp 𝓤) (run : Routine → Fun 𝓤) where
  pub map_bench_search_placed_contract : Ensures 𝓤 placed-function.ended (placed-function.clauses 𝓛 mem run)
      (λ κs a r t. r ≡ placed_searched a.0.now a.1.0 a.1.1.0 a.1.1.1.0 a.1.1.1.1.0
      a.1.1.1.1.1.0)
  map_bench_search_placed_contract κs a r t g = refl

  pub map_bench_search_placed_asks_nothing : AsksNothing 𝓤 placed-function.ended (placed-function.clauses 𝓛 mem run)
  map_bench_search_placed_asks_nothing κs a g = refl
