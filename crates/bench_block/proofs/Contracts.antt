-- The contracts of the benchmark's functions, of the functions themselves: what each ensures is the proposition that stands
-- here, by computation (`.._contract`), and it asks nothing of its caller (`.._asks_nothing`).
-- Assumes nothing.
use mathlib.Core.Path.{◌≡◌, refl}
use mathlib.Core.Bool.{cond}
use Prim.Native.Nat.{◌+◌, ◌*◌}
use lib.Dec.{leb}
use lib.ListN.{length}
use seplogic.Ra.Ura.{Ura}
use base.Logic.{SProp}
use contract.Monad.{Fun}
use types.Logic.{Logic}
use prog.Memory.{Memory}
use prog.Routine.{Routine}
use Rattle.block.proofs.Clauses.{Ensures, AsksNothing}
use Rattle.block_seals.specs.Sealed.{blank}
use Rattle.blocks_of_card.specs.Card.{block_of, zeroed}
use Rattle.bench_block.specs.contracts.bench_zero_blocks as zero-function
use Rattle.bench_block.specs.contracts.bench_blank_block as blank-block-function

-- what is passed is a.0, a.1.0 and so on, in the order of the parameters, and what is left of it t.0, t.1.0 and so on
module _ {M : Type 1} {𝓤 : Ura M} (𝓛 : Logic 𝓤) (mem : Memory → SProp 𝓤) (run : Routine → Fun 𝓤) where
  pub bench_zero_blocks_contract : Ensures 𝓤 zero-function.ended (zero-function.clauses 𝓛 mem run)
      (λ κs a r t. (r ≡ cond (leb (512 * (a.1.0 + a.1.1.0)) (length a.0.now)) 0 3)
      × (t.0.now ≡ cond (leb (512 * (a.1.0 + a.1.1.0)) (length a.0.now))
      (zeroed a.0.now a.1.0 a.1.1.0) a.0.now))
  bench_zero_blocks_contract κs a r t g = refl

  pub bench_blank_block_contract : Ensures 𝓤 blank-block-function.ended (blank-block-function.clauses 𝓛 mem run)
      (λ κs a r t. r ≡ cond (leb (512 * a.1.0 + 512) (length a.0.now))
      (cond (blank (block_of a.0.now a.1.0)) 1 0) 3)
  bench_blank_block_contract κs a r t g = refl

  pub bench_zero_blocks_asks_nothing : AsksNothing 𝓤 zero-function.ended (zero-function.clauses 𝓛 mem run)
  bench_zero_blocks_asks_nothing κs a g = refl

  pub bench_blank_block_asks_nothing : AsksNothing 𝓤 blank-block-function.ended (blank-block-function.clauses 𝓛 mem run)
  bench_blank_block_asks_nothing κs a g = refl
