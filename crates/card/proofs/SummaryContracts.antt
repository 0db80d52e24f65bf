-- The contracts of the calls on a summary and of those that are lent one, as Contracts.antt beside this has those of the
-- others.
-- Assumes nothing.
use mathlib.Core.Path.{refl}
use mathlib.Core.List.{[]}
use seplogic.Ra.Ura.{Ura}
use base.Logic.{SProp}
use contract.Monad.{Fun}
use types.Logic.{Logic}
use prog.Memory.{Memory}
use prog.Routine.{Routine}
use Rattle.block.proofs.Clauses.{Ensures, AsksNothing}
use Rattle.refusals.specs.Lent.{no_card}
use Rattle.refusals.specs.Placement.{plain, placed, figures}
use Rattle.refusals.specs.Table.{reserve, accept, grow, release}
use Rattle.card.specs.Calls.{kept}
use Rattle.card.specs.Ends.{beside}
use Rattle.card.specs.Leaves.{itself, HandsBack, LeavesSummary, LeavesMapSummaryEntries, LeavesMapSummaryEntriesCard}
use Rattle.card.specs.Leaves.{LeavesMapSummaryEntriesCardScratch}
use Rattle.card.specs.Public.{on, close, build, check, by_map, by_summary, ends}
use Rattle.card.specs.contracts.Shape.summary_build as summary-build-method
use Rattle.card.specs.contracts.Shape.summary_check as summary-check-method
use Rattle.card.specs.contracts.Shape.reserve_with_summary as reserve-with-summary-method
use Rattle.card.specs.contracts.Shape.reserve_placed_with_summary as reserve-placed-with-summary-method
use Rattle.card.specs.contracts.Shape.accept_with_summary as accept-with-summary-method
use Rattle.card.specs.contracts.Shape.grow_with_summary as grow-with-summary-method
use Rattle.card.specs.contracts.Shape.release_with_summary as release-with-summary-method
use Rattle.card.specs.contracts.Shape.close_with_summary as close-with-summary-method

module _ {M : Type 1} {𝓤 : Ura M} (𝓛 : Logic 𝓤) (mem : Memory → SProp 𝓤) (run : Routine → Fun 𝓤) where
  pub summary_build_contract : Ensures 𝓤 summary-build-method.ended (summary-build-method.clauses 𝓛 mem run) (λ κs a r t.
      LeavesSummary itself (ends (by_map a.1.0) (kept a.0 a.1.1.0.now [] no_card) (beside a.1.1.1.0.now
      [] []) build) r t.1.1.1.0.now)
  summary_build_contract κs a r t g = refl

  pub summary_check_contract : Ensures 𝓤 summary-check-method.ended (summary-check-method.clauses 𝓛 mem run) (λ κs a r t.
      HandsBack itself (ends (by_map a.1.0) (kept a.0 a.1.1.0.now [] no_card) (beside a.1.1.1.0.now []
      []) check) r)
  summary_check_contract κs a r t g = refl

  pub reserve_with_summary_contract : Ensures 𝓤 reserve-with-summary-method.ended
      (reserve-with-summary-method.clauses 𝓛 mem run) (λ κs a r t.
      LeavesMapSummaryEntriesCard itself (ends (by_summary a.1.0) (kept a.0 a.1.1.0.now a.1.1.1.1.0.now a.1.1.1.1.1.0.now)
      (beside a.1.1.1.0.now [] []) (on a.1.1.1.1.1.1.1.0 (reserve a.1.1.1.1.1.1.0.now a.1.1.1.1.1.1.1.1.0 plain))) r t.1.1.0.now
      t.1.1.1.0.now
      t.1.1.1.1.0.now t.1.1.1.1.1.0.now)
  reserve_with_summary_contract κs a r t g = refl

  pub reserve_placed_with_summary_contract : Ensures 𝓤 reserve-placed-with-summary-method.ended
      (reserve-placed-with-summary-method.clauses 𝓛 mem run) (λ κs a r t.
      LeavesMapSummaryEntriesCard itself (ends (by_summary a.1.0) (kept a.0 a.1.1.0.now a.1.1.1.1.0.now a.1.1.1.1.1.0.now)
      (beside a.1.1.1.0.now [] []) (on a.1.1.1.1.1.1.1.0 (reserve a.1.1.1.1.1.1.0.now a.1.1.1.1.1.1.1.1.0
      (placed (figures a.1.1.1.1.1.1.1.1.1.0 a.1.1.1.1.1.1.1.1.1.1.0 a.1.1.1.1.1.1.1.1.1.1.1.0))))) r t.1.1.0.now t.1.1.1.0.now
      t.1.1.1.1.0.now t.1.1.1.1.1.0.now)
  reserve_placed_with_summary_contract κs a r t g = refl

  pub accept_with_summary_contract : Ensures 𝓤 accept-with-summary-method.ended
      (accept-with-summary-method.clauses 𝓛 mem run) (λ κs a r t.
      LeavesMapSummaryEntriesCard itself (ends (by_summary a.1.0) (kept a.0 a.1.1.0.now a.1.1.1.1.0.now a.1.1.1.1.1.0.now)
      (beside a.1.1.1.0.now [] []) (on a.1.1.1.1.1.1.1.0 (accept a.1.1.1.1.1.1.0.now a.1.1.1.1.1.1.1.1.0
      a.1.1.1.1.1.1.1.1.1.0))) r t.1.1.0.now
      t.1.1.1.0.now t.1.1.1.1.0.now t.1.1.1.1.1.0.now)
  accept_with_summary_contract κs a r t g = refl

  pub grow_with_summary_contract : Ensures 𝓤 grow-with-summary-method.ended
      (grow-with-summary-method.clauses 𝓛 mem run) (λ κs a r t.
      LeavesMapSummaryEntriesCard itself (ends (by_summary a.1.0) (kept a.0 a.1.1.0.now a.1.1.1.1.0.now a.1.1.1.1.1.0.now)
      (beside a.1.1.1.0.now [] []) (on a.1.1.1.1.1.1.1.0 (grow a.1.1.1.1.1.1.0.now a.1.1.1.1.1.1.1.1.0))) r t.1.1.0.now
      t.1.1.1.0.now
      t.1.1.1.1.0.now t.1.1.1.1.1.0.now)
  grow_with_summary_contract κs a r t g = refl

  pub release_with_summary_contract : Ensures 𝓤 release-with-summary-method.ended
      (release-with-summary-method.clauses 𝓛 mem run) (λ κs a r t.
      LeavesMapSummaryEntries itself (ends (by_summary a.1.0) (kept a.0 a.1.1.0.now a.1.1.1.1.0.now
      no_card) (beside a.1.1.1.0.now [] []) (on a.1.1.1.1.1.0 release)) r t.1.1.0.now
      t.1.1.1.0.now t.1.1.1.1.0.now)
  release_with_summary_contract κs a r t g = refl

  pub summary_build_asks_nothing : AsksNothing 𝓤 summary-build-method.ended (summary-build-method.clauses 𝓛 mem run)
  summary_build_asks_nothing κs a g = refl

  pub summary_check_asks_nothing : AsksNothing 𝓤 summary-check-method.ended (summary-check-method.clauses 𝓛 mem run)
  summary_check_asks_nothing κs a g = refl

  pub reserve_with_summary_asks_nothing : AsksNothing 𝓤 reserve-with-summary-method.ended
      (reserve-with-summary-method.clauses 𝓛 mem run)
  reserve_with_summary_asks_nothing κs a g = refl

  pub reserve_placed_with_summary_asks_nothing : AsksNothing 𝓤 reserve-placed-with-summary-method.ended
      (reserve-placed-with-summary-method.clauses 𝓛 mem run)
  reserve_placed_with_summary_asks_nothing κs a g = refl

  pub accept_with_summary_asks_nothing : AsksNothing 𝓤 accept-with-summary-method.ended
      (accept-with-summary-method.clauses 𝓛 mem run)
  accept_with_summary_asks_nothing κs a g = refl

  pub grow_with_summary_asks_nothing : AsksNothing 𝓤 grow-with-summary-method.ended
      (grow-with-summary-method.clauses 𝓛 mem run)
  grow_with_summary_asks_nothing κs a g = refl

  pub release_with_summary_asks_nothing : AsksNothing 𝓤 release-with-summary-method.ended
      (release-with-summary-method.clauses 𝓛 mem run)
  release_with_summary_asks_nothing κs a g = refl

  pub close_with_summary_contract : Ensures 𝓤 close-with-summary-method.ended
      (close-with-summary-method.clauses 𝓛 mem run) (λ κs a r t.
      LeavesMapSummaryEntriesCardScratch itself (ends (by_summary a.1.0)
      (kept a.0 a.1.1.0.now a.1.1.1.1.0.now a.1.1.1.1.1.0.now) (beside a.1.1.1.0.now a.1.1.1.1.1.1.0.now []) close) r
      t.1.1.0.now t.1.1.1.0.now t.1.1.1.1.0.now t.1.1.1.1.1.0.now
      t.1.1.1.1.1.1.0.now)
  close_with_summary_contract κs a r t g = refl

  pub close_with_summary_asks_nothing : AsksNothing 𝓤 close-with-summary-method.ended
      (close-with-summary-method.clauses 𝓛 mem run)
  close_with_summary_asks_nothing κs a g = refl
