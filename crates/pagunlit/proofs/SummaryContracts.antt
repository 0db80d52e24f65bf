-- The contracts of the C functions on a summary and of the calls that are lent one, as Contracts.antt beside this has those of
-- the others.
-- Assumes nothing.
use mathlib.Core.Path.{refl}
use mathlib.Core.List.{[]}
use seplogic.Ra.Ura.{Ura}
use base.Logic.{SProp}
use contract.Monad.{Fun}
use types.Logic.{Logic}
use prog.Memory.{Memory}
use prog.Routine.{Routine}
use Rattle.block.proofs.Clauses.{Ensures, AsksNothing}
use Rattle.pagunlit_replies.specs.Replies.{reply_of}
use Rattle.refusals.specs.Lent.{no_card}
use Rattle.refusals.specs.Placement.{plain, placed, figures}
use Rattle.refusals.specs.Table.{reserve, accept, grow, release}
use Rattle.card.specs.Calls.{kept}
use Rattle.card.specs.Ends.{beside}
use Rattle.card.specs.Leaves.{HandsBack, LeavesSummary, LeavesMapSummaryEntries, LeavesMapSummaryEntriesCard}
use Rattle.card.specs.Leaves.{LeavesMapSummaryEntriesCardScratch}
use Rattle.card.specs.Public.{on, close, build, check, by_map, by_summary, ends}
use Rattle.pagunlit.specs.contracts.with_summary.pagunlit_summary_build as summary-build-function
use Rattle.pagunlit.specs.contracts.with_summary.pagunlit_summary_check as summary-check-function
use Rattle.pagunlit.specs.contracts.with_summary.pagunlit_reserve_with_summary as reserve-with-summary-function
use Rattle.pagunlit.specs.contracts.with_summary.pagunlit_reserve_placed_with_summary as reserve-placed-with-summary-function
use Rattle.pagunlit.specs.contracts.with_summary.pagunlit_accept_with_summary as accept-with-summary-function
use Rattle.pagunlit.specs.contracts.with_summary.pagunlit_grow_with_summary as grow-with-summary-function
use Rattle.pagunlit.specs.contracts.with_summary.pagunlit_release_with_summary as release-with-summary-function
use Rattle.pagunlit.specs.contracts.with_summary.pagunlit_close_with_summary as close-with-summary-function

-- what is passed is a.0, a.1.0 and so on, in the order of the parameters, and what is left of it t.0, t.1.0 and so on
module _ {M : Type 1} {𝓤 : Ura M} (𝓛 : Logic 𝓤) (mem : Memory → SProp 𝓤) (run : Routine → Fun 𝓤) where
  pub pagunlit_summary_build_contract : Ensures 𝓤 summary-build-function.ended
      (summary-build-function.clauses 𝓛 mem run) (λ κs a r t.
      LeavesSummary reply_of (ends (by_map a.0) (kept a.1.0 a.1.1.0.now [] no_card) (beside a.1.1.1.0.now
      [] []) build) r t.1.1.1.0.now)
  pagunlit_summary_build_contract κs a r t g = refl

  pub pagunlit_summary_check_contract : Ensures 𝓤 summary-check-function.ended
      (summary-check-function.clauses 𝓛 mem run) (λ κs a r t.
      HandsBack reply_of (ends (by_map a.0) (kept a.1.0 a.1.1.0.now [] no_card) (beside a.1.1.1.0.now []
      []) check) r)
  pagunlit_summary_check_contract κs a r t g = refl

  pub pagunlit_reserve_with_summary_contract : Ensures 𝓤 reserve-with-summary-function.ended
      (reserve-with-summary-function.clauses 𝓛 mem run) (λ κs a r t.
      LeavesMapSummaryEntriesCard reply_of (ends (by_summary a.0) (kept a.1.0 a.1.1.0.now a.1.1.1.1.0.now a.1.1.1.1.1.0.now)
      (beside a.1.1.1.0.now [] []) (on a.1.1.1.1.1.1.1.0 (reserve a.1.1.1.1.1.1.0.now a.1.1.1.1.1.1.1.1.0 plain))) r t.1.1.0.now
      t.1.1.1.0.now
      t.1.1.1.1.0.now t.1.1.1.1.1.0.now)
  pagunlit_reserve_with_summary_contract κs a r t g = refl

  pub pagunlit_reserve_placed_with_summary_contract : Ensures 𝓤 reserve-placed-with-summary-function.ended
      (reserve-placed-with-summary-function.clauses 𝓛 mem run) (λ κs a r t.
      LeavesMapSummaryEntriesCard reply_of (ends (by_summary a.0) (kept a.1.0 a.1.1.0.now a.1.1.1.1.0.now a.1.1.1.1.1.0.now)
      (beside a.1.1.1.0.now [] []) (on a.1.1.1.1.1.1.1.0 (reserve a.1.1.1.1.1.1.0.now a.1.1.1.1.1.1.1.1.0
      (placed (figures a.1.1.1.1.1.1.1.1.1.0 a.1.1.1.1.1.1.1.1.1.1.0 a.1.1.1.1.1.1.1.1.1.1.1.0))))) r t.1.1.0.now t.1.1.1.0.now
      t.1.1.1.1.0.now t.1.1.1.1.1.0.now)
  pagunlit_reserve_placed_with_summary_contract κs a r t g = refl

  pub pagunlit_accept_with_summary_contract : Ensures 𝓤 accept-with-summary-function.ended
      (accept-with-summary-function.clauses 𝓛 mem run) (λ κs a r t.
      LeavesMapSummaryEntriesCard reply_of (ends (by_summary a.0) (kept a.1.0 a.1.1.0.now a.1.1.1.1.0.now a.1.1.1.1.1.0.now)
      (beside a.1.1.1.0.now [] []) (on a.1.1.1.1.1.1.1.0 (accept a.1.1.1.1.1.1.0.now a.1.1.1.1.1.1.1.1.0
      a.1.1.1.1.1.1.1.1.1.0))) r t.1.1.0.now
      t.1.1.1.0.now t.1.1.1.1.0.now t.1.1.1.1.1.0.now)
  pagunlit_accept_with_summary_contract κs a r t g = refl

  pub pagunlit_grow_with_summary_contract : Ensures 𝓤 grow-with-summary-function.ended
      (grow-with-summary-function.clauses 𝓛 mem run) (λ κs a r t.
      LeavesMapSummaryEntriesCard reply_of (ends (by_summary a.0) (kept a.1.0 a.1.1.0.now a.1.1.1.1.0.now a.1.1.1.1.1.0.now)
      (beside a.1.1.1.0.now [] []) (on a.1.1.1.1.1.1.1.0 (grow a.1.1.1.1.1.1.0.now a.1.1.1.1.1.1.1.1.0))) r t.1.1.0.now
      t.1.1.1.0.now
      t.1.1.1.1.0.now t.1.1.1.1.1.0.now)
  pagunlit_grow_with_summary_contract κs a r t g = refl

  pub pagunlit_release_with_summary_contract : Ensures 𝓤 release-with-summary-function.ended
      (release-with-summary-function.clauses 𝓛 mem run) (λ κs a r t.
      LeavesMapSummaryEntries reply_of (ends (by_summary a.0) (kept a.1.0 a.1.1.0.now a.1.1.1.1.0.now
      no_card) (beside a.1.1.1.0.now [] []) (on a.1.1.1.1.1.0 release)) r t.1.1.0.now
      t.1.1.1.0.now t.1.1.1.1.0.now)
  pagunlit_release_with_summary_contract κs a r t g = refl

  pub pagunlit_close_with_summary_contract : Ensures 𝓤 close-with-summary-function.ended
      (close-with-summary-function.clauses 𝓛 mem run) (λ κs a r t.
      LeavesMapSummaryEntriesCardScratch reply_of (ends (by_summary a.0)
      (kept a.1.0 a.1.1.0.now a.1.1.1.1.0.now a.1.1.1.1.1.0.now) (beside a.1.1.1.0.now a.1.1.1.1.1.1.0.now []) close) r
      t.1.1.0.now t.1.1.1.0.now t.1.1.1.1.0.now t.1.1.1.1.1.0.now
      t.1.1.1.1.1.1.0.now)
  pagunlit_close_with_summary_contract κs a r t g = refl

  pub pagunlit_summary_build_asks_nothing : AsksNothing 𝓤 summary-build-function.ended (summary-build-function.clauses 𝓛
      mem run)
  pagunlit_summary_build_asks_nothing κs a g = refl

  pub pagunlit_summary_check_asks_nothing : AsksNothing 𝓤 summary-check-function.ended (summary-check-function.clauses 𝓛
      mem run)
  pagunlit_summary_check_asks_nothing κs a g = refl

  pub pagunlit_reserve_with_summary_asks_nothing : AsksNothing 𝓤 reserve-with-summary-function.ended
      (reserve-with-summary-function.clauses 𝓛 mem run)
  pagunlit_reserve_with_summary_asks_nothing κs a g = refl

  pub pagunlit_reserve_placed_with_summary_asks_nothing : AsksNothing 𝓤 reserve-placed-with-summary-function.ended
      (reserve-placed-with-summary-function.clauses 𝓛 mem run)
  pagunlit_reserve_placed_with_summary_asks_nothing κs a g = refl

  pub pagunlit_accept_with_summary_asks_nothing : AsksNothing 𝓤 accept-with-summary-function.ended
      (accept-with-summary-function.clauses 𝓛 mem run)
  pagunlit_accept_with_summary_asks_nothing κs a g = refl

  pub pagunlit_grow_with_summary_asks_nothing : AsksNothing 𝓤 grow-with-summary-function.ended
      (grow-with-summary-function.clauses 𝓛 mem run)
  pagunlit_grow_with_summary_asks_nothing κs a g = refl

  pub pagunlit_release_with_summary_asks_nothing : AsksNothing 𝓤 release-with-summary-function.ended
      (release-with-summary-function.clauses 𝓛 mem run)
  pagunlit_release_with_summary_asks_nothing κs a g = refl

  pub pagunlit_close_with_summary_asks_nothing : AsksNothing 𝓤 close-with-summary-function.ended
      (close-with-summary-function.clauses 𝓛 mem run)
  pagunlit_close_with_summary_asks_nothing κs a g = refl
