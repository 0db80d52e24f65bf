-- The contracts of the public methods of `Shape`, of the methods themselves: what each ensures is the proposition that stands
-- here, by computation (`.._contract`), and it asks nothing of its caller (`.._asks_nothing`). So a clause of the source that
-- is made weaker, or one that asks something, is refused here. That each method meets its contract is what the check of this
-- crate shows.
-- Assumes nothing.
use mathlib.Core.Path.{◌≡◌, refl}
use mathlib.Core.Bool.{true}
use mathlib.Core.List.{[]}
use seplogic.Ra.Ura.{Ura}
use base.Logic.{SProp}
use contract.Monad.{Fun}
use types.Logic.{Logic}
use prog.Memory.{Memory}
use prog.Routine.{Routine}
use Rattle.block.proofs.Clauses.{Ensures, AsksNothing}
use Rattle.calendar.specs.Calendar.{date_of}
use Rattle.refusals.specs.Lent.{no_card}
use Rattle.refusals.specs.Placement.{plain, placed, figures}
use Rattle.refusals.specs.Table.{reserve, offer, accept, grow, put, complete, change, pause, resume, release, show, show_dated}
use Rattle.refusals.specs.Table.{standing}
use Rattle.card.specs.Calls.{kept}
use Rattle.card.specs.Ends.{nothing, beside}
use Rattle.card.specs.Leaves.{itself, HandsBack, LeavesCard, LeavesEntries, LeavesBuffer, LeavesMapEntries}
use Rattle.card.specs.Leaves.{LeavesMapEntriesCard, LeavesScratchImage, LeavesMapEntriesScratch}
use Rattle.card.specs.Leaves.{LeavesMapEntriesCardScratch}
use Rattle.card.specs.Public.{on, fresh, search, survey, save, load, close, by_map, ends}
use Rattle.card.specs.contracts.Shape.constants_hold as constants-hold-method
use Rattle.card.specs.contracts.Shape.fresh as fresh-method
use Rattle.card.specs.contracts.Shape.search as search-method
use Rattle.card.specs.contracts.Shape.survey as survey-method
use Rattle.card.specs.contracts.Shape.reserve as reserve-method
use Rattle.card.specs.contracts.Shape.reserve_placed as reserve-placed-method
use Rattle.card.specs.contracts.Shape.offer as offer-method
use Rattle.card.specs.contracts.Shape.accept as accept-method
use Rattle.card.specs.contracts.Shape.grow as grow-method
use Rattle.card.specs.contracts.Shape.put as put-method
use Rattle.card.specs.contracts.Shape.complete as complete-method
use Rattle.card.specs.contracts.Shape.pause as pause-method
use Rattle.card.specs.contracts.Shape.resume as resume-method
use Rattle.card.specs.contracts.Shape.release as release-method
use Rattle.card.specs.contracts.Shape.show as show-method
use Rattle.card.specs.contracts.Shape.show_dated as show-dated-method
use Rattle.card.specs.contracts.Shape.standing as standing-method
use Rattle.card.specs.contracts.Shape.save as save-method
use Rattle.card.specs.contracts.Shape.close as close-method
use Rattle.card.specs.contracts.Shape.load as load-method

-- what is passed is a.0, a.1.0 and so on, in the order of the parameters, and what is left of it t.0, t.1.0 and so on
module _ {M : Type 1} {𝓤 : Ura M} (𝓛 : Logic 𝓤) (mem : Memory → SProp 𝓤) (run : Routine → Fun 𝓤) where
  pub constants_hold_contract : Ensures 𝓤 constants-hold-method.ended (constants-hold-method.clauses 𝓛 mem run) (λ κs a r t.
      r ≡ true)
  constants_hold_contract κs a r t g = refl

  pub fresh_contract : Ensures 𝓤 fresh-method.ended (fresh-method.clauses 𝓛 mem run) (λ κs a r t.
      LeavesMapEntries itself (ends (by_map a.1.0) (kept a.0 a.1.1.1.0.now a.1.1.1.1.0.now no_card)
      nothing (fresh a.1.1.0)) r t.1.1.1.0.now t.1.1.1.1.0.now)
  fresh_contract κs a r t g = refl

  pub search_contract : Ensures 𝓤 search-method.ended (search-method.clauses 𝓛 mem run) (λ κs a r t.
      HandsBack itself (ends (by_map a.1.0) (kept a.0 a.1.1.0.now [] no_card) nothing (search a.1.1.1.0))
      r)
  search_contract κs a r t g = refl

  pub survey_contract : Ensures 𝓤 survey-method.ended (survey-method.clauses 𝓛 mem run) (λ κs a r t.
      HandsBack itself (ends (by_map a.1.0) (kept a.0 a.1.1.0.now [] no_card) nothing survey) r)
  survey_contract κs a r t g = refl

  pub reserve_contract : Ensures 𝓤 reserve-method.ended (reserve-method.clauses 𝓛 mem run) (λ κs a r t.
      LeavesMapEntriesCard itself (ends (by_map a.1.0) (kept a.0 a.1.1.0.now a.1.1.1.0.now a.1.1.1.1.0.now) nothing
      (on a.1.1.1.1.1.1.0 (reserve a.1.1.1.1.1.0.now a.1.1.1.1.1.1.1.0
      plain))) r t.1.1.0.now t.1.1.1.0.now t.1.1.1.1.0.now)
  reserve_contract κs a r t g = refl

  pub reserve_placed_contract : Ensures 𝓤 reserve-placed-method.ended
      (reserve-placed-method.clauses 𝓛 mem run) (λ κs a r t.
      LeavesMapEntriesCard itself (ends (by_map a.1.0) (kept a.0 a.1.1.0.now a.1.1.1.0.now a.1.1.1.1.0.now) nothing
      (on a.1.1.1.1.1.1.0 (reserve a.1.1.1.1.1.0.now a.1.1.1.1.1.1.1.0
      (placed (figures a.1.1.1.1.1.1.1.1.0 a.1.1.1.1.1.1.1.1.1.0 a.1.1.1.1.1.1.1.1.1.1.0))))) r t.1.1.0.now t.1.1.1.0.now
      t.1.1.1.1.0.now)
  reserve_placed_contract κs a r t g = refl

  pub offer_contract : Ensures 𝓤 offer-method.ended (offer-method.clauses 𝓛 mem run) (λ κs a r t.
      HandsBack itself (ends (by_map a.1.0) (kept a.0 a.1.1.0.now a.1.1.1.0.now a.1.1.1.1.0.now) nothing
      (on a.1.1.1.1.1.1.0 (offer a.1.1.1.1.1.0.now a.1.1.1.1.1.1.1.0))) r)
  offer_contract κs a r t g = refl

  pub accept_contract : Ensures 𝓤 accept-method.ended (accept-method.clauses 𝓛 mem run) (λ κs a r t.
      LeavesMapEntriesCard itself (ends (by_map a.1.0) (kept a.0 a.1.1.0.now a.1.1.1.0.now a.1.1.1.1.0.now) nothing
      (on a.1.1.1.1.1.1.0 (accept a.1.1.1.1.1.0.now a.1.1.1.1.1.1.1.0 a.1.1.1.1.1.1.1.1.0))) r t.1.1.0.now t.1.1.1.0.now
      t.1.1.1.1.0.now)
  accept_contract κs a r t g = refl

  pub grow_contract : Ensures 𝓤 grow-method.ended (grow-method.clauses 𝓛 mem run) (λ κs a r t.
      LeavesMapEntriesCard itself (ends (by_map a.1.0) (kept a.0 a.1.1.0.now a.1.1.1.0.now a.1.1.1.1.0.now) nothing
      (on a.1.1.1.1.1.1.0 (grow a.1.1.1.1.1.0.now a.1.1.1.1.1.1.1.0))) r
      t.1.1.0.now t.1.1.1.0.now t.1.1.1.1.0.now)
  grow_contract κs a r t g = refl

  pub put_contract : Ensures 𝓤 put-method.ended (put-method.clauses 𝓛 mem run) (λ κs a r t.
      LeavesCard itself (ends (by_map a.1.0) (kept a.0 a.1.1.0.now a.1.1.1.0.now a.1.1.1.1.0.now) nothing
      (on a.1.1.1.1.1.0 (put a.1.1.1.1.1.1.0 a.1.1.1.1.1.1.1.0.now))) r
      t.1.1.1.1.0.now)
  put_contract κs a r t g = refl

  pub complete_contract : Ensures 𝓤 complete-method.ended (complete-method.clauses 𝓛 mem run) (λ κs a r t.
      LeavesEntries itself (ends (by_map a.1.0) (kept a.0 a.1.1.0.now a.1.1.1.0.now a.1.1.1.1.0.now) nothing
      (on a.1.1.1.1.1.0 complete)) r t.1.1.1.0.now)
  complete_contract κs a r t g = refl

  pub pause_contract : Ensures 𝓤 pause-method.ended (pause-method.clauses 𝓛 mem run) (λ κs a r t.
      LeavesEntries itself (ends (by_map a.1.0) (kept a.0 a.1.1.0.now a.1.1.1.0.now no_card) nothing (on
      a.1.1.1.1.0 (change pause))) r t.1.1.1.0.now)
  pause_contract κs a r t g = refl

  pub resume_contract : Ensures 𝓤 resume-method.ended (resume-method.clauses 𝓛 mem run) (λ κs a r t.
      LeavesEntries itself (ends (by_map a.1.0) (kept a.0 a.1.1.0.now a.1.1.1.0.now no_card) nothing (on
      a.1.1.1.1.0 (change resume))) r t.1.1.1.0.now)
  resume_contract κs a r t g = refl

  pub release_contract : Ensures 𝓤 release-method.ended (release-method.clauses 𝓛 mem run) (λ κs a r t.
      LeavesMapEntries itself (ends (by_map a.1.0) (kept a.0 a.1.1.0.now a.1.1.1.0.now no_card) nothing
      (on a.1.1.1.1.0 release)) r t.1.1.0.now t.1.1.1.0.now)
  release_contract κs a r t g = refl

  pub show_contract : Ensures 𝓤 show-method.ended (show-method.clauses 𝓛 mem run) (λ κs a r t.
      LeavesBuffer itself (ends (by_map a.1.0) (kept a.0 a.1.1.0.now a.1.1.1.0.now a.1.1.1.1.0.now) nothing
      (on a.1.1.1.1.1.0 (show a.1.1.1.1.1.1.0 a.1.1.1.1.1.1.1.0.now))) r
      t.1.1.1.1.1.1.1.0.now)
  show_contract κs a r t g = refl

  pub show_dated_contract : Ensures 𝓤 show-dated-method.ended (show-dated-method.clauses 𝓛 mem run) (λ κs a r t.
      LeavesBuffer itself (ends (by_map a.1.0) (kept a.0 a.1.1.0.now a.1.1.1.0.now a.1.1.1.1.0.now) nothing
      (on a.1.1.1.1.1.0 (show_dated a.1.1.1.1.1.1.0 (date_of a.1.1.1.1.1.1.1.0 a.1.1.1.1.1.1.1.1.0 a.1.1.1.1.1.1.1.1.1.0)
      a.1.1.1.1.1.1.1.1.1.1.0.now))) r
      t.1.1.1.1.1.1.1.1.1.1.0.now)
  show_dated_contract κs a r t g = refl

  pub standing_contract : Ensures 𝓤 standing-method.ended (standing-method.clauses 𝓛 mem run) (λ κs a r t.
      HandsBack itself (ends (by_map a.1.0) (kept a.0 a.1.1.0.now a.1.1.1.0.now no_card) nothing (on a.1.1.1.1.0 standing)) r)
  standing_contract κs a r t g = refl

  pub save_contract : Ensures 𝓤 save-method.ended (save-method.clauses 𝓛 mem run) (λ κs a r t.
      LeavesScratchImage itself (ends (by_map a.1.0) (kept a.0 a.1.1.0.now a.1.1.1.0.now no_card)
      (beside [] a.1.1.1.1.0.now a.1.1.1.1.1.0.now) save) r t.1.1.1.1.0.now
      t.1.1.1.1.1.0.now)
  save_contract κs a r t g = refl

  pub close_contract : Ensures 𝓤 close-method.ended (close-method.clauses 𝓛 mem run) (λ κs a r t.
      LeavesMapEntriesCardScratch itself (ends (by_map a.1.0) (kept a.0 a.1.1.0.now a.1.1.1.0.now a.1.1.1.1.0.now)
      (beside [] a.1.1.1.1.1.0.now []) close) r t.1.1.0.now t.1.1.1.0.now
      t.1.1.1.1.0.now t.1.1.1.1.1.0.now)
  close_contract κs a r t g = refl

  pub load_contract : Ensures 𝓤 load-method.ended (load-method.clauses 𝓛 mem run) (λ κs a r t.
      LeavesMapEntriesScratch itself (ends (by_map a.1.0) (kept a.0 a.1.1.1.0.now a.1.1.1.1.0.now
      no_card) (beside [] a.1.1.1.1.1.0.now []) (load a.1.1.0.now)) r t.1.1.1.0.now
      t.1.1.1.1.0.now t.1.1.1.1.1.0.now)
  load_contract κs a r t g = refl

  pub constants_hold_asks_nothing : AsksNothing 𝓤 constants-hold-method.ended (constants-hold-method.clauses 𝓛 mem run)
  constants_hold_asks_nothing κs a g = refl

  pub fresh_asks_nothing : AsksNothing 𝓤 fresh-method.ended (fresh-method.clauses 𝓛 mem run)
  fresh_asks_nothing κs a g = refl

  pub search_asks_nothing : AsksNothing 𝓤 search-method.ended (search-method.clauses 𝓛 mem run)
  search_asks_nothing κs a g = refl

  pub survey_asks_nothing : AsksNothing 𝓤 survey-method.ended (survey-method.clauses 𝓛 mem run)
  survey_asks_nothing κs a g = refl

  pub reserve_asks_nothing : AsksNothing 𝓤 reserve-method.ended (reserve-method.clauses 𝓛 mem run)
  reserve_asks_nothing κs a g = refl

  pub reserve_placed_asks_nothing : AsksNothing 𝓤 reserve-placed-method.ended
      (reserve-placed-method.clauses 𝓛 mem run)
  reserve_placed_asks_nothing κs a g = refl

  pub offer_asks_nothing : AsksNothing 𝓤 offer-method.ended (offer-method.clauses 𝓛 mem run)
  offer_asks_nothing κs a g = refl

  pub accept_asks_nothing : AsksNothing 𝓤 accept-method.ended (accept-method.clauses 𝓛 mem run)
  accept_asks_nothing κs a g = refl

  pub grow_asks_nothing : AsksNothing 𝓤 grow-method.ended (grow-method.clauses 𝓛 mem run)
  grow_asks_nothing κs a g = refl

  pub put_asks_nothing : AsksNothing 𝓤 put-method.ended (put-method.clauses 𝓛 mem run)
  put_asks_nothing κs a g = refl

  pub complete_asks_nothing : AsksNothing 𝓤 complete-method.ended (complete-method.clauses 𝓛 mem run)
  complete_asks_nothing κs a g = refl

  pub pause_asks_nothing : AsksNothing 𝓤 pause-method.ended (pause-method.clauses 𝓛 mem run)
  pause_asks_nothing κs a g = refl

  pub resume_asks_nothing : AsksNothing 𝓤 resume-method.ended (resume-method.clauses 𝓛 mem run)
  resume_asks_nothing κs a g = refl

  pub release_asks_nothing : AsksNothing 𝓤 release-method.ended (release-method.clauses 𝓛 mem run)
  release_asks_nothing κs a g = refl

  pub show_asks_nothing : AsksNothing 𝓤 show-method.ended (show-method.clauses 𝓛 mem run)
  show_asks_nothing κs a g = refl

  pub show_dated_asks_nothing : AsksNothing 𝓤 show-dated-method.ended (show-dated-method.clauses 𝓛 mem run)
  show_dated_asks_nothing κs a g = refl

  pub standing_asks_nothing : AsksNothing 𝓤 standing-method.ended (standing-method.clauses 𝓛 mem run)
  standing_asks_nothing κs a g = refl

  pub save_asks_nothing : AsksNothing 𝓤 save-method.ended (save-method.clauses 𝓛 mem run)
  save_asks_nothing κs a g = refl

  pub close_asks_nothing : AsksNothing 𝓤 close-method.ended (close-method.clauses 𝓛 mem run)
  close_asks_nothing κs a g = refl

  pub load_asks_nothing : AsksNothing 𝓤 load-method.ended (load-method.clauses 𝓛 mem run)
  load_asks_nothing κs a g = refl
