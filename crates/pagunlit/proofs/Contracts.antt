-- The contracts of the C library, of its functions themselves: what each ensures is the proposition that stands here, by
-- computation (`.._contract`), and it asks nothing of its caller (`.._asks_nothing`). So a clause of the source that is made
-- weaker, or one that asks something, is refused here. A call ensures what the public call of its name
-- (crate card) does, with `reply_of` of the outcome for its reply; seal and check ensure what those of the crate block
-- do.
-- Assumes nothing.
use mathlib.Core.Path.{◌≡◌, refl}
use mathlib.Core.List.{[]}
use seplogic.Ra.Ura.{Ura}
use base.Logic.{SProp}
use contract.Monad.{Fun}
use types.Logic.{Logic}
use prog.Memory.{Memory}
use prog.Routine.{Routine}
use Rattle.block.specs.Calls.{seal_answer, after_seal, check_answer}
use Rattle.calendar.specs.Term.{term_answer, with_term}
use Rattle.counts.specs.Counts.{read_of, write_answer, after_write}
use Rattle.counts.specs.Replies.{count_reply, count_from}
use Rattle.block.proofs.Clauses.{Ensures, AsksNothing}
use Rattle.pagunlit_replies.specs.Replies.{reply_of}
use Rattle.calendar.specs.Calendar.{date_of}
use Rattle.refusals.specs.Lent.{no_card}
use Rattle.refusals.specs.Placement.{plain, placed, figures}
use Rattle.refusals.specs.Table.{reserve, offer, accept, grow, put, complete, change, pause, resume, release, show, show_dated}
use Rattle.refusals.specs.Table.{standing}
use Rattle.card.specs.Calls.{kept}
use Rattle.card.specs.Ends.{nothing, beside}
use Rattle.card.specs.Leaves.{HandsBack, LeavesCard, LeavesEntries, LeavesBuffer, LeavesMapEntries, LeavesMapEntriesCard}
use Rattle.card.specs.Leaves.{LeavesScratchImage, LeavesMapEntriesScratch, LeavesMapEntriesCardScratch}
use Rattle.card.specs.Public.{on, fresh, search, survey, save, load, close, by_map, ends}
use Rattle.pagunlit.specs.contracts.pagunlit_fresh as fresh-function
use Rattle.pagunlit.specs.contracts.pagunlit_search as search-function
use Rattle.pagunlit.specs.contracts.pagunlit_survey as survey-function
use Rattle.pagunlit.specs.contracts.pagunlit_reserve as reserve-function
use Rattle.pagunlit.specs.contracts.pagunlit_reserve_placed as reserve-placed-function
use Rattle.pagunlit.specs.contracts.pagunlit_offer as offer-function
use Rattle.pagunlit.specs.contracts.pagunlit_accept as accept-function
use Rattle.pagunlit.specs.contracts.pagunlit_grow as grow-function
use Rattle.pagunlit.specs.contracts.pagunlit_put as put_function
use Rattle.pagunlit.specs.contracts.pagunlit_complete as complete-function
use Rattle.pagunlit.specs.contracts.pagunlit_pause as pause-function
use Rattle.pagunlit.specs.contracts.pagunlit_resume as resume-function
use Rattle.pagunlit.specs.contracts.pagunlit_release as release-function
use Rattle.pagunlit.specs.contracts.pagunlit_show as show-function
use Rattle.pagunlit.specs.contracts.dated.pagunlit_show_dated as show-dated-function
use Rattle.pagunlit.specs.contracts.pagunlit_standing as standing-function
use Rattle.pagunlit.specs.contracts.pagunlit_save as save-function
use Rattle.pagunlit.specs.contracts.pagunlit_close as close-function
use Rattle.pagunlit.specs.contracts.pagunlit_load as load-function
use Rattle.pagunlit.specs.contracts.pagunlit_read_count as read-count-function
use Rattle.pagunlit.specs.contracts.pagunlit_write_count as write-count-function
use Rattle.pagunlit.specs.contracts.pagunlit_write_term as write-term-function
use Rattle.pagunlit.specs.contracts.seal as seal-function
use Rattle.pagunlit.specs.contracts.check as check-function

-- what is passed is a.0, a.1.0 and so on, in the order of the parameters, and what is left of it t.0, t.1.0 and so on
module _ {M : Type 1} {𝓤 : Ura M} (𝓛 : Logic 𝓤) (mem : Memory → SProp 𝓤) (run : Routine → Fun 𝓤) where
  pub pagunlit_fresh_contract : Ensures 𝓤 fresh-function.ended (fresh-function.clauses 𝓛 mem run) (λ κs a r t.
      LeavesMapEntries reply_of (ends (by_map a.0) (kept a.1.0 a.1.1.1.0.now a.1.1.1.1.0.now no_card)
      nothing (fresh a.1.1.0)) r t.1.1.1.0.now t.1.1.1.1.0.now)
  pagunlit_fresh_contract κs a r t g = refl

  pub pagunlit_search_contract : Ensures 𝓤 search-function.ended (search-function.clauses 𝓛 mem run) (λ κs a r t.
      HandsBack reply_of (ends (by_map a.0) (kept a.1.0 a.1.1.0.now [] no_card) nothing (search a.1.1.1.0))
      r)
  pagunlit_search_contract κs a r t g = refl

  pub pagunlit_survey_contract : Ensures 𝓤 survey-function.ended (survey-function.clauses 𝓛 mem run) (λ κs a r t.
      HandsBack reply_of (ends (by_map a.0) (kept a.1.0 a.1.1.0.now [] no_card) nothing survey) r)
  pagunlit_survey_contract κs a r t g = refl

  pub pagunlit_reserve_contract : Ensures 𝓤 reserve-function.ended (reserve-function.clauses 𝓛 mem run) (λ κs a r t.
      LeavesMapEntriesCard reply_of (ends (by_map a.0) (kept a.1.0 a.1.1.0.now a.1.1.1.0.now a.1.1.1.1.0.now) nothing
      (on a.1.1.1.1.1.1.0 (reserve a.1.1.1.1.1.0.now a.1.1.1.1.1.1.1.0
      plain))) r t.1.1.0.now t.1.1.1.0.now t.1.1.1.1.0.now)
  pagunlit_reserve_contract κs a r t g = refl

  pub pagunlit_reserve_placed_contract : Ensures 𝓤 reserve-placed-function.ended
      (reserve-placed-function.clauses 𝓛 mem run) (λ κs a r t.
      LeavesMapEntriesCard reply_of (ends (by_map a.0) (kept a.1.0 a.1.1.0.now a.1.1.1.0.now a.1.1.1.1.0.now) nothing
      (on a.1.1.1.1.1.1.0 (reserve a.1.1.1.1.1.0.now a.1.1.1.1.1.1.1.0
      (placed (figures a.1.1.1.1.1.1.1.1.0 a.1.1.1.1.1.1.1.1.1.0 a.1.1.1.1.1.1.1.1.1.1.0))))) r t.1.1.0.now t.1.1.1.0.now
      t.1.1.1.1.0.now)
  pagunlit_reserve_placed_contract κs a r t g = refl

  pub pagunlit_offer_contract : Ensures 𝓤 offer-function.ended (offer-function.clauses 𝓛 mem run) (λ κs a r t.
      HandsBack reply_of (ends (by_map a.0) (kept a.1.0 a.1.1.0.now a.1.1.1.0.now a.1.1.1.1.0.now) nothing
      (on a.1.1.1.1.1.1.0 (offer a.1.1.1.1.1.0.now a.1.1.1.1.1.1.1.0))) r)
  pagunlit_offer_contract κs a r t g = refl

  pub pagunlit_accept_contract : Ensures 𝓤 accept-function.ended (accept-function.clauses 𝓛 mem run) (λ κs a r t.
      LeavesMapEntriesCard reply_of (ends (by_map a.0) (kept a.1.0 a.1.1.0.now a.1.1.1.0.now a.1.1.1.1.0.now) nothing
      (on a.1.1.1.1.1.1.0 (accept a.1.1.1.1.1.0.now a.1.1.1.1.1.1.1.0 a.1.1.1.1.1.1.1.1.0))) r t.1.1.0.now t.1.1.1.0.now
      t.1.1.1.1.0.now)
  pagunlit_accept_contract κs a r t g = refl

  pub pagunlit_grow_contract : Ensures 𝓤 grow-function.ended (grow-function.clauses 𝓛 mem run) (λ κs a r t.
      LeavesMapEntriesCard reply_of (ends (by_map a.0) (kept a.1.0 a.1.1.0.now a.1.1.1.0.now a.1.1.1.1.0.now) nothing
      (on a.1.1.1.1.1.1.0 (grow a.1.1.1.1.1.0.now a.1.1.1.1.1.1.1.0))) r
      t.1.1.0.now t.1.1.1.0.now t.1.1.1.1.0.now)
  pagunlit_grow_contract κs a r t g = refl

  pub pagunlit_put_contract : Ensures 𝓤 put_function.ended (put_function.clauses 𝓛 mem run) (λ κs a r t.
      LeavesCard reply_of (ends (by_map a.0) (kept a.1.0 a.1.1.0.now a.1.1.1.0.now a.1.1.1.1.0.now) nothing
      (on a.1.1.1.1.1.0 (put a.1.1.1.1.1.1.0 a.1.1.1.1.1.1.1.0.now))) r
      t.1.1.1.1.0.now)
  pagunlit_put_contract κs a r t g = refl

  pub pagunlit_complete_contract : Ensures 𝓤 complete-function.ended (complete-function.clauses 𝓛 mem run) (λ κs a r t.
      LeavesEntries reply_of (ends (by_map a.0) (kept a.1.0 a.1.1.0.now a.1.1.1.0.now a.1.1.1.1.0.now) nothing
      (on a.1.1.1.1.1.0 complete)) r t.1.1.1.0.now)
  pagunlit_complete_contract κs a r t g = refl

  pub pagunlit_pause_contract : Ensures 𝓤 pause-function.ended (pause-function.clauses 𝓛 mem run) (λ κs a r t.
      LeavesEntries reply_of (ends (by_map a.0) (kept a.1.0 a.1.1.0.now a.1.1.1.0.now no_card) nothing
      (on a.1.1.1.1.0 (change pause))) r t.1.1.1.0.now)
  pagunlit_pause_contract κs a r t g = refl

  pub pagunlit_resume_contract : Ensures 𝓤 resume-function.ended (resume-function.clauses 𝓛 mem run) (λ κs a r t.
      LeavesEntries reply_of (ends (by_map a.0) (kept a.1.0 a.1.1.0.now a.1.1.1.0.now no_card) nothing
      (on a.1.1.1.1.0 (change resume))) r t.1.1.1.0.now)
  pagunlit_resume_contract κs a r t g = refl

  pub pagunlit_release_contract : Ensures 𝓤 release-function.ended (release-function.clauses 𝓛 mem run) (λ κs a r t.
      LeavesMapEntries reply_of (ends (by_map a.0) (kept a.1.0 a.1.1.0.now a.1.1.1.0.now no_card) nothing
      (on a.1.1.1.1.0 release)) r t.1.1.0.now t.1.1.1.0.now)
  pagunlit_release_contract κs a r t g = refl

  pub pagunlit_show_contract : Ensures 𝓤 show-function.ended (show-function.clauses 𝓛 mem run) (λ κs a r t.
      LeavesBuffer reply_of (ends (by_map a.0) (kept a.1.0 a.1.1.0.now a.1.1.1.0.now a.1.1.1.1.0.now) nothing
      (on a.1.1.1.1.1.0 (show a.1.1.1.1.1.1.0 a.1.1.1.1.1.1.1.0.now))) r
      t.1.1.1.1.1.1.1.0.now)
  pagunlit_show_contract κs a r t g = refl

  pub pagunlit_show_dated_contract : Ensures 𝓤 show-dated-function.ended
      (show-dated-function.clauses 𝓛 mem run) (λ κs a r t.
      LeavesBuffer reply_of (ends (by_map a.0) (kept a.1.0 a.1.1.0.now a.1.1.1.0.now a.1.1.1.1.0.now) nothing
      (on a.1.1.1.1.1.0 (show_dated a.1.1.1.1.1.1.0 (date_of a.1.1.1.1.1.1.1.0 a.1.1.1.1.1.1.1.1.0 a.1.1.1.1.1.1.1.1.1.0)
      a.1.1.1.1.1.1.1.1.1.1.0.now))) r
      t.1.1.1.1.1.1.1.1.1.1.0.now)
  pagunlit_show_dated_contract κs a r t g = refl

  pub pagunlit_standing_contract : Ensures 𝓤 standing-function.ended (standing-function.clauses 𝓛 mem run) (λ κs a r t.
      HandsBack reply_of (ends (by_map a.0) (kept a.1.0 a.1.1.0.now a.1.1.1.0.now no_card) nothing (on a.1.1.1.1.0 standing)) r)
  pagunlit_standing_contract κs a r t g = refl

  pub pagunlit_save_contract : Ensures 𝓤 save-function.ended (save-function.clauses 𝓛 mem run) (λ κs a r t.
      LeavesScratchImage reply_of (ends (by_map a.0) (kept a.1.0 a.1.1.0.now a.1.1.1.0.now no_card)
      (beside [] a.1.1.1.1.0.now a.1.1.1.1.1.0.now) save) r t.1.1.1.1.0.now
      t.1.1.1.1.1.0.now)
  pagunlit_save_contract κs a r t g = refl

  pub pagunlit_close_contract : Ensures 𝓤 close-function.ended (close-function.clauses 𝓛 mem run) (λ κs a r t.
      LeavesMapEntriesCardScratch reply_of (ends (by_map a.0) (kept a.1.0 a.1.1.0.now a.1.1.1.0.now a.1.1.1.1.0.now)
      (beside [] a.1.1.1.1.1.0.now []) close) r t.1.1.0.now t.1.1.1.0.now
      t.1.1.1.1.0.now t.1.1.1.1.1.0.now)
  pagunlit_close_contract κs a r t g = refl

  pub pagunlit_load_contract : Ensures 𝓤 load-function.ended (load-function.clauses 𝓛 mem run) (λ κs a r t.
      LeavesMapEntriesScratch reply_of (ends (by_map a.0) (kept a.1.0 a.1.1.1.0.now a.1.1.1.1.0.now
      no_card) (beside [] a.1.1.1.1.1.0.now []) (load a.1.1.0.now)) r t.1.1.1.0.now
      t.1.1.1.1.0.now t.1.1.1.1.1.0.now)
  pagunlit_load_contract κs a r t g = refl

  pub seal_contract : Ensures 𝓤 seal-function.ended (seal-function.clauses 𝓛 mem run) (λ κs a r t.
      (r ≡ seal_answer a.1.1.0.now a.1.1.1.0.now)
      × (t.1.1.1.0.now ≡ after_seal a.0 a.1.0 a.1.1.0.now a.1.1.1.0.now))
  seal_contract κs a r t g = refl

  pub check_contract : Ensures 𝓤 check-function.ended (check-function.clauses 𝓛 mem run) (λ κs a r t.
      r ≡ check_answer a.0.now)
  check_contract κs a r t g = refl

  pub pagunlit_read_count_contract : Ensures 𝓤 read-count-function.ended (read-count-function.clauses 𝓛 mem run)
      (λ κs a r t. r ≡ count_reply (read_of a.0.now a.1.0))
  pagunlit_read_count_contract κs a r t g = refl

  pub pagunlit_write_count_contract : Ensures 𝓤 write-count-function.ended (write-count-function.clauses 𝓛 mem run)
      (λ κs a r t. (r ≡ write_answer a.0.now a.1.0 (count_from a.1.1.0))
      × (t.0.now ≡ after_write a.0.now a.1.0 (count_from a.1.1.0)))
  pagunlit_write_count_contract κs a r t g = refl

  pub pagunlit_write_term_contract : Ensures 𝓤 write-term-function.ended (write-term-function.clauses 𝓛 mem run)
      (λ κs a r t. (r ≡ term_answer a.0.now) × (t.0.now ≡ with_term a.0.now a.1.0 a.1.1.0))
  pagunlit_write_term_contract κs a r t g = refl

  pub pagunlit_fresh_asks_nothing : AsksNothing 𝓤 fresh-function.ended (fresh-function.clauses 𝓛 mem run)
  pagunlit_fresh_asks_nothing κs a g = refl

  pub pagunlit_search_asks_nothing : AsksNothing 𝓤 search-function.ended (search-function.clauses 𝓛 mem run)
  pagunlit_search_asks_nothing κs a g = refl

  pub pagunlit_survey_asks_nothing : AsksNothing 𝓤 survey-function.ended (survey-function.clauses 𝓛 mem run)
  pagunlit_survey_asks_nothing κs a g = refl

  pub pagunlit_reserve_asks_nothing : AsksNothing 𝓤 reserve-function.ended (reserve-function.clauses 𝓛 mem run)
  pagunlit_reserve_asks_nothing κs a g = refl

  pub pagunlit_reserve_placed_asks_nothing : AsksNothing 𝓤 reserve-placed-function.ended
      (reserve-placed-function.clauses 𝓛 mem run)
  pagunlit_reserve_placed_asks_nothing κs a g = refl

  pub pagunlit_offer_asks_nothing : AsksNothing 𝓤 offer-function.ended (offer-function.clauses 𝓛 mem run)
  pagunlit_offer_asks_nothing κs a g = refl

  pub pagunlit_accept_asks_nothing : AsksNothing 𝓤 accept-function.ended (accept-function.clauses 𝓛 mem run)
  pagunlit_accept_asks_nothing κs a g = refl

  pub pagunlit_grow_asks_nothing : AsksNothing 𝓤 grow-function.ended (grow-function.clauses 𝓛 mem run)
  pagunlit_grow_asks_nothing κs a g = refl

  pub pagunlit_put_asks_nothing : AsksNothing 𝓤 put_function.ended (put_function.clauses 𝓛 mem run)
  pagunlit_put_asks_nothing κs a g = refl

  pub pagunlit_complete_asks_nothing : AsksNothing 𝓤 complete-function.ended (complete-function.clauses 𝓛 mem run)
  pagunlit_complete_asks_nothing κs a g = refl

  pub pagunlit_pause_asks_nothing : AsksNothing 𝓤 pause-function.ended (pause-function.clauses 𝓛 mem run)
  pagunlit_pause_asks_nothing κs a g = refl

  pub pagunlit_resume_asks_nothing : AsksNothing 𝓤 resume-function.ended (resume-function.clauses 𝓛 mem run)
  pagunlit_resume_asks_nothing κs a g = refl

  pub pagunlit_release_asks_nothing : AsksNothing 𝓤 release-function.ended (release-function.clauses 𝓛 mem run)
  pagunlit_release_asks_nothing κs a g = refl

  pub pagunlit_show_asks_nothing : AsksNothing 𝓤 show-function.ended (show-function.clauses 𝓛 mem run)
  pagunlit_show_asks_nothing κs a g = refl

  pub pagunlit_show_dated_asks_nothing : AsksNothing 𝓤 show-dated-function.ended
      (show-dated-function.clauses 𝓛 mem run)
  pagunlit_show_dated_asks_nothing κs a g = refl

  pub pagunlit_standing_asks_nothing : AsksNothing 𝓤 standing-function.ended (standing-function.clauses 𝓛 mem run)
  pagunlit_standing_asks_nothing κs a g = refl

  pub pagunlit_close_asks_nothing : AsksNothing 𝓤 close-function.ended (close-function.clauses 𝓛 mem run)
  pagunlit_close_asks_nothing κs a g = refl

  pub pagunlit_save_asks_nothing : AsksNothing 𝓤 save-function.ended (save-function.clauses 𝓛 mem run)
  pagunlit_save_asks_nothing κs a g = refl

  pub pagunlit_load_asks_nothing : AsksNothing 𝓤 load-function.ended (load-function.clauses 𝓛 mem run)
  pagunlit_load_asks_nothing κs a g = refl

  pub seal_asks_nothing : AsksNothing 𝓤 seal-function.ended (seal-function.clauses 𝓛 mem run)
  seal_asks_nothing κs a g = refl

  pub check_asks_nothing : AsksNothing 𝓤 check-function.ended (check-function.clauses 𝓛 mem run)
  check_asks_nothing κs a g = refl

  pub pagunlit_read_count_asks_nothing : AsksNothing 𝓤 read-count-function.ended (read-count-function.clauses 𝓛 mem run)
  pagunlit_read_count_asks_nothing κs a g = refl

  pub pagunlit_write_count_asks_nothing : AsksNothing 𝓤 write-count-function.ended
      (write-count-function.clauses 𝓛 mem run)
  pagunlit_write_count_asks_nothing κs a g = refl

  pub pagunlit_write_term_asks_nothing : AsksNothing 𝓤 write-term-function.ended
      (write-term-function.clauses 𝓛 mem run)
  pagunlit_write_term_asks_nothing κs a g = refl
