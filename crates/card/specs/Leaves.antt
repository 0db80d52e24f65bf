-- What a function ensures, read off what its call comes to (`ends`, Public.antt): what it hands back, as `how` says (a method
-- its
-- outcome itself, a C function the reply of that name), and what it leaves in what it is lent by `&mut`, one proposition for
-- each
-- list of such buffers.
-- Assumes nothing.
use Rattle.std.specs.Prelude.{◌≡◌, List, ℕ}
use Rattle.catalogue.specs.declared.Entry.{Entry}
use Rattle.card.specs.declared.Outcome.{Outcome}
use Rattle.card.specs.Public.{End}

-- How a method hands its outcome back.
abbrev pub itself : Outcome → Outcome
itself outcome = outcome

module _ {R : Type 0} (how : Outcome → R) (e : End) where
  -- search, survey, offer, standing, check
  abbrev pub HandsBack : R → Type 0
  HandsBack r = r ≡ how e.outcome

  -- put
  abbrev pub LeavesCard : R → List ℕ → Type 0
  LeavesCard r card' = HandsBack r × (card' ≡ e.card)

  -- complete, pause, resume
  abbrev pub LeavesEntries : R → List Entry → Type 0
  LeavesEntries r entries' = HandsBack r × (entries' ≡ e.entries)

  -- the two shows
  abbrev pub LeavesBuffer : R → List ℕ → Type 0
  LeavesBuffer r buffer' = HandsBack r × (buffer' ≡ e.buffer)

  -- build
  abbrev pub LeavesSummary : R → List ℕ → Type 0
  LeavesSummary r summary' = HandsBack r × (summary' ≡ e.beside.summary)

  -- fresh, release
  abbrev pub LeavesMapEntries : R → List ℕ → List Entry → Type 0
  LeavesMapEntries r map' entries' = HandsBack r × (map' ≡ e.map) × (entries' ≡ e.entries)

  -- reserve, accept, grow
  abbrev pub LeavesMapEntriesCard : R → List ℕ → List Entry → List ℕ → Type 0
  LeavesMapEntriesCard r map' entries' card' = HandsBack r × (map' ≡ e.map) × (entries' ≡ e.entries) × (card' ≡ e.card)

  -- save
  abbrev pub LeavesScratchImage : R → List ℕ → List ℕ → Type 0
  LeavesScratchImage r scratch' image' = HandsBack r × (scratch' ≡ e.beside.scratch) × (image' ≡ e.beside.image)

  -- load
  abbrev pub LeavesMapEntriesScratch : R → List ℕ → List Entry → List ℕ → Type 0
  LeavesMapEntriesScratch r map' entries' scratch' =
      HandsBack r × (map' ≡ e.map) × (entries' ≡ e.entries) × (scratch' ≡ e.beside.scratch)

  -- closing
  abbrev pub LeavesMapEntriesCardScratch : R → List ℕ → List Entry → List ℕ → List ℕ → Type 0
  LeavesMapEntriesCardScratch r map' entries' card' scratch' =
      HandsBack r × (map' ≡ e.map) × (entries' ≡ e.entries) × (card' ≡ e.card) × (scratch' ≡ e.beside.scratch)

  -- the forms with a summary, which is handed back behind the map: of release; of reserve, accept and grow; of closing
  abbrev pub LeavesMapSummaryEntries : R → List ℕ → List ℕ → List Entry → Type 0
  LeavesMapSummaryEntries r map' summary' entries' =
      HandsBack r × (map' ≡ e.map) × (summary' ≡ e.beside.summary) × (entries' ≡ e.entries)

  abbrev pub LeavesMapSummaryEntriesCard : R → List ℕ → List ℕ → List Entry → List ℕ → Type 0
  LeavesMapSummaryEntriesCard r map' summary' entries' card' =
      HandsBack r × (map' ≡ e.map) × (summary' ≡ e.beside.summary) × (entries' ≡ e.entries) × (card' ≡ e.card)

  abbrev pub LeavesMapSummaryEntriesCardScratch : R → List ℕ → List ℕ → List Entry → List ℕ → List ℕ → Type 0
  LeavesMapSummaryEntriesCardScratch r map' summary' entries' card' scratch' =
      HandsBack r × (map' ≡ e.map) × (summary' ≡ e.beside.summary) × (entries' ≡ e.entries) × (card' ≡ e.card)
      × (scratch' ≡ e.beside.scratch)
