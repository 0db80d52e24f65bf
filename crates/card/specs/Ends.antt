-- What each public call comes to (`ends`, Public.antt), as a function of what its method takes, in order: the shape, the role,
-- and
-- what else it is lent and asked.
-- Assumes nothing.
use Rattle.std.specs.Prelude.{List, [], ℕ}
use Rattle.calendar.specs.Calendar.{date_of}
use Rattle.catalogue.specs.declared.Entry.{Entry}
use Rattle.refusals.specs.Lent.{no_card}
use Rattle.refusals.specs.Placement.{plain, placed, figures}
use Rattle.refusals.specs.Table.{reserve, offer, accept, grow, put, complete, change, pause, resume, release, show, show_dated}
use Rattle.refusals.specs.Table.{standing}
use Rattle.card.specs.Calls.{kept}
use Rattle.card.specs.Public.{on, fresh, search, survey, save, load, close, build, check}
use Rattle.card.specs.Public.{Beside, End, by_map, by_summary, ends}
use Rattle.card.specs.declared.Shape.{Shape}

-- what else is lent: a summary, a scratch, and room for an image
abbrev pub beside : List ℕ → List ℕ → List ℕ → Beside
beside summary scratch image = record { summary = summary; scratch = scratch; image = image }

abbrev pub nothing : Beside
nothing = beside [] [] []

module _ (shape : Shape) (role : ℕ) (blocks : ℕ) (map : List ℕ) (entries : List Entry) where
  abbrev pub fresh_end : End
  fresh_end = ends (by_map role) (kept shape map entries no_card) nothing (fresh blocks)

module _ (shape : Shape) (role : ℕ) (map : List ℕ) (k : ℕ) where
  abbrev pub search_end : End
  search_end = ends (by_map role) (kept shape map [] no_card) nothing (search k)

module _ (shape : Shape) (role : ℕ) (map : List ℕ) where
  abbrev pub survey_end : End
  survey_end = ends (by_map role) (kept shape map [] no_card) nothing survey

module _ (shape : Shape) (role : ℕ) (map : List ℕ) (entries : List Entry) (card limits : List ℕ) (sheet k : ℕ) where
  abbrev pub reserve_end : End
  reserve_end = ends (by_map role) (kept shape map entries card) nothing (on sheet (reserve limits k plain))

module _ (shape : Shape) (role : ℕ) (map : List ℕ) (entries : List Entry) (card limits : List ℕ) (sheet k from before step : ℕ)
  where
    abbrev pub reservePlacedEnd : End
    reservePlacedEnd = ends (by_map role) (kept shape map entries card) nothing
        (on sheet (reserve limits k (placed (figures from
        before step))))

module _ (shape : Shape) (role : ℕ) (map : List ℕ) (entries : List Entry) (card limits : List ℕ) (sheet k : ℕ) where
  abbrev pub offer_end : End
  offer_end = ends (by_map role) (kept shape map entries card) nothing (on sheet (offer limits k))

module _ (shape : Shape) (role : ℕ) (map : List ℕ) (entries : List Entry) (card limits : List ℕ) (sheet start k : ℕ) where
  abbrev pub accept_end : End
  accept_end = ends (by_map role) (kept shape map entries card) nothing (on sheet (accept limits start k))

module _ (shape : Shape) (role : ℕ) (map : List ℕ) (entries : List Entry) (card limits : List ℕ) (sheet m : ℕ) where
  abbrev pub grow_end : End
  grow_end = ends (by_map role) (kept shape map entries card) nothing (on sheet (grow limits m))

module _ (shape : Shape) (role : ℕ) (map : List ℕ) (entries : List Entry) (card : List ℕ) (sheet place : ℕ) (payload : List ℕ)
  where
    abbrev pub putEnd : End
    putEnd = ends (by_map role) (kept shape map entries card) nothing (on sheet (put place payload))

module _ (shape : Shape) (role : ℕ) (map : List ℕ) (entries : List Entry) (card : List ℕ) (sheet : ℕ) where
  abbrev pub complete_end : End
  complete_end = ends (by_map role) (kept shape map entries card) nothing (on sheet complete)

module _ (shape : Shape) (role : ℕ) (map : List ℕ) (entries : List Entry) (sheet : ℕ) where
  abbrev pub pause_end : End
  pause_end = ends (by_map role) (kept shape map entries no_card) nothing (on sheet (change pause))

  abbrev pub resume_end : End
  resume_end = ends (by_map role) (kept shape map entries no_card) nothing (on sheet (change resume))

  abbrev pub release_end : End
  release_end = ends (by_map role) (kept shape map entries no_card) nothing (on sheet release)

module _ (shape : Shape) (role : ℕ) (map : List ℕ) (entries : List Entry) (card : List ℕ) (sheet place : ℕ) (buffer : List ℕ)
  where
    abbrev pub showEnd : End
    showEnd = ends (by_map role) (kept shape map entries card) nothing (on sheet (show place buffer))

module _ (shape : Shape) (role : ℕ) (map : List ℕ) (entries : List Entry) (card : List ℕ) (sheet place year month day : ℕ)
    (buffer : List ℕ) where
  abbrev pub show_dated_end : End
  show_dated_end = ends (by_map role) (kept shape map entries card) nothing (on sheet (show_dated place (date_of year month day)
      buffer))

module _ (shape : Shape) (role : ℕ) (map : List ℕ) (entries : List Entry) (sheet : ℕ) where
  abbrev pub standing_end : End
  standing_end = ends (by_map role) (kept shape map entries no_card) nothing (on sheet standing)

module _ (shape : Shape) (role : ℕ) (map : List ℕ) (entries : List Entry) (scratch image : List ℕ) where
  abbrev pub save_end : End
  save_end = ends (by_map role) (kept shape map entries no_card) (beside [] scratch image) save

module _ (shape : Shape) (role : ℕ) (image map : List ℕ) (entries : List Entry) (scratch : List ℕ) where
  abbrev pub load_end : End
  load_end = ends (by_map role) (kept shape map entries no_card) (beside [] scratch []) (load image)

module _ (shape : Shape) (role : ℕ) (map : List ℕ) (entries : List Entry) (card scratch : List ℕ) where
  abbrev pub close_end : End
  close_end = ends (by_map role) (kept shape map entries card) (beside [] scratch []) close

module _ (shape : Shape) (role : ℕ) (map summary : List ℕ) where
  abbrev pub summary_build_end : End
  summary_build_end = ends (by_map role) (kept shape map [] no_card) (beside summary [] []) build

  abbrev pub summary_check_end : End
  summary_check_end = ends (by_map role) (kept shape map [] no_card) (beside summary [] []) check

module _ (shape : Shape) (role : ℕ) (map summary : List ℕ) (entries : List Entry) (card limits : List ℕ) (sheet k : ℕ) where
  abbrev pub reserve_with_summary_end : End
  reserve_with_summary_end = ends (by_summary role) (kept shape map entries card) (beside summary [] [])
      (on sheet (reserve limits
      k plain))

module _ (shape : Shape) (role : ℕ) (map summary : List ℕ) (entries : List Entry) (card limits : List ℕ) (sheet k from before
    step : ℕ) where
  abbrev pub reserve_placed_with_summary_end : End
  reserve_placed_with_summary_end = ends (by_summary role) (kept shape map entries card) (beside summary [] [])
      (on sheet (reserve
      limits k (placed (figures from before step))))

module _ (shape : Shape) (role : ℕ) (map summary : List ℕ) (entries : List Entry) (card limits : List ℕ) (sheet start k : ℕ)
  where
    abbrev pub acceptWithSummaryEnd : End
    acceptWithSummaryEnd = ends (by_summary role) (kept shape map entries card) (beside summary [] []) (on sheet (accept limits
        start k))

module _ (shape : Shape) (role : ℕ) (map summary : List ℕ) (entries : List Entry) (card limits : List ℕ) (sheet m : ℕ) where
  abbrev pub grow_with_summary_end : End
  grow_with_summary_end = ends (by_summary role) (kept shape map entries card) (beside summary [] []) (on sheet (grow limits m))

module _ (shape : Shape) (role : ℕ) (map summary : List ℕ) (entries : List Entry) (sheet : ℕ) where
  abbrev pub release_with_summary_end : End
  release_with_summary_end = ends (by_summary role) (kept shape map entries no_card) (beside summary [] []) (on sheet release)

module _ (shape : Shape) (role : ℕ) (map summary : List ℕ) (entries : List Entry) (card scratch : List ℕ) where
  abbrev pub close_with_summary_end : End
  close_with_summary_end = ends (by_summary role) (kept shape map entries card) (beside summary scratch []) close
