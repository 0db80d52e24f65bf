-- What each public call hands back and leaves, of all its arguments in order: the contracts of `impl Shape`, of the C library
-- and of the ledger's steps are made of these. A call on a sheet finds the sheet's entry, does what the crate refusals says
-- of it, and stores the entry that it hands back.
-- Assumes nothing.
use Rattle.std.specs.Prelude.{Bool, true, false, cond, List, [], ℕ, eqb, length, set}
use Rattle.calendar.specs.Calendar.{Date}
use Rattle.catalogue.specs.Entries.{entry_at, cleared_if}
use Rattle.catalogue.specs.declared.Entry.{Entry}
use Rattle.catalogue_standings.specs.declared.Answer.{Answer}
use Rattle.catalogue_standings.specs.declared.opening.Asked.{Asked}
use Rattle.catalogue_standings.specs.declared.Answer.TheVariants.{Done, Start, Reads, Counted, Own, Blank, Refused}
use Rattle.call_search.specs.Answers as whole
use Rattle.call_summary.specs.Answers as summaries
use Rattle.catalogue_wings.specs.Wings.{held_by}
use Rattle.refusals.specs.Lent.{Lent, lent_beside, within, called_by, no_card}
use Rattle.refusals.specs.Placement.{Placement}
use Rattle.refusals.specs.Table.{Change}
use Rattle.refusals.specs.Effects as effects
use Rattle.refusals.specs.declared.Out.{Out}
use Rattle.image_soundness.specs.Sound.{State}
use Rattle.image.specs.Effects as images
use Rattle.image.specs.Effects.{Answered}
use Rattle.card.specs.declared.Outcome.{Outcome}
use Rattle.card.specs.declared.Shape.{Shape}

-- What a call on a sheet is asked.
abbrev pub asked_by : Shape → ℕ → List Entry → ℕ → Asked
asked_by shape role entries sheet = record {
  role = role;
  n = shape.blocks;
  free = shape.free;
  sheets = length entries;
  sheet = sheet;
  entry = entry_at entries sheet;
}

-- The shape as it came, and an answer.
abbrev pub told : Shape → Answer → Outcome
told shape answer = record { shape = shape; answer = answer }

-- The shape with the changed free count, and the answer.
abbrev pub outcome_of : Shape → Out → Outcome
outcome_of shape out = record { shape = record { blocks = shape.blocks; free = out.free }; answer = out.answer }

abbrev pub is_done : Answer → Bool
is_done Done = true
is_done (Start s space) = false
is_done (Reads m s l) = false
is_done (Counted f r l) = false
is_done (Own own) = false
is_done (Blank p) = false
is_done (Refused k) = false

-- ---- the whole card

-- Fresh reads nothing of the shape it takes, and of the catalogue how many entries there are.
module _ (turned : Bool) (shape : Shape) (blocks : ℕ) (map : List ℕ) (count : ℕ) where
  abbrev pub fresh_outcome_by : Outcome
  fresh_outcome_by =
      let number = whole.fresh_number turned blocks map count in
      cond (eqb number 0) (told (record { blocks = blocks; free = blocks }) Done) (told shape (Refused number))

  abbrev pub fresh_map_by : List ℕ
  fresh_map_by = whole.fresh_map turned blocks map count

module _ (turned : Bool) (shape : Shape) (blocks : ℕ) (map : List ℕ) (entries : List Entry) where
  abbrev pub fresh_outcome : Outcome
  fresh_outcome = fresh_outcome_by turned shape blocks map (length entries)

  abbrev pub fresh_map : List ℕ
  fresh_map = fresh_map_by turned shape blocks map (length entries)

  abbrev pub fresh_entries : List Entry
  fresh_entries = cleared_if entries (is_done fresh_outcome.answer)

abbrev pub search_outcome : Bool → Shape → List ℕ → ℕ → Outcome
search_outcome turned shape map k = told shape (whole.search_answer turned shape.blocks shape.free map k)

abbrev pub survey_outcome : Bool → Shape → List ℕ → Outcome
survey_outcome turned shape map = told shape (whole.survey_answer turned shape.blocks shape.free map)

-- A summary beside the map (document 02 (j)).
module _ (turned : Bool) (shape : Shape) (map summary : List ℕ) where
  abbrev pub build_outcome : Outcome
  build_outcome = told shape (summaries.build_answer turned shape.blocks shape.free map summary)

  abbrev pub build_summary : List ℕ
  build_summary = summaries.built_summary turned shape.blocks shape.free map summary

  abbrev pub check_outcome : Outcome
  check_outcome = told shape (summaries.check_answer turned shape.blocks shape.free map summary)

-- ---- a sheet

-- What the program keeps between two calls.
pub record Kept : Type 0 where
  pub shape : Shape
  pub map : List ℕ
  pub entries : List Entry
  pub card : List ℕ

abbrev pub kept : Shape → List ℕ → List Entry → List ℕ → Kept
kept shape map entries card = record { shape = shape; map = map; entries = entries; card = card }

-- What a call on a sheet is lent, with the card and without: the catalogue gives c and the sheet's entry. It is guided by a
-- summary, or by the map alone.
abbrev pub lent_by : Bool → Bool → List ℕ → Kept → List ℕ → ℕ → Lent
lent_by turned guided summary s card sheet =
    called_by turned (lent_beside guided summary s.shape.blocks s.shape.free s.map card (length s.entries)
    (entry_at s.entries sheet)
    sheet)

abbrev pub lent_to : Bool → Kept → List ℕ → ℕ → Lent
lent_to turned s card sheet = lent_by turned false [] s card sheet

-- The same within limits (document 02 (k)): the catalogue gives what the sheet's wing holds as well.
abbrev pub lent_by_within : Bool → Bool → List ℕ → Kept → List ℕ → List ℕ → ℕ → Lent
lent_by_within turned guided summary s card limits sheet =
    within (held_by s.entries sheet) limits (lent_by turned guided summary s card sheet)

abbrev pub lent_to_within : Bool → Kept → List ℕ → List ℕ → ℕ → Lent
lent_to_within turned s card limits sheet = lent_by_within turned false [] s card limits sheet

-- ---- the calls that have a form with a summary (document 02 (j))

module _ (turned guided : Bool) (summary : List ℕ) (s : Kept) (limits : List ℕ) (sheet : ℕ) where
  abbrev lends_by : Lent
  lends_by = lent_by_within turned guided summary s s.card limits sheet

  -- reserve, plain or placed
  abbrev reserve_out_by : ℕ → Placement → Out
  reserve_out_by k placement = effects.reserve_out lends_by k placement

  abbrev pub reserve_outcome_by : ℕ → Placement → Outcome
  reserve_outcome_by k placement = outcome_of s.shape (reserve_out_by k placement)

  abbrev pub reserve_map_by : ℕ → Placement → List ℕ
  reserve_map_by k placement = effects.reserve_map lends_by k placement

  abbrev pub reserve_summary_by : ℕ → Placement → List ℕ
  reserve_summary_by k placement = effects.reserve_summary lends_by k placement

  abbrev pub reserve_entries_by : ℕ → Placement → List Entry
  reserve_entries_by k placement = set s.entries sheet (reserve_out_by k placement).entry

  abbrev pub reserve_card_by : ℕ → Placement → List ℕ
  reserve_card_by k placement = effects.reserve_card lends_by k placement

  abbrev accept_out_by : ℕ → ℕ → Out
  accept_out_by start k = effects.accept_out lends_by start k

  abbrev pub accept_outcome_by : ℕ → ℕ → Outcome
  accept_outcome_by start k = outcome_of s.shape (accept_out_by start k)

  abbrev pub accept_map_by : ℕ → ℕ → List ℕ
  accept_map_by start k = effects.accept_map lends_by start k

  abbrev pub accept_summary_by : ℕ → ℕ → List ℕ
  accept_summary_by start k = effects.accept_summary lends_by start k

  abbrev pub accept_entries_by : ℕ → ℕ → List Entry
  accept_entries_by start k = set s.entries sheet (accept_out_by start k).entry

  abbrev pub accept_card_by : ℕ → ℕ → List ℕ
  accept_card_by start k = effects.accept_card lends_by start k

  abbrev grow_out_by : ℕ → Out
  grow_out_by m = effects.grow_out lends_by m

  abbrev pub grow_outcome_by : ℕ → Outcome
  grow_outcome_by m = outcome_of s.shape (grow_out_by m)

  abbrev pub grow_map_by : ℕ → List ℕ
  grow_map_by m = effects.grow_map lends_by m

  abbrev pub grow_summary_by : ℕ → List ℕ
  grow_summary_by m = effects.grow_summary lends_by m

  abbrev pub grow_entries_by : ℕ → List Entry
  grow_entries_by m = set s.entries sheet (grow_out_by m).entry

  abbrev pub grow_card_by : ℕ → List ℕ
  grow_card_by m = effects.grow_card lends_by m

module _ (turned guided : Bool) (summary : List ℕ) (s : Kept) (sheet : ℕ) where
  abbrev lends_no_card_by : Lent
  lends_no_card_by = lent_by turned guided summary s no_card sheet

  abbrev release_out_by : Out
  release_out_by = effects.release_out lends_no_card_by

  abbrev pub release_outcome_by : Outcome
  release_outcome_by = outcome_of s.shape release_out_by

  abbrev pub release_map_by : List ℕ
  release_map_by = effects.release_map lends_no_card_by

  abbrev pub release_summary_by : List ℕ
  release_summary_by = effects.release_summary lends_no_card_by

  abbrev pub release_entries_by : List Entry
  release_entries_by = set s.entries sheet release_out_by.entry

-- ---- the other calls

abbrev pub offer_outcome : Bool → Kept → List ℕ → ℕ → ℕ → Outcome
offer_outcome turned s limits sheet k =
    told s.shape (effects.offer_answer (lent_to_within turned s s.card limits sheet) k)

module _ (turned : Bool) (s : Kept) (sheet : ℕ) where
  abbrev lends : Lent
  lends = lent_to turned s s.card sheet

  abbrev lends_no_card : Lent
  lends_no_card = lent_to turned s no_card sheet

  abbrev pub put_outcome : ℕ → List ℕ → Outcome
  put_outcome place payload = told s.shape (effects.put_answer lends place payload)

  abbrev pub put_card : ℕ → List ℕ → List ℕ
  put_card place payload = effects.put_card lends place payload

  abbrev complete_out : Out
  complete_out = effects.complete_out lends

  abbrev pub complete_outcome : Outcome
  complete_outcome = outcome_of s.shape complete_out

  abbrev pub complete_entries : List Entry
  complete_entries = set s.entries sheet complete_out.entry

  abbrev pub show_outcome : ℕ → List ℕ → Outcome
  show_outcome place buffer = told s.shape (effects.show_answer lends place buffer)

  abbrev pub show_buffer : ℕ → List ℕ → List ℕ
  show_buffer place buffer = effects.show_buffer lends place buffer

  -- (document 02 (m))
  abbrev pub show_dated_outcome : ℕ → Date → List ℕ → Outcome
  show_dated_outcome place date buffer = told s.shape (effects.show_dated_answer lends place date buffer)

  abbrev pub show_dated_buffer : ℕ → Date → List ℕ → List ℕ
  show_dated_buffer place date buffer = effects.show_dated_buffer lends place date buffer

  -- pause and resume
  abbrev change_out : Change → Out
  change_out c = effects.change_out lends_no_card c

  abbrev pub change_outcome : Change → Outcome
  change_outcome c = outcome_of s.shape (change_out c)

  abbrev pub change_entries : Change → List Entry
  change_entries c = set s.entries sheet (change_out c).entry

  abbrev pub standing_outcome : Outcome
  standing_outcome = told s.shape (effects.standing_answer lends_no_card)

-- ---- the saved image

-- The state that a save is of.
abbrev pub saved_state : Shape → List ℕ → List Entry → State
saved_state shape map entries = record { blocks = shape.blocks; spare = shape.free; entries = entries; map = map }

-- Save, and closing, hand the shape back as it came: the number 0 says that it was done.
abbrev pub save_outcome_by : Shape → ℕ → Outcome
save_outcome_by shape number = told shape (cond (eqb number 0) Done (Refused number))

module _ (turned : Bool) (shape : Shape) (map : List ℕ) (entries : List Entry) (scratch image : List ℕ) where
  abbrev pub save_outcome : Outcome
  save_outcome = save_outcome_by shape (images.save_number turned shape.blocks shape.free map entries scratch image)

  abbrev pub save_scratch : List ℕ
  save_scratch = images.save_scratch turned shape.blocks shape.free map entries scratch image

  abbrev pub save_image : List ℕ
  save_image = images.save_image turned shape.blocks shape.free map entries scratch image

-- ---- load

-- Load reads nothing of the shape it takes: it hands back the image's n and free count, or, refused, the shape as it came.
abbrev pub load_outcome_by : Shape → Answered → Outcome
load_outcome_by shape loaded =
    cond (eqb loaded.number 0) (told (record { blocks = loaded.blocks; free = loaded.free }) Done)
    (told shape (Refused loaded.number))

module _ (turned : Bool) (shape : Shape) (image map : List ℕ) (entries : List Entry) (scratch : List ℕ) where
  abbrev pub load_outcome : Outcome
  load_outcome = load_outcome_by shape (images.load_result turned image map entries scratch)

  abbrev pub load_map : List ℕ
  load_map = images.load_map turned image map entries scratch

  abbrev pub load_entries : List Entry
  load_entries = images.load_entries turned image map entries scratch

  abbrev pub load_scratch : List ℕ
  load_scratch = images.load_scratch turned image map entries scratch
