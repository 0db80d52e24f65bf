-- Every public call, and what it comes to (`ends`): what it hands back and what every buffer that it is lent holds then,
-- whoever
-- makes it, by the map or guided by a summary. The contract of a method of `Shape` and of its C function is read off it
-- (Leaves.antt); so are the steps of a list of calls, and all that is claimed of lists.
-- Assumes nothing.
use Rattle.std.specs.Prelude.{Bool, true, false, cond, List, [], ℕ}
use Rattle.catalogue.specs.declared.Entry.{Entry}
use Rattle.catalogue_standings.specs.declared.Answer.{Answer}
use Rattle.catalogue_standings.specs.declared.Answer.TheVariants.{Refused}
use Rattle.roles.specs.Roles as roles
use Rattle.roles.specs.Roles.{turned_away}
use Rattle.refusals.specs.Table.{Ask, reserve, put, grow, complete, change, release, show, standing, offer, accept, show_dated}
use Rattle.refusals.specs.Table.{Change, pause, resume}
use Rattle.image.specs.Effects.{zeros_for}
use Rattle.card.specs.Calls.{Kept, told, fresh_outcome, fresh_map, fresh_entries, search_outcome, survey_outcome}
use Rattle.card.specs.Calls.{build_outcome, build_summary, check_outcome}
use Rattle.card.specs.Calls.{reserve_outcome_by, reserve_map_by, reserve_summary_by, reserve_entries_by, reserve_card_by}
use Rattle.card.specs.Calls.{offer_outcome, accept_outcome_by, accept_map_by, accept_summary_by, accept_entries_by}
use Rattle.card.specs.Calls.{accept_card_by}
use Rattle.card.specs.Calls.{grow_outcome_by, grow_map_by, grow_summary_by, grow_entries_by, grow_card_by, put_outcome}
use Rattle.card.specs.Calls.{put_card}
use Rattle.card.specs.Calls.{complete_outcome, complete_entries, change_outcome, change_entries}
use Rattle.card.specs.Calls.{release_outcome_by, release_map_by, release_summary_by, release_entries_by}
use Rattle.card.specs.Calls.{show_outcome, show_buffer, show_dated_outcome, show_dated_buffer, standing_outcome}
use Rattle.card.specs.Calls.{save_outcome, save_scratch, save_image, load_outcome, load_map, load_entries, load_scratch}
use Rattle.card.specs.Closings.{close_outcome_by, close_map_by, close_summary_by, close_entries_by, close_card_by}
use Rattle.card.specs.Closings.{close_scratch_by}
use Rattle.card.specs.declared.Outcome.{Outcome}

-- ---- the calls

-- Something is asked of a sheet; a fresh card of so many blocks; a search for so many; a load of an image; a summary is built
-- or checked (document 02 (j)).
pub data Public : Type 0 where
  on : ℕ → Ask → Public
  fresh : ℕ → Public
  search : ℕ → Public
  survey save close build check : Public
  load : List ℕ → Public

-- What a call is.
pub record Kind : Type 0 where
  -- its name in the table of roles
  pub name : ℕ
  -- the buffer that it brings: that of a show, and none of any other
  pub brings : List ℕ
  -- it has a form that is guided by a summary (document 02 (j), (l))
  pub formed : Bool
  -- it is lent a scratch
  pub scratched : Bool

abbrev pub plainly : ℕ → Kind
plainly name = record { name = name; brings = []; formed = false; scratched = false }

abbrev pub bringing : ℕ → List ℕ → Kind
bringing name buffer = record { name = name; brings = buffer; formed = false; scratched = false }

abbrev pub guidable : ℕ → Kind
guidable name = record { name = name; brings = []; formed = true; scratched = false }

abbrev pub lent_scratch : ℕ → Bool → Kind
lent_scratch name formed = record { name = name; brings = []; formed = formed; scratched = true }

abbrev pub name_of_change : Change → ℕ
name_of_change pause = roles.pause
name_of_change resume = roles.resume

abbrev pub kind_on : Ask → Kind
kind_on (reserve limits k placement) = guidable roles.reserve
kind_on (offer limits k) = plainly roles.offer
kind_on (accept limits start k) = guidable roles.accept
kind_on (grow limits m) = guidable roles.grow
kind_on (put place payload) = plainly roles.put
kind_on complete = plainly roles.complete
kind_on (change c) = plainly (name_of_change c)
kind_on release = guidable roles.release
kind_on (show place buffer) = bringing roles.show buffer
kind_on (show_dated place date buffer) = bringing roles.show_dated buffer
kind_on standing = plainly roles.standing

abbrev pub kind_of : Public → Kind
kind_of (on sheet ask) = kind_on ask
kind_of (fresh n) = plainly roles.fresh
kind_of (search k) = plainly roles.search
kind_of survey = plainly roles.survey
kind_of save = lent_scratch roles.save false
kind_of (load image) = lent_scratch roles.load false
kind_of close = lent_scratch roles.close true
kind_of build = plainly roles.build_summary
kind_of check = plainly roles.check_summary

-- ---- how a call is made, and what it comes to

-- Who makes a call, and whether it is the form that is guided by a summary; a call without such a form does the same either
-- way.
pub record Manner : Type 0 where
  pub role : ℕ
  pub guided : Bool

abbrev pub by_map : ℕ → Manner
by_map role = record { role = role; guided = false }

abbrev pub by_summary : ℕ → Manner
by_summary role = record { role = role; guided = true }

-- Whoever makes the call may not (document 02 (n)).
abbrev pub turned : Manner → Public → Bool
turned m c = turned_away m.role (kind_of c).name

-- What else is lent to a call that asks for it, beside what is kept and the buffer of a show: a summary, a scratch, and room
-- for
-- the image of a save.
pub record Beside : Type 0 where
  pub summary : List ℕ
  pub scratch : List ℕ
  pub image : List ℕ

abbrev pub with_summary : List ℕ → Beside → Beside
with_summary summary b = record { summary = summary; scratch = b.scratch; image = b.image }

abbrev pub with_scratch : List ℕ → Beside → Beside
with_scratch scratch b = record { summary = b.summary; scratch = scratch; image = b.image }

-- What a call hands back, and what it leaves of map, entries, card, of the buffer that it brings ([] if none) and of what else
-- is
-- lent. What a call is not lent, or is lent by `&`, is as it was.
pub record End : Type 0 where
  pub outcome : Outcome
  pub map : List ℕ
  pub entries : List Entry
  pub card : List ℕ
  pub buffer : List ℕ
  pub beside : Beside

abbrev pub ending : Outcome → List ℕ → List Entry → List ℕ → List ℕ → Beside → End
ending outcome map entries card buffer beside = record {
  outcome = outcome;
  map = map;
  entries = entries;
  card = card;
  buffer = buffer;
  beside = beside;
}

-- What is kept then.
abbrev pub kept_after : End → Kept
kept_after e = record { shape = e.outcome.shape; map = e.map; entries = e.entries; card = e.card }

-- A call that changes nothing of what is kept, but may fill its buffer.
abbrev pub telling : Kept → Beside → Outcome → List ℕ → End
telling s b outcome buffer = ending outcome s.map s.entries s.card buffer b

-- A call that changes nothing but a scratch, which is all zeros afterwards: the shape as it came, and an answer.
abbrev pub unchanged : Answer → Kept → Beside → Kind → End
unchanged answer s b kind =
    telling s (cond kind.scratched (with_scratch (zeros_for b.scratch) b) b) (told s.shape answer) kind.brings

-- A call that is refused with a number.
abbrev pub refused_end : ℕ → Kept → Beside → Kind → End
refused_end number = unchanged (Refused number)

-- A call on a sheet, of one who is turned away or not, guided or not. Its form with a summary is lent one, and leaves it.
module _ (turned guided : Bool) (s : Kept) (b : Beside) (sheet : ℕ) where
  abbrev guide : List ℕ
  guide = cond guided b.summary []

  abbrev left : List ℕ → Beside
  left summary = cond guided (with_summary summary b) b

  abbrev pub end_on : Ask → End
  end_on (reserve limits k placement) =
      ending (reserve_outcome_by turned guided guide s limits sheet k placement)
      (reserve_map_by turned guided guide s limits sheet k placement)
      (reserve_entries_by turned guided guide s limits sheet k placement)
      (reserve_card_by turned guided guide s limits sheet k placement) []
      (left (reserve_summary_by turned guided guide s limits sheet k placement))
  end_on (offer limits k) = telling s b (offer_outcome turned s limits sheet k) []
  end_on (accept limits start k) =
      ending (accept_outcome_by turned guided guide s limits sheet start k)
      (accept_map_by turned guided guide s limits sheet start k) (accept_entries_by turned guided guide s limits sheet start k)
      (accept_card_by turned guided guide s limits sheet start k) []
      (left (accept_summary_by turned guided guide s limits sheet start k))
  end_on (grow limits m) =
      ending (grow_outcome_by turned guided guide s limits sheet m) (grow_map_by turned guided guide s limits sheet m)
      (grow_entries_by turned guided guide s limits sheet m) (grow_card_by turned guided guide s limits sheet m) []
      (left (grow_summary_by turned guided guide s limits sheet m))
  end_on (put p payload) =
      ending (put_outcome turned s sheet p payload) s.map s.entries (put_card turned s sheet p payload) [] b
  end_on complete = ending (complete_outcome turned s sheet) s.map (complete_entries turned s sheet) s.card [] b
  end_on (change c) = ending (change_outcome turned s sheet c) s.map (change_entries turned s sheet c) s.card [] b
  end_on release =
      ending (release_outcome_by turned guided guide s sheet) (release_map_by turned guided guide s sheet)
      (release_entries_by turned guided guide s sheet) s.card [] (left (release_summary_by turned guided guide s sheet))
  end_on (show p buffer) = telling s b (show_outcome turned s sheet p buffer) (show_buffer turned s sheet p buffer)
  end_on (show_dated p date buffer) =
      telling s b (show_dated_outcome turned s sheet p date buffer) (show_dated_buffer turned s sheet p date buffer)
  end_on standing = telling s b (standing_outcome turned s sheet) []

-- The same of the whole card.
module _ (turned guided : Bool) (s : Kept) (b : Beside) where
  abbrev guide_for : List ℕ
  guide_for = cond guided b.summary []

  abbrev pub end_fresh : ℕ → End
  end_fresh n =
      ending (fresh_outcome turned s.shape n s.map s.entries) (fresh_map turned s.shape n s.map s.entries)
      (fresh_entries turned s.shape n s.map s.entries) s.card [] b

  abbrev pub end_save : End
  end_save =
      telling s
      (record {
        summary = b.summary;
        scratch = save_scratch turned s.shape s.map s.entries b.scratch b.image;
        image = save_image turned s.shape s.map s.entries b.scratch b.image;
      })
      (save_outcome turned s.shape s.map s.entries b.scratch b.image) []

  abbrev pub end_load : List ℕ → End
  end_load image =
      ending (load_outcome turned s.shape image s.map s.entries b.scratch)
      (load_map turned s.shape image s.map s.entries b.scratch)
      (load_entries turned s.shape image s.map s.entries b.scratch) s.card []
      (with_scratch (load_scratch turned s.shape image s.map s.entries b.scratch) b)

  abbrev pub end_close : End
  end_close =
      ending (close_outcome_by turned guided guide_for s b.scratch) (close_map_by turned guided guide_for s b.scratch)
      (close_entries_by turned guided guide_for s b.scratch) (close_card_by turned guided guide_for s b.scratch) []
      (record {
        summary = cond guided (close_summary_by turned guided guide_for s b.scratch) b.summary;
        scratch = close_scratch_by turned guided guide_for s b.scratch;
        image = b.image;
      })

  abbrev pub end_build : End
  end_build =
      telling s (with_summary (build_summary turned s.shape s.map b.summary) b)
      (build_outcome turned s.shape s.map b.summary) []

-- What every public call comes to.
module _ (m : Manner) (s : Kept) (b : Beside) where
  abbrev pub ends : Public → End
  ends (on sheet ask) = end_on (turned m (on sheet ask)) m.guided s b sheet ask
  ends (fresh n) = end_fresh (turned m (fresh n)) m.guided s b n
  ends (search k) = telling s b (search_outcome (turned m (search k)) s.shape s.map k) []
  ends survey = telling s b (survey_outcome (turned m survey) s.shape s.map) []
  ends save = end_save (turned m save) m.guided s b
  ends (load image) = end_load (turned m (load image)) m.guided s b image
  ends close = end_close (turned m close) m.guided s b
  ends build = end_build (turned m build) m.guided s b
  ends check = telling s b (check_outcome (turned m check) s.shape s.map b.summary) []
