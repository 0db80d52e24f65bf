-- When to save: the rule that a program can keep, and what then holds when the power goes, any number of times in a card's
-- life.
-- That it holds is `the_rule` in proofs/Rule.antt.
-- Assumes nothing.
use Rattle.std.specs.Prelude.{ℕ, ◌+◌, ◌≡◌, ◌⊎◌, Bool, true, false, ◌&&◌, ◌||◌, cond, List, [], ◌∷◌, length}
use Rattle.blocks_of_card.specs.Card.{block_of}
use Rattle.block_seals.specs.Sealed.{sound}
use Rattle.calendar.specs.Calendar.{Date}
use Rattle.catalogue.specs.Entries.{entry_at}
use Rattle.catalogue_standings.specs.Standings.{is_paused, is_complete}
use Rattle.catalogue_standings.specs.declared.Answer.TheVariants.{Refused}
use Rattle.catalogue_standings.specs.declared.Standing.TheVariants.{Open, Complete}
use Rattle.refusals.specs.Table.{Ask, show, show_dated}
use Rattle.card.specs.Calls.{Kept}
use Rattle.card.specs.Public.{Public, on, Manner, Beside, End, ends, kept_after}
use Rattle.ledger.specs.Lists.{Made, end_of}
use Rattle.role_lists.specs.Carers.{stands}
use Rattle.role_lists.specs.Service.{ShowsAsBefore}
use Rattle.power_cuts.specs.Images.{SavedAs, Anew, recalled, GivesBack}
use Rattle.power_cuts.specs.Own.{OwnBlocks, Mended}
use Rattle.power_cuts.specs.Sorts.{sort_of, takes, frees, moves, loads, saves, done}

-- ---- where a card's life has come to

-- The last image and the state that it was saved of, with the card as it was then; what is kept now; and what the program
-- notes:
-- that a release or a fresh was accepted since, that a closing was, and that a cut fell between a closing and its save.
pub record Point : Type 0 where
  pub image : List ℕ
  pub saved : Kept
  pub now : Kept
  pub released : Bool
  pub moved : Bool
  pub doubtful : Bool

-- A state was just saved; `doubtful`, if a held block may be sound for another sheet or place than its own, as after a load of
-- another image than the last.
abbrev pub begin : Kept → List ℕ → Bool → Point
begin s image doubtful = record {
  image = image;
  saved = s;
  now = s;
  released = false;
  moved = false;
  doubtful = doubtful;
}

-- Which of its sort a call was, if it was accepted.
module _ (p : Point) (m : Made) where
  abbrev pub ending : End
  ending = end_of p.now m

  abbrev pub left : Kept
  left = kept_after ending

  abbrev pub took : Bool
  took = takes (sort_of m.call) && done ending

  abbrev pub freed : Bool
  freed = frees (sort_of m.call) && done ending

  abbrev pub closed : Bool
  closed = moves (sort_of m.call) && done ending

  abbrev pub loaded : Bool
  loaded = loads (sort_of m.call) && done ending

  abbrev pub was_saved : Bool
  was_saved = saves (sort_of m.call) && done ending

  -- After a call: after a save that was done, which makes the last image, and after any other.
  abbrev pub after_save : Point
  after_save = record {
    image = ending.beside.image;
    saved = left;
    now = left;
    released = false;
    moved = false;
    doubtful = p.doubtful;
  }

  abbrev pub after_other : Point
  after_other = record {
    image = p.image;
    saved = p.saved;
    now = left;
    released = p.released || freed;
    moved = p.moved || closed;
    doubtful = cond closed false p.doubtful;
  }

  abbrev pub after_call : Point
  after_call = cond was_saved after_save after_other

  -- After a cut in the middle of that call, which leaves the card so: the last image is loaded.
  abbrev pub after_cut : List ℕ → Point
  after_cut card = record {
    image = p.image;
    saved = p.saved;
    now = recalled p.saved card;
    released = false;
    moved = p.moved || closed;
    doubtful = p.doubtful || (p.moved || closed);
  }

-- ---- the rule

-- A call that the rule allows. After an accepted release or fresh no blocks are taken before a save; where a cut fell between a
-- closing and its save, no closing is made before every place of every sheet is blank or sound for it. A load has no place but
-- after a cut.
pub record Allowed (p : Point) (m : Made) : Type 0 where
  pub takes_none : took p m ≡ true → p.released ≡ false
  pub closes_mended : closed p m ≡ true → (p.doubtful ≡ false) ⊎ Mended p.now
  pub no_load : loaded p m ≡ false

-- What a cut in the middle of a call leaves of the card: each block has its old bytes or its new ones, or is torn. Only a block
-- that the call was to change is torn, and of a torn block this is assumed: it passes no check for another sheet or place than
-- its own, which are the sheet that the call is for and the place where the block stands when it is done. Of a block that a
-- closing was to write it is assumed that it passes no check.
pub record Torn (c : Public) (s t : Kept) (b : ℕ) (block : List ℕ) : Type 0 where
  pub changed : block_of s.card b ≡ block_of t.card b → ⊥
  pub passes_no_other : (sheet place : ℕ) → sound sheet place block ≡ true
      → (asked : Ask) × (c ≡ on sheet asked) × ((entry_at t.entries sheet).start + place ≡ b)

abbrev pub OldNewOrTorn : Public → Kept → Kept → ℕ → List ℕ → Type 0
OldNewOrTorn c s t b block =
    (block ≡ block_of s.card b) ⊎ ((block ≡ block_of t.card b) ⊎ Torn c s t b block)

pub record CutIn (p : Point) (m : Made) (card : List ℕ) : Type 0 where
  pub lengths : length card ≡ length p.now.card
  pub blocks : (b : ℕ) → OldNewOrTorn m.call p.now (left p m) b (block_of card b)

-- A life: calls, and cuts, each in the middle of a call.
pub data Event : Type 0 where
  makes : Made → Event
  cuts : Made → List ℕ → Event

abbrev pub next : Point → Event → Point
next p (makes m) = after_call p m
next p (cuts m card) = after_cut p m card

abbrev pub KeepsRule : Point → List Event → Type 0
KeepsRule p [] = Unit {0}
KeepsRule p (makes m ∷ events) = Allowed p m × KeepsRule (after_call p m) events
KeepsRule p (cuts m card ∷ events) = Allowed p m × CutIn p m card × KeepsRule (after_cut p m card) events

abbrev pub lived : Point → List Event → Point
lived p [] = p
lived p (e ∷ events) = lived (next p e) events

-- ---- what holds when the power goes

-- What a call came to before, or a refusal with 4, the buffer left as it was.
abbrev pub AsBeforeOr4 : End → End → List ℕ → Type 0
AsBeforeOr4 before e buffer =
    ((e.outcome ≡ before.outcome) × (e.buffer ≡ before.buffer))
    ⊎ ((e.outcome.answer ≡ Refused 4) × (e.buffer ≡ buffer))

-- The sheet stands neither Paused, with blocks or without, nor Complete.
abbrev pub Unfinished : Kept → ℕ → Type 0
Unfinished s sheet = (is_paused (stands s sheet) ≡ false) × (is_complete (stands s sheet) ≡ false)

-- A sheet shows in state u what it showed in s, or is refused with 4 and its buffer left as it was.
pub record ShowsOrRefuses (s u : Kept) (sheet : ℕ) : Type 0 where
  pub plainly : (m : Manner) (b : Beside) (place : ℕ) (buffer : List ℕ)
      → AsBeforeOr4 (ends m s b (on sheet (show place buffer))) (ends m u b (on sheet (show place buffer))) buffer
  pub on_a_day : (m : Manner) (b : Beside) (place : ℕ) (date : Date) (buffer : List ℕ)
      → AsBeforeOr4 (ends m s b (on sheet (show_dated place date buffer)))
      (ends m u b (on sheet (show_dated place date buffer)))
      buffer

-- From point p the power goes in the middle of a call that the rule allows, and leaves this card.
pub record Safe (p : Point) (m : Made) (card : List ℕ) : Type 0 where
  -- the last image loads, and gives the state back that it was saved of
  pub gives_back : (u : Kept) (manner : Manner) (b : Beside) → Anew p.saved u manner b
      → GivesBack p.saved u manner b p.image
  -- each sheet that it has Complete shows what it showed when that image was saved
  pub shows : (p.moved || closed p m) ≡ false → (sheet start count : ℕ) → stands p.saved sheet ≡ Complete start count
      → ShowsAsBefore p.saved (recalled p.saved card) sheet
  -- or is refused with 4, while a closing is unsaved
  pub shows_or_refuses : (sheet start count : ℕ) → stands p.saved sheet ≡ Complete start count
      → ShowsOrRefuses p.saved (recalled p.saved card) sheet
  -- no sheet that was Open at the cut, before the call or after it, stands Paused or Complete
  pub open_before : (sheet start count : ℕ) → stands p.now sheet ≡ Open start count → Unfinished p.saved sheet
  pub open_after : (sheet start count : ℕ) → stands (left p m) sheet ≡ Open start count → was_saved p m ≡ false
      → Unfinished p.saved sheet
  -- no held block is sound for another sheet or place, but after a cut between a closing and its save
  pub own : (after_cut p m card).doubtful ≡ false → OwnBlocks (recalled p.saved card)

-- Of every life that keeps the rule, from any save of a state: one in which each held block is sound for its own sheet and
-- place
-- alone, as every list from a fresh card leaves it, or a doubtful one.
abbrev pub TheRule : Type 0
TheRule =
    (s : Kept) (image : List ℕ) (doubtful : Bool) → SavedAs s image → (doubtful ≡ false → OwnBlocks s)
    → (events : List Event) → KeepsRule (begin s image doubtful) events
    → (m : Made) (card : List ℕ) → Allowed (lived (begin s image doubtful) events) m
    → CutIn (lived (begin s image doubtful) events) m card
    → Safe (lived (begin s image doubtful) events) m card
