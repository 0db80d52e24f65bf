-- What a call does to the kept state, whoever makes it, by the map or guided by any summary: a few things, of which every
-- theorem
-- here is told. That each call does one of them is in EveryCall.antt.
-- Assumes nothing.
use Prim.Native.Nat.{ℕ, ◌+◌, ◌<◌, ◌≤◌}
use mathlib.Core.Path.{◌≡◌}
use mathlib.Core.Logic.{◌⊎◌}
use mathlib.Core.Bool.{Bool, true, false, ◌&&◌}
use mathlib.Core.List.{List}
use lib.ListN.{length, set, replicate}
use Rattle.map_blocks.specs.Blocks.{free}
use Rattle.map_blocks.specs.Maps.{marked, fresh_map}
use Rattle.blocks_of_card.specs.Card.{with_block, zeroed}
use Rattle.block_seals.specs.Sealed.{sealed}
use Rattle.catalogue.specs.Entries.{entry_at, absent, paused_mark, open_mark, complete_mark}
use Rattle.catalogue.specs.declared.Entry.{Entry}
use Rattle.catalogue_standings.specs.Rows.{accepted}
use Rattle.catalogue_standings.specs.declared.Standing.{Standing}
use Rattle.catalogue_standings.specs.declared.Standing.TheVariants.{Absent, PausedWith, Open, Complete}
use Rattle.catalogue_standings.proofs.Limits.{CardFits}
use Rattle.refusals.specs.Effects.{entry_of}
use Rattle.closing.specs.Closed.{closed_entries, closed_card, closed_map}
use Rattle.closing.specs.Table.{close_verdict}
use Rattle.card.specs.Calls.{Kept, saved_state}
use Rattle.refusals.specs.Table as table
use Rattle.card.specs.Public.{Public, on}
use Rattle.role_lists.specs.Carers.{stands}
use Rattle.power_cuts.specs.Held.{Sound}
use Rattle.power_cuts.specs.Sorts.{sort_of, moves, taking, marking, releasing, closing, beginning, loading}

abbrev pub entry_in : Kept → ℕ → Entry
entry_in s sheet = entry_at s.entries sheet

abbrev pub CardFitsIn : Kept → Type 0
CardFitsIn s = CardFits s.shape.blocks s.shape.free (length s.map) (length s.card)

-- A sheet without blocks, or Open with count blocks from start on, takes k free blocks from `from` on, which are filled with
-- zeros; it is Open with `total` blocks then.
pub record Took (s t : Kept) (sheet start count from k total : ℕ) : Type 0 where
  pub sizes : CardFitsIn s
  pub listed : sheet < length s.entries
  pub before : ((stands s sheet ≡ Absent) × (count ≡ 0)) ⊎ (stands s sheet ≡ Open start count)
  pub from_is : from ≡ start + count
  pub total_is : total ≡ count + k
  pub some : 1 ≤ k
  pub inside : from + k ≤ s.shape.blocks
  pub unheld : (b : ℕ) → from ≤ b → b < from + k → free s.map b ≡ true
  pub blocks_now : t.shape.blocks ≡ s.shape.blocks
  pub map_now : t.map ≡ marked s.map from k false
  pub entries_now : t.entries ≡ set s.entries sheet (entry_of open_mark start total)
  pub card_now : t.card ≡ zeroed s.card from k

-- A place of an Open sheet is written.
pub record Put (s t : Kept) (sheet start count place : ℕ) (payload : List ℕ) : Type 0 where
  pub sizes : CardFitsIn s
  pub few : sheet < 1024
  pub before : stands s sheet ≡ Open start count
  pub placed : place < count
  pub bytes : length payload ≡ 496
  pub shape_now : t.shape ≡ s.shape
  pub map_now : t.map ≡ s.map
  pub entries_now : t.entries ≡ s.entries
  pub card_now : t.card ≡ with_block s.card (start + place) (sealed sheet place payload)

-- A mark is changed: an Open sheet is completed, an Absent or a Complete one paused, a paused course resumed.
pub data Turns (was : Standing) (mark : ℕ) : Type 0 where
  completes : (start count : ℕ) → was ≡ Open start count → mark ≡ complete_mark → Turns was mark
  pauses_none : was ≡ Absent → mark ≡ paused_mark → Turns was mark
  pauses : (start count : ℕ) → was ≡ Complete start count → mark ≡ paused_mark → Turns was mark
  resumes : (start count : ℕ) → was ≡ PausedWith start count → mark ≡ complete_mark → Turns was mark

pub record Marked (s t : Kept) (sheet mark : ℕ) : Type 0 where
  pub listed : sheet < length s.entries
  pub turns : Turns (stands s sheet) mark
  pub shape_now : t.shape ≡ s.shape
  pub map_now : t.map ≡ s.map
  pub entries_now : t.entries ≡ set s.entries sheet (entry_of mark (entry_in s sheet).start (entry_in s sheet).length)
  pub card_now : t.card ≡ s.card

-- A sheet is released: it is Absent, and its blocks are free.
pub record Released (s t : Kept) (sheet : ℕ) : Type 0 where
  pub listed : sheet < length s.entries
  pub blocks_now : t.shape.blocks ≡ s.shape.blocks
  pub map_now : t.map ≡ marked s.map (entry_in s sheet).start (entry_in s sheet).length true
  pub entries_now : t.entries ≡ set s.entries sheet absent
  pub card_now : t.card ≡ s.card

-- The gaps of a sound state are closed.
pub record Closed (s t : Kept) : Type 0 where
  pub away : Bool
  pub fits : Bool
  pub scratch : List ℕ
  pub was_accepted : close_verdict away (saved_state s.shape s.map s.entries) fits (length s.card)
      (length scratch) ≡ accepted
  pub shape_now : t.shape ≡ s.shape
  pub map_now : t.map ≡ closed_map s.entries s.shape.blocks s.map
  pub entries_now : t.entries ≡ closed_entries s.entries
  pub card_now : t.card ≡ closed_card s.entries s.card

-- All sheets are Absent.
pub record Began (s t : Kept) : Type 0 where
  pub map_now : t.map ≡ fresh_map t.shape.blocks (length s.map)
  pub entries_now : t.entries ≡ replicate (length s.entries) absent
  pub card_now : t.card ≡ s.card

-- The state of a sound image.
pub record Loaded (s t : Kept) : Type 0 where
  pub sound_now : Sound t
  pub card_now : t.card ≡ s.card

-- What call c comes to, from state s to state t; `was_done_lem` says that it was accepted.
pub data Deed (s t : Kept) (c : Public) (was_done_lem : Bool) : Type 0 where
  nothing : t ≡ s → (moves (sort_of c) && was_done_lem) ≡ false → Deed s t c was_done_lem
  took : sort_of c ≡ taking → was_done_lem ≡ true → (sheet start count from k total : ℕ)
      → Took s t sheet start count from k total
      → (asked : table.Ask) → c ≡ on sheet asked → Deed s t c was_done_lem
  put : (sheet start count place : ℕ) (payload : List ℕ) → c ≡ on sheet (table.put place payload)
      → Put s t sheet start count place payload
      → Deed s t c was_done_lem
  marks : sort_of c ≡ marking → (sheet mark : ℕ) → Marked s t sheet mark → Deed s t c was_done_lem
  released : sort_of c ≡ releasing → was_done_lem ≡ true → (sheet : ℕ) → Released s t sheet → Deed s t c was_done_lem
  closed : sort_of c ≡ closing → was_done_lem ≡ true → Closed s t → Deed s t c was_done_lem
  began : sort_of c ≡ beginning → was_done_lem ≡ true → Began s t → Deed s t c was_done_lem
  loaded : sort_of c ≡ loading → was_done_lem ≡ true → Loaded s t → Deed s t c was_done_lem
