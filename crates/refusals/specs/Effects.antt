-- What each call answers and leaves (document 01, "The ledger, call by call"): its verdict, then its change, or nothing
-- changed.
-- Assumes nothing.
use Rattle.std.specs.Prelude.{ℕ, ◌+◌, ◌-◌, Bool, false, not, cond, List, [], ◌∷◌, eqb, ltb, length}
use Rattle.std.proofs.Math.Bool.{true}
use Rattle.calendar.specs.Calendar.{Date}
use Rattle.calendar.specs.Term.{Term}
use Rattle.map_blocks.specs.Blocks as map-blocks
use Rattle.map_blocks.specs.Blocks.{fit}
use Rattle.map_blocks.specs.Maps.{marked}
use Rattle.blocks_of_card.specs.Card.{block_of, with_block, zeroed}
use Rattle.block_seals.specs.Sealed.{sealed, payload_of}
use Rattle.catalogue.specs.Entries.{absent, open_mark, complete_mark}
use Rattle.catalogue.specs.declared.Entry.{Entry}
use Rattle.catalogue_standings.specs.Rows.{row, Verdict, first_of, before, settle}
use Rattle.catalogue_standings.specs.Searches.{start_at, start_with_space}
use Rattle.refusals.specs.Guides.{found_by, guide_after}
use Rattle.refusals.specs.Lent.{Lent}
use Rattle.refusals.specs.Placement.{Placement, plain, figures_in}
use Rattle.refusals.specs.Table.{on, reserve, put, grow, complete, Change, change, mark_after, release, show, standing}
use Rattle.refusals.specs.Table.{lowest_blank}
use Rattle.refusals.specs.Table.{offer, accept, show_dated, opening, giving, adding, showing, term_rows, table_of, verdict_of}
use Rattle.refusals.specs.Views.{view_at, view_on}
use Rattle.catalogue_standings.specs.declared.Answer.{Answer}
use Rattle.catalogue_standings.specs.declared.Answer.TheVariants.{Done, Start, Reads, Blank, Refused}
use Rattle.refusals.specs.declared.Out.{Out}

abbrev pub entry_of : ℕ → ℕ → ℕ → Entry
entry_of mark start length = record { mark = mark; start = start; length = length }

abbrev pub out_of : ℕ → Entry → Answer → Out
out_of free e answer = record { free = free; entry = e; answer = answer }

-- A refusal hands the free count and the entry back as they came.
abbrev pub refusal_out : ℕ → Entry → ℕ → Out
refusal_out free e number = out_of free e (Refused number)

-- What the first rows say of a call that gives k blocks to an Absent sheet, and of one that adds k blocks to an Open one.
module _ (q : Lent) (k : ℕ) where
  unfoldable pub giving_verdict : Verdict
  unfolding view_on
  giving_verdict = first_of (opening (view_on q) q.sheet (giving (view_on q) k []))

  unfoldable pub adding_verdict : Verdict
  unfolding view_on
  adding_verdict = first_of (opening (view_on q) q.sheet (adding (view_on q) k []))

-- What row 18 and the rows of a run that is asked for say (`run_rows`), `over` saying that the limit is passed, and f which of
-- the n blocks are free.
unfoldable pub run_verdict : ℕ → Bool → (ℕ → Bool) → ℕ → ℕ → ℕ → ℕ → Verdict
run_verdict number over f n spare start k =
    first_of (row 18 over ∷ row number (not (fit f 0 n 1 k start)) ∷ row 4 (ltb spare k) ∷ [])

-- A sheet without blocks takes k from a start on, which are filled with zeros, and becomes Open: what is handed back and left
-- where the verdict is v. The space behind the start is that of the map as it was lent, before the marking.
module _ (q : Lent) (v : Verdict) (start k : ℕ) where
  unfoldable pub taken_out : Out
  taken_out =
      settle v (out_of (q.spare - k) (entry_of open_mark start k) (start_with_space (map-blocks.free q.map) q.n start))
      (refusal_out q.spare q.entry)

  unfoldable pub taken_map : List ℕ
  taken_map = settle v (marked q.map start k false) (λ number. q.map)

  unfoldable pub taken_card : List ℕ
  taken_card = settle v (zeroed q.card start k) (λ number. q.card)

  unfoldable pub taken_summary : List ℕ
  taken_summary =
      settle v (guide_after q.guided q.summary (marked q.map start k false) q.n start k) (λ number. q.summary)

-- Reserve: Absent becomes Open at the least fit within its figures.
module _ (q : Lent) (k : ℕ) (placement : Placement) where
  -- what the rows before its search say, which are those before 10
  unfoldable pub unsearched_verdict : Verdict
  unfolding view_on before table_of
  unsearched_verdict = first_of (before 10 (table_of (view_on q) (on q.sheet (reserve q.limits k placement))))

  unfoldable pub reserve_verdict : Verdict
  unfolding view_on
  reserve_verdict = verdict_of (view_on q) (on q.sheet (reserve q.limits k placement))

  unfoldable pub reserve_start : ℕ
  reserve_start = start_at (found_by q.guided q.summary q.map (figures_in q.n placement) k)

  unfoldable pub reserve_out : Out
  unfolding reserve_verdict reserve_start taken_out
  reserve_out = taken_out q reserve_verdict reserve_start k

  unfoldable pub reserve_map : List ℕ
  unfolding reserve_verdict reserve_start taken_map
  reserve_map = taken_map q reserve_verdict reserve_start k

  unfoldable pub reserve_card : List ℕ
  unfolding reserve_verdict reserve_start taken_card
  reserve_card = taken_card q reserve_verdict reserve_start k

  unfoldable pub reserve_summary : List ℕ
  unfolding reserve_verdict reserve_start taken_summary
  reserve_summary = taken_summary q reserve_verdict reserve_start k

-- Offer: where a plain reserve would start then, and the length; nothing changes (document 02 (f)).
unfoldable pub offer_answer : Lent → ℕ → Answer
unfolding view_on reserve_start
offer_answer q k = settle (verdict_of (view_on q) (on q.sheet (offer q.limits k))) (Start (reserve_start q k plain) k) Refused

-- Accept: what a reserve does, at the start that is asked for (document 02 (f)).
module _ (q : Lent) (start k : ℕ) where
  unfoldable pub accept_verdict : Verdict
  unfolding view_on
  accept_verdict = verdict_of (view_on q) (on q.sheet (accept q.limits start k))

  unfoldable pub accept_out : Out
  unfolding accept_verdict taken_out
  accept_out = taken_out q accept_verdict start k

  unfoldable pub accept_map : List ℕ
  unfolding accept_verdict taken_map
  accept_map = taken_map q accept_verdict start k

  unfoldable pub accept_card : List ℕ
  unfolding accept_verdict taken_card
  accept_card = taken_card q accept_verdict start k

  unfoldable pub accept_summary : List ℕ
  unfolding accept_verdict taken_summary
  accept_summary = taken_summary q accept_verdict start k

-- Grow: the m blocks after an Open extent are added, taken and filled with zeros.
module _ (q : Lent) (m : ℕ) where
  unfoldable pub grow_verdict : Verdict
  unfolding view_on
  grow_verdict = verdict_of (view_on q) (on q.sheet (grow q.limits m))

  unfoldable pub grow_out : Out
  unfolding grow_verdict
  grow_out = settle grow_verdict (out_of (q.spare - m) (entry_of open_mark q.entry.start (q.entry.length + m)) Done)
      (refusal_out q.spare q.entry)

  unfoldable pub grow_map : List ℕ
  unfolding grow_verdict
  grow_map = settle grow_verdict (marked q.map (q.entry.start + q.entry.length) m false) (λ number. q.map)

  unfoldable pub grow_card : List ℕ
  unfolding grow_verdict
  grow_card = settle grow_verdict (zeroed q.card (q.entry.start + q.entry.length) m) (λ number. q.card)

  unfoldable pub grow_summary : List ℕ
  unfolding grow_verdict
  grow_summary =
      let end = q.entry.start + q.entry.length in
      settle grow_verdict (guide_after q.guided q.summary (marked q.map end m false) q.n end m)
      (λ number. q.summary)

-- Put: on Open, that place's block becomes the sealed payload.
module _ (q : Lent) (place : ℕ) (payload : List ℕ) where
  unfoldable pub put_verdict : Verdict
  unfolding view_on
  put_verdict = verdict_of (view_on q) (on q.sheet (put place payload))

  unfoldable pub put_answer : Answer
  unfolding put_verdict
  put_answer = settle put_verdict Done Refused

  unfoldable pub put_card : List ℕ
  unfolding put_verdict
  put_card = settle put_verdict (with_block q.card (q.entry.start + place) (sealed q.sheet place payload))
      (λ number. q.card)

-- Complete: Open becomes Complete if every place is filled. With 9 goes the lowest blank place (document 02 (d)).
module _ (q : Lent) where
  unfoldable pub complete_verdict : Verdict
  unfolding view_on
  complete_verdict = verdict_of (view_on q) (on q.sheet complete)

  unfoldable pub blank_place : ℕ
  unfolding view_on lowest_blank
  blank_place = lowest_blank (view_on q)

  unfoldable pub complete_out : Out
  unfolding complete_verdict blank_place
  complete_out =
      settle complete_verdict (out_of q.spare (entry_of complete_mark q.entry.start q.entry.length) Done)
      (λ number. out_of q.spare q.entry (cond (eqb number 9) (Blank blank_place) (Refused number)))

module _ (q : Lent) where
  -- Pause and resume: the mark changes; start and length remain, 0 and 0 of an Absent sheet (document 02 (g)).
  unfoldable pub change_verdict : Change → Verdict
  unfolding view_at
  change_verdict c = verdict_of (view_at q) (on q.sheet (change c))

  unfoldable pub change_out : Change → Out
  unfolding change_verdict
  change_out c = settle (change_verdict c) (out_of q.spare (entry_of (mark_after c) q.entry.start q.entry.length) Done)
      (refusal_out q.spare q.entry)

  -- Release: any standing but Absent becomes Absent, its blocks free; the card's bytes stay.
  unfoldable pub release_verdict : Verdict
  unfolding view_at
  release_verdict = verdict_of (view_at q) (on q.sheet release)

  unfoldable pub release_out : Out
  unfolding release_verdict
  release_out = settle release_verdict (out_of (q.spare + q.entry.length) absent Done) (refusal_out q.spare q.entry)

  unfoldable pub release_map : List ℕ
  unfolding release_verdict
  release_map = settle release_verdict (marked q.map q.entry.start q.entry.length true) (λ number. q.map)

  unfoldable pub release_summary : List ℕ
  unfolding release_verdict
  release_summary =
      let map = marked q.map q.entry.start q.entry.length true in
      settle release_verdict (guide_after q.guided q.summary map q.n q.entry.start q.entry.length)
      (λ number. q.summary)

  -- Standing: answers mark, start and length.
  unfoldable pub standing_answer : Answer
  unfolding view_at
  standing_answer = settle (verdict_of (view_at q) (on q.sheet standing))
      (Reads q.entry.mark q.entry.start q.entry.length) Refused

-- What the first rows say of a call that shows a place of a Complete sheet.
unfoldable pub showing_verdict : Lent → ℕ → List ℕ → Verdict
unfolding view_on
showing_verdict q place buffer = first_of (opening (view_on q) q.sheet (showing (view_on q) place buffer []))

-- What the rows of a date say, by whether place 0 is sound and by the term that its payload starts with (document 02 (m)).
unfoldable pub term_verdict : Bool → Term → Date → Verdict
term_verdict sound term date = first_of (term_rows sound term date [])

-- What the last row says: the block of the place is sound.
unfoldable pub block_verdict : Bool → Verdict
block_verdict sound = first_of (row 4 (not sound) ∷ [])

-- What a show answers, and what its buffer holds then: a Complete sheet's payload is copied out of its block.
abbrev pub shown_answer : Verdict → Answer
shown_answer v = settle v Done Refused

abbrev pub shown_buffer : Verdict → List ℕ → List ℕ → List ℕ
shown_buffer v block buffer = settle v (payload_of block) (λ number. buffer)

module _ (q : Lent) (place : ℕ) (buffer : List ℕ) where
  unfoldable pub show_verdict : Verdict
  unfolding view_on
  show_verdict = verdict_of (view_on q) (on q.sheet (show place buffer))

  unfoldable pub show_answer : Answer
  unfolding show_verdict
  show_answer = shown_answer show_verdict

  unfoldable pub show_buffer : List ℕ
  unfolding show_verdict
  show_buffer = shown_buffer show_verdict (block_of q.card (q.entry.start + place)) buffer

-- A dated show "otherwise does and answers what show does" (document 02 (m)).
module _ (q : Lent) (place : ℕ) (date : Date) (buffer : List ℕ) where
  unfoldable pub show_dated_verdict : Verdict
  unfolding view_on
  show_dated_verdict = verdict_of (view_on q) (on q.sheet (show_dated place date buffer))

  unfoldable pub show_dated_answer : Answer
  unfolding show_dated_verdict
  show_dated_answer = shown_answer show_dated_verdict

  unfoldable pub show_dated_buffer : List ℕ
  unfolding show_dated_verdict
  show_dated_buffer = shown_buffer show_dated_verdict (block_of q.card (q.entry.start + place)) buffer
