-- A refusal hands the shape back as it came and changes nothing that is lent (document 01, "What the caller gets instead"):
-- for each call that may change something, what its contract says where its verdict is a refusal.
-- Assumes nothing.
use mathlib.Core.Path.{◌≡◌, refl, ap, ◌∙◌}
use mathlib.Core.Bool.{Bool, false, true, not, cond}
use mathlib.Core.List.{List, [], ◌∷◌}
use Prim.Native.Nat.{ℕ, ◌+◌, ◌-◌}
use lib.Dec.{eqb}
use lib.ListN.{length, set}
use borrow.Author.Tests.{ne_eqb}
use Rattle.map_blocks.specs.Blocks as map-blocks
use Rattle.map_blocks.specs.Maps as maps
use Rattle.map_blocks.specs.Maps.{marked}
use Rattle.blocks_of_card.specs.Card.{block_of, with_block, zeroed}
use Rattle.block_seals.specs.Sealed.{sealed, payload_of}
use Rattle.catalogue.specs.Entries.{entry_at, cleared_if, open_mark, complete_mark, absent_mark}
use Rattle.catalogue.specs.declared.Entry.{Entry}
use Rattle.catalogue.proofs.Storing.{stored_back}
use Rattle.catalogue_standings.proofs.Rows.{never_says}
use Rattle.call_search.specs.Answers.{fresh_verdict}
use Rattle.refusals.specs.Lent.{Lent, no_card}
use Rattle.refusals.specs.Placement.{Placement}
use Rattle.refusals.specs.Effects as effects
use Rattle.catalogue_standings.specs.Limits.{fresh_fits}
use Rattle.catalogue_standings.specs.Rows.{Row, row, Verdict, refused, settle, row_number}
use Rattle.catalogue_standings.specs.Searches.{start_with_space}
use Rattle.catalogue_standings.specs.declared.Answer.{Answer}
use Rattle.catalogue_standings.specs.declared.Answer.TheVariants.{Done, Blank, Refused}
use Rattle.refusals.specs.declared.Out.{Out}
use Rattle.card.specs.declared.Shape.{Shape}
use Rattle.refusals.specs.Guides.{guide_after}
use Rattle.card.specs.declared.Outcome.{Outcome}
use Rattle.card.specs.Calls.{lent_by, lent_by_within}
use Rattle.card.specs.Calls.{reserve_outcome_by, reserve_map_by, reserve_summary_by, reserve_entries_by, reserve_card_by}
use Rattle.card.specs.Calls.{accept_outcome_by, accept_map_by, accept_summary_by, accept_entries_by, accept_card_by}
use Rattle.card.specs.Calls.{grow_outcome_by, grow_map_by, grow_summary_by, grow_entries_by, grow_card_by}
use Rattle.card.specs.Calls.{release_outcome_by, release_map_by, release_summary_by, release_entries_by}
use Rattle.card.specs.Calls.{Kept, lent_to, told, outcome_of, is_done, fresh_outcome, fresh_map, fresh_entries}
use Rattle.card.specs.Calls.{put_outcome, put_card, complete_outcome, complete_entries}
use Rattle.card.specs.Calls.{change_outcome, change_entries}
use Rattle.refusals.specs.Table.{Change, mark_after}
use Rattle.calendar.specs.Calendar.{Date}
use Rattle.card.specs.Calls.{show_outcome, show_buffer}
use Rattle.card.specs.Calls.{show_dated_outcome, show_dated_buffer}

-- a refused call hands back the free count and the entry that it was given: shape and entries are as they were
handed_back : (shape : Shape) (entries : List Entry) (sheet : ℕ) (answer : Answer) (out : Out)
    → out ≡ effects.out_of shape.free (entry_at entries sheet) answer
    → (outcome_of shape out ≡ told shape answer) × (set entries sheet out.entry ≡ entries)
handed_back shape entries sheet answer out e =
    (ap (outcome_of shape) e, ap (λ (o : Out). set entries sheet o.entry) e ∙ stored_back entries sheet)

-- ---- the calls that have a form with a summary: a refusal changes no summary either

module _ (turned guided : Bool) (summary : List ℕ) (s : Kept) (sheet number : ℕ) where
  abbrev spare_by : ℕ
  spare_by = s.shape.free

  abbrev entry_by : Entry
  entry_by = entry_at s.entries sheet

  -- within limits
  abbrev lent_on : List ℕ → Lent
  lent_on limits = lent_by_within turned guided summary s s.card limits sheet

  abbrev lent_bare : Lent
  lent_bare = lent_by turned guided summary s no_card sheet

  -- what is left of map, summary and card, where k blocks from a start on would become taken, or free
  kept_back : (v : Verdict) (start k : ℕ) (to : Bool) → v ≡ refused number
      → (settle v (marked s.map start k to) (λ number. s.map) ≡ s.map)
      × (settle v (guide_after guided summary (marked s.map start k to) s.shape.blocks start k) (λ number. summary)
      ≡ summary)
      × (settle v (zeroed s.card start k) (λ number. s.card) ≡ s.card)
  kept_back v start k to h = (
    ap (λ (w : Verdict). settle w (marked s.map start k to) (λ number. s.map)) h,
    ap (λ (w : Verdict). settle w (guide_after guided summary (marked s.map start k to) s.shape.blocks start k)
        (λ number. summary)) h,
    ap (λ (w : Verdict). settle w (zeroed s.card start k) (λ number. s.card)) h,
  )

  abbrev Refuses : Outcome → List ℕ → List ℕ → List Entry → List ℕ → Type 0
  Refuses outcome map summary' entries card =
      (outcome ≡ told s.shape (Refused number))
      × (map ≡ s.map)
      × (summary' ≡ summary)
      × (entries ≡ s.entries)
      × (card ≡ s.card)

  -- plain and placed
  pub reserve_refused_by : (limits : List ℕ) (k : ℕ) (p : Placement) → effects.reserve_verdict (lent_on limits) k p ≡ refused
      number
      → Refuses (reserve_outcome_by turned guided summary s limits sheet k p)
      (reserve_map_by turned guided summary s limits sheet
      k p)
      (reserve_summary_by turned guided summary s limits sheet k p)
      (reserve_entries_by turned guided summary s limits sheet k p)
      (reserve_card_by turned guided summary s limits sheet k p)
  unfolding effects.reserve_out effects.reserve_map effects.reserve_summary effects.reserve_card effects.taken_out
      effects.taken_map effects.taken_summary effects.taken_card
  reserve_refused_by limits k p h =
      let start : ℕ = effects.reserve_start (lent_on limits) k p in
      let same = kept_back (effects.reserve_verdict (lent_on limits) k p) start k false h in
      let back =
      handed_back s.shape s.entries sheet (Refused number) _
      (ap (λ (v : Verdict). settle v (effects.out_of (spare_by - k) (effects.entry_of open_mark start k)
      (start_with_space (map-blocks.free s.map) s.shape.blocks start))
      (effects.refusal_out spare_by entry_by)) h) in
      (back.0, same.0, same.1, back.1, same.2)

  pub accept_refused_by : (limits : List ℕ) (start k : ℕ) → effects.accept_verdict (lent_on limits) start k ≡ refused number
      → Refuses (accept_outcome_by turned guided summary s limits sheet start k) (accept_map_by turned guided summary s limits
      sheet start k)
      (accept_summary_by turned guided summary s limits sheet start k) (accept_entries_by turned guided summary s limits sheet
      start k)
      (accept_card_by turned guided summary s limits sheet start k)
  unfolding effects.accept_out effects.accept_map effects.accept_summary effects.accept_card effects.taken_out effects.taken_map
      effects.taken_summary effects.taken_card
  accept_refused_by limits start k h =
      let same = kept_back (effects.accept_verdict (lent_on limits) start k) start k false h in
      let back =
      handed_back s.shape s.entries sheet (Refused number) _
      (ap (λ (v : Verdict). settle v (effects.out_of (spare_by - k) (effects.entry_of open_mark start k)
      (start_with_space (map-blocks.free s.map) s.shape.blocks start))
      (effects.refusal_out spare_by entry_by)) h) in
      (back.0, same.0, same.1, back.1, same.2)

  pub grow_refused_by : (limits : List ℕ) (m : ℕ) → effects.grow_verdict (lent_on limits) m ≡ refused number
      → Refuses (grow_outcome_by turned guided summary s limits sheet m) (grow_map_by turned guided summary s limits sheet m)
      (grow_summary_by turned guided summary s limits sheet m) (grow_entries_by turned guided summary s limits sheet m)
      (grow_card_by turned guided summary s limits sheet m)
  unfolding effects.grow_out effects.grow_map effects.grow_summary effects.grow_card
  grow_refused_by limits m h =
      let same = kept_back (effects.grow_verdict (lent_on limits) m) (entry_by.start + entry_by.length) m false h in
      let back =
      handed_back s.shape s.entries sheet (Refused number) _
      (ap (λ (v : Verdict). settle v
      (effects.out_of (spare_by - m) (effects.entry_of open_mark entry_by.start (entry_by.length + m)) Done)
      (effects.refusal_out spare_by entry_by)) h) in
      (back.0, same.0, same.1, back.1, same.2)

  pub release_refused_by : effects.release_verdict lent_bare ≡ refused number
      → Refuses (release_outcome_by turned guided summary s sheet) (release_map_by turned guided summary s sheet)
      (release_summary_by turned guided summary s sheet) (release_entries_by turned guided summary s sheet) s.card
  unfolding effects.release_out effects.release_map effects.release_summary
  release_refused_by h =
      let same = kept_back (effects.release_verdict lent_bare) entry_by.start entry_by.length true h in
      let back =
      handed_back s.shape s.entries sheet (Refused number) _
      (ap (λ (v : Verdict). settle v (effects.out_of (spare_by + entry_by.length) (effects.entry_of absent_mark 0 0) Done)
      (effects.refusal_out spare_by entry_by)) h) in
      (back.0, same.0, same.1, back.1, refl)

-- ---- the other calls

module _ (turned : Bool) (s : Kept) (sheet number : ℕ) where
  abbrev free : ℕ
  free = s.shape.free

  abbrev e : Entry
  e = entry_at s.entries sheet

  abbrev q : Lent
  q = lent_to turned s s.card sheet

  abbrev bare : Lent
  bare = lent_to turned s no_card sheet

  pub put_refused : (place : ℕ) (payload : List ℕ) → effects.put_verdict q place payload ≡ refused number
      → (put_outcome turned s sheet place payload ≡ told s.shape (Refused number))
      × (put_card turned s sheet place payload ≡ s.card)
  unfolding effects.put_answer effects.put_card
  put_refused place payload h = (
    ap (λ (v : Verdict). told s.shape (settle v Done Refused)) h,
    ap (λ (v : Verdict). settle v (with_block s.card (e.start + place) (sealed sheet place payload)) (λ number. s.card)) h,
  )

  -- with 9 goes the lowest blank place
  pub complete_refused : effects.complete_verdict q ≡ refused number
      → (complete_outcome turned s sheet ≡ told s.shape (cond (eqb number 9) (Blank (effects.blank_place q)) (Refused number)))
      × (complete_entries turned s sheet ≡ s.entries)
  unfolding effects.complete_out
  complete_refused h =
      let place : ℕ = effects.blank_place q in
      handed_back s.shape s.entries sheet (cond (eqb number 9) (Blank place) (Refused number)) _
      (ap (λ (v : Verdict). settle v (effects.out_of free (effects.entry_of complete_mark e.start e.length) Done)
      (λ k. effects.out_of free e (cond (eqb k 9) (Blank place) (Refused k)))) h)

  pub change_refused : (c : Change) → effects.change_verdict bare c ≡ refused number
      → (change_outcome turned s sheet c ≡ told s.shape (Refused number)) × (change_entries turned s sheet c ≡ s.entries)
  unfolding effects.change_out
  change_refused c h =
      handed_back s.shape s.entries sheet (Refused number) _
      (ap (λ (v : Verdict). settle v (effects.out_of free (effects.entry_of (mark_after c) e.start e.length) Done)
      (effects.refusal_out free e)) h)

  pub show_refused : (place : ℕ) (buffer : List ℕ) → effects.show_verdict q place buffer ≡ refused number
      → (show_outcome turned s sheet place buffer ≡ told s.shape (Refused number))
      × (show_buffer turned s sheet place buffer ≡ buffer)
  unfolding effects.show_answer effects.show_buffer
  show_refused place buffer h = (
    ap (λ (v : Verdict). told s.shape (settle v Done Refused)) h,
    ap (λ (v : Verdict). settle v (payload_of (block_of s.card (e.start + place))) (λ number. buffer)) h,
  )

  pub show_dated_refused : (place : ℕ) (date : Date) (buffer : List ℕ)
      → effects.show_dated_verdict q place date buffer ≡ refused number
      → (show_dated_outcome turned s sheet place date buffer ≡ told s.shape (Refused number))
      × (show_dated_buffer turned s sheet place date buffer ≡ buffer)
  unfolding effects.show_dated_answer effects.show_dated_buffer
  show_dated_refused place date buffer h = (
    ap (λ (v : Verdict). told s.shape (settle v Done Refused)) h,
    ap (λ (v : Verdict). settle v (payload_of (block_of s.card (e.start + place))) (λ number. buffer)) h,
  )

-- fresh too, by its number
abbrev pub fresh_by : Shape → ℕ → Bool → ℕ → Outcome
fresh_by shape blocks done number = cond done (told (record { blocks = blocks; free = blocks }) Done) (told shape (Refused
    number))

pub fresh_refused : (turned : Bool) (shape : Shape) (blocks : ℕ) (map : List ℕ) (entries : List Entry) (number : ℕ)
    → fresh_verdict turned blocks (length map) (length entries) ≡ refused number
    → (fresh_outcome turned shape blocks map entries ≡ told shape (Refused number))
    × (fresh_map turned shape blocks map entries ≡ map) × (fresh_entries turned shape blocks map entries ≡ entries)
unfolding fresh_verdict
fresh_refused turned shape blocks map entries number v =
    let rows : List Row = row 21 turned ∷ row 1 (not (fresh_fits blocks (length map) (length entries))) ∷ [] in
    let some : eqb number 0 ≡ false = ne_eqb number 0 (λ z. never_says 0 rows refl (v ∙ ap refused z)) in
    let handed : fresh_outcome turned shape blocks map entries ≡ told shape (Refused number) =
    ap (λ (w : Verdict). fresh_by shape blocks (eqb (row_number w) 0) (row_number w)) v
    ∙ ap (λ (b : Bool). fresh_by shape blocks b number) some in (
      handed,
      ap (λ (w : Verdict). settle w (maps.fresh_map blocks (length map)) (λ k. map)) v,
      ap (λ (o : Outcome). cleared_if entries (is_done o.answer)) handed,
    )
