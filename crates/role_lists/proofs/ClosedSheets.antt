-- A sheet that stands Complete where a closing is accepted stands Complete afterwards, with as many places and the bytes of its
-- blocks: `Moved` (Shown.antt).
-- Assumes nothing.
use Prim.Native.Nat.{ℕ, zero, suc, ◌<◌}
use mathlib.Core.Path.{◌≡◌, refl, sym, ap, subst, ◌∙◌}
use mathlib.Core.Bool.{Bool, true, false, ◌&&◌, cond, false≢true}
use mathlib.Core.List.{List, [], ◌∷◌, map}
use native.Mathlib.Omega.{arith}
use lib.Dec.{eqb}
use lib.ListN.{length}
use Rattle.map_blocks.specs.Blocks.{free}
use Rattle.map_blocks.proofs.Maps.{map_length}
use Rattle.catalogue.specs.Entries.{entry_at, absent_mark, paused_mark, open_mark, complete_mark}
use Rattle.catalogue.specs.declared.Entry.{Entry}
use Rattle.catalogue_standings.specs.Rows.{accepted}
use Rattle.catalogue_standings.specs.Standings.{standing_of, extent_holds, is_complete, is_damaged}
use Rattle.catalogue_standings.specs.declared.Standing.{Standing}
use Rattle.catalogue_standings.specs.declared.Standing.TheVariants.{Absent, Paused, PausedWith, Open, Complete, Damaged}
use Rattle.catalogue_standings.proofs.Openings.{complete_extent}
use Rattle.image_soundness.specs.Sound.{State, undamaged}
use Rattle.image_soundness.proofs.Covers.{head_undamaged, tail_undamaged}
use Rattle.image_soundness.proofs.WhenSound.{sound_to}
use Rattle.refusals.specs.Guides.{guide_tested}
use Rattle.closing.specs.Claim.{Afterwards}
use Rattle.closing.specs.Closed.{closed_entry, closed_entries, closed_card, closed_map, closed_state}
use Rattle.closing.proofs.Claimed.{afterwards}
use Rattle.closing.proofs.Contents.{closed_card_length}
use Rattle.closing.proofs.Members.{map_at}
use Rattle.card.specs.Calls.{Kept, kept, saved_state}
use Rattle.card.proofs.Closings.{verdict_by}
use Rattle.role_lists.specs.Carers.{stands}
use Rattle.role_lists.proofs.Shown.{Moved}

-- ---- no entry of a sound state is damaged

undamaged_at : (n : ℕ) (f : ℕ → Bool) (es : List Entry) (i : ℕ) → i < length es → undamaged n f es ≡ true
    → is_damaged (standing_of n f (entry_at es i)) ≡ false
undamaged_at n f [] i h u = absurd (omega arith)
undamaged_at n f (e ∷ es) zero h u = head_undamaged n f e es u
undamaged_at n f (e ∷ es) (suc i) h u = undamaged_at n f es i (omega arith) (tail_undamaged n f e es u)

-- ---- a standing, by the marks

module _ (start length : ℕ) where
  abbrev by_marks : Bool → Bool → Bool → Bool → Bool → Bool → Standing
  by_marks absent paused opened completed zeros holds =
      cond absent (cond zeros Absent Damaged)
      (cond paused (cond zeros Paused (cond holds (PausedWith start length) Damaged))
      (cond opened (cond holds (Open start length) Damaged)
      (cond completed (cond holds (Complete start length) Damaged) Damaged)))

-- marked Complete, and not damaged
still_complete : (s s' l l' : ℕ) (a p o c z h z' h' : Bool) → is_complete (by_marks s l a p o c z h) ≡ true
    → is_damaged (by_marks s' l' a p o c z' h') ≡ false → by_marks s' l' a p o c z' h' ≡ Complete s' l'
still_complete s s' l l' true p o c true h z' h' e d = absurd (false≢true e)
still_complete s s' l l' true p o c false h z' h' e d = absurd (false≢true e)
still_complete s s' l l' false true o c true h z' h' e d = absurd (false≢true e)
still_complete s s' l l' false true o c false true z' h' e d = absurd (false≢true e)
still_complete s s' l l' false true o c false false z' h' e d = absurd (false≢true e)
still_complete s s' l l' false false true c z true z' h' e d = absurd (false≢true e)
still_complete s s' l l' false false true c z false z' h' e d = absurd (false≢true e)
still_complete s s' l l' false false false true z h z' true e d = refl
still_complete s s' l l' false false false true z h z' false e d = absurd (false≢true (sym d))
still_complete s s' l l' false false false false z h z' h' e d = absurd (false≢true e)

module _ (n : ℕ) (f : ℕ → Bool) where
  abbrev zeros : Entry → Bool
  zeros e = eqb e.start 0 && eqb e.length 0

  abbrev holds : Entry → Bool
  holds e = extent_holds n f e.start e.length

  abbrev marked : Entry → ℕ → Standing
  marked e mark =
      by_marks e.start e.length (eqb mark absent_mark) (eqb mark paused_mark) (eqb mark open_mark) (eqb mark complete_mark)
      (zeros e) (holds e)

  by_marks_lem : (e : Entry) → standing_of n f e ≡ marked e e.mark
  unfolding standing_of
  by_marks_lem e = refl

-- an entry with the mark of one that stands Complete, in another state where it is not damaged
complete_too : (n : ℕ) (f g : ℕ → Bool) (e e' : Entry) → e'.mark ≡ e.mark → is_complete (standing_of n f e) ≡ true
    → is_damaged (standing_of n g e') ≡ false → standing_of n g e' ≡ Complete e'.start e'.length
complete_too n f g e e' same c d =
    let now : standing_of n g e' ≡ marked n g e' e.mark = by_marks_lem n g e' ∙ ap (marked n g e') same in
    now ∙ still_complete e.start e'.start e.length e'.length (eqb e.mark absent_mark)
    (eqb e.mark paused_mark) (eqb e.mark open_mark) (eqb e.mark complete_mark) (zeros n f e) (holds n f e)
    (zeros n g e') (holds n g e')
    (ap is_complete (sym (by_marks_lem n f e)) ∙ c) (ap is_damaged (sym now) ∙ d)

-- ---- afterwards

count_map : (f : Entry → Entry) (es : List Entry) → length (map f es) ≡ length es
count_map f [] = refl
count_map f (e ∷ es) = ap suc (count_map f es)

closed_count : (es : List Entry) → length (closed_entries es) ≡ length es
unfolding closed_entries
closed_count es = count_map (closed_entry es) es

closed_at : (es : List Entry) (i : ℕ) → i < length es → entry_at (closed_entries es) i ≡ closed_entry es (entry_at es i)
unfolding closed_entries
closed_at es i h = map_at (closed_entry es) es i h

closed_words : (es : List Entry) (n : ℕ) (words : List ℕ) → length (closed_map es n words) ≡ length words
unfolding closed_map
closed_words es n words = map_length _ (length words)

-- what is kept after a closing that is accepted
abbrev pub closed_kept : Kept → Kept
closed_kept s =
    kept s.shape (closed_map s.entries s.shape.blocks s.map) (closed_entries s.entries)
    (closed_card s.entries s.card)

module _ (turned guided : Bool) (summary : List ℕ) (s : Kept) (scratch : List ℕ)
    (ok : verdict_by turned guided summary s scratch ≡ accepted)
    (sheet start count : ℕ) (listed : sheet < length s.entries) (stood : stands s sheet ≡ Complete start count) where
  abbrev state : State
  state = saved_state s.shape s.map s.entries

  abbrev e : Entry
  e = entry_at s.entries sheet

  abbrev e' : Entry
  e' = entry_at (closed_entries s.entries) sheet

  closed_so : Afterwards state s.card
  closed_so = afterwards turned state (guide_tested guided (length s.map) (length summary)) s.card scratch ok

  whole_then : is_damaged (stands (closed_kept s) sheet) ≡ false
  whole_then =
      undamaged_at s.shape.blocks (free (closed_map s.entries s.shape.blocks s.map)) (closed_entries s.entries)
      sheet (subst (λ (x : ℕ). sheet < x) (sym (closed_count s.entries)) listed)
      (sound_to (closed_state state) closed_so.still_sound).whole

  lasts : e.length ≡ count
  lasts = (complete_extent s.shape.blocks (free s.map) e start count stood).lasts

  stands_then : stands (closed_kept s) sheet ≡ Complete e'.start count
  stands_then =
      complete_too s.shape.blocks (free s.map) (free (closed_map s.entries s.shape.blocks s.map)) e e'
      (ap (λ (x : Entry). x.mark) (closed_at s.entries sheet listed)) (ap is_complete stood) whole_then
      ∙ ap (Complete e'.start) (ap (λ (x : Entry). x.length) (closed_at s.entries sheet listed) ∙ lasts)

  pub closed_moved : Moved s (closed_kept s) sheet start e'.start count
  closed_moved = record {
    shapes = refl;
    words = closed_words s.entries s.shape.blocks s.map;
    sheets = closed_count s.entries;
    bytes = closed_card_length s.entries s.card;
    before = stood;
    afterwards = stands_then;
    blocks = λ p h. closed_so.places sheet p listed (subst (λ (x : ℕ). p < x) (sym lasts) h);
  }
