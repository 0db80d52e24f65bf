-- An accepted closing keeps what holds since the last image was saved: each block that is held afterwards has the bytes of a
-- place
-- of its sheet, and a block that is sound for its own sheet and place alone tells nothing else.
-- Assumes nothing.
use Prim.Native.Nat.{ℕ, suc, ◌+◌, ◌*◌, ◌≤◌, ◌<◌}
use mathlib.Core.Path.{◌≡◌, refl, sym, ap, subst, ◌∙◌}
use mathlib.Core.Logic.{⊎_elim}
use mathlib.Core.Bool.{Bool, true, false, true≢false}
use mathlib.Core.List.{List, [], ◌∷◌}
use native.Mathlib.Omega.{arith}
use lib.ListN.{length, take, drop, length-take, length-drop, get_or-eq_default}
use borrow.Author.Tests.{lt-ltb}
use Rattle.laws.proofs.Bools.{order}
use Rattle.map_blocks.specs.Blocks.{free}
use Rattle.map_blocks.specs.Maps.{in_run}
use Rattle.blocks_of_card.specs.Card.{block_of}
use Rattle.block_seals.specs.Sealed.{sound}
use Rattle.catalogue.specs.Entries.{entry_at, zeros, held}
use Rattle.catalogue.specs.declared.Entry.{Entry}
use Rattle.catalogue_standings.specs.Standings.{start_of}
use Rattle.catalogue_standings.specs.declared.Standing.{Standing}
use Rattle.catalogue_standings.specs.declared.Standing.TheVariants.{Absent, Paused, PausedWith, Open, Complete, Damaged}
use Rattle.image_soundness.specs.Sound.{coverings}
use Rattle.image_soundness.proofs.Covers.{one, in_run_lem, decide}
use Rattle.image_soundness.proofs.WhenSound.{sound_to}
use Rattle.closing.specs.Claim.{Afterwards}
use Rattle.closing.specs.Closed.{closed_entries}
use Rattle.closing.proofs.Claimed.{afterwards, accepted_fits, accepted_sound}
use Rattle.closing.proofs.Closes.{close_fits_to}
use Rattle.card.specs.Calls.{Kept}
use Rattle.ledger.specs.Lists.{saved_of}
use Rattle.role_lists.specs.Carers.{stands}
use Rattle.power_cuts.specs.Held.{Sound, Covers, Finished}
use Rattle.power_cuts.specs.Own.{OwnBlocks}
use Rattle.power_cuts.proofs.Apart.{Apart, listed, undamaged_at}
use Rattle.power_cuts.proofs.Deeds.{entry_in, Closed}
use Rattle.power_cuts.proofs.Keeping.{Of, closed_sound}
use Rattle.power_cuts.proofs.Own.{closed_entry_lem, closed_place, closed_own, same_count, covers_none}
use Rattle.power_cuts.proofs.Since.{Since, Course, gone, stays}
use Rattle.power_cuts.proofs.Standings.{finishes, holds_so, has_blocks, finished_of, finished_too}
use Rattle.power_cuts.proofs.Writes.{finished_holds, finished_so, finished_covers}

blocks_too : (st : Standing) → finishes st ≡ true → has_blocks st ≡ true
blocks_too Absent h = absurd (true≢false (sym h))
blocks_too Paused h = absurd (true≢false (sym h))
blocks_too (PausedWith s l) h = refl
blocks_too (Open s l) h = refl
blocks_too (Complete s l) h = refl
blocks_too Damaged h = absurd (true≢false (sym h))

-- ---- a block that is covered is some sheet's

some_cover : (es : List Entry) (b : ℕ) → 1 ≤ coverings es b → (i : ℕ) × Of (entry_at es i) b
unfolding coverings
some_cover [] b h = absurd (omega arith)
some_cover (e ∷ es) b h =
    ⊎_elim
    (λ (r : in_run e.start e.length b ≡ true). (0, in_run_lem e.start e.length b r))
    (λ (r : in_run e.start e.length b ≡ false).
    let z : one (in_run e.start e.length b) ≡ 0 = ap one r in
    let w = some_cover es b (omega arith) in (suc w.0, w.1))
    (decide (in_run e.start e.length b))

-- ---- a block behind the card's end

no_bytes : (xs : List ℕ) → length xs ≡ 0 → xs ≡ []
no_bytes [] h = refl
no_bytes (x ∷ xs) h = absurd (omega arith)

behind : (card : List ℕ) (b : ℕ) → length card ≤ 512 * b → block_of card b ≡ []
unfolding block_of
behind card b h = no_bytes (take 512 (drop (512 * b) card)) (simp (length-take, length-drop) (omega arith))

module _ (saved s t : Kept) (x : Closed s t) where
  pub closing_sound : Sound s
  closing_sound = accepted_sound x.away (saved_of s) x.fits (length s.card) (length x.scratch) x.was_accepted

  pub closing_bytes : length s.card ≡ 512 * s.shape.blocks
  closing_bytes =
      (close_fits_to s.shape.blocks s.shape.free x.fits (length s.entries) (length s.map) (length s.card)
      (length x.scratch)
      (accepted_fits x.away (saved_of s) x.fits (length s.card) (length x.scratch) x.was_accepted)).bytes

  -- mark and length stay
  entry_kept : (i : ℕ) → ((entry_in t i).mark ≡ (entry_in s i).mark) × ((entry_in t i).length ≡ (entry_in s i).length)
  entry_kept i =
      ⊎_elim
      (λ (l : i < length s.entries).
      let e = closed_entry_lem s t x i l in (ap (λ (z : Entry). z.mark) e, ap (λ (z : Entry). z.length) e))
      (λ (l : length s.entries ≤ i).
      let u : entry_in s i ≡ zeros = get_or-eq_default s.entries zeros {n = i} l in
      let v : entry_in t i ≡ zeros = get_or-eq_default t.entries zeros {n = i} (omega (arith, same_count s t x)) in
      (ap (λ (z : Entry). z.mark) (v ∙ sym u), ap (λ (z : Entry). z.length) (v ∙ sym u)))
      (order i (length s.entries))

  -- a finished course is finished afterwards
  finished_then : (i start count : ℕ) → Finished s i start count → 1 ≤ count → Finished t i (entry_in t i).start count
  finished_then i start count f some =
      let o = finished_holds s i start count f in
      let c = finished_covers s i start count f 0 (omega (arith, some)) in
      let l : i < length t.entries = omega (arith, same_count s t x, listed s.entries i (start + 0) c.1 c.0) in
      let whole = (sound_to (saved_of t) (closed_sound s t x)).whole in
      let k = entry_kept i in
      let count-now : (entry_in t i).length ≡ count = k.1 ∙ o.lasts in
      let h = finished_too s.shape.blocks t.shape.blocks (free s.map) (free t.map) (entry_in s i) (entry_in t i)
      k.0 (omega (arith, count-now, some)) (finished_so s i start count f)
      (undamaged_at t.shape.blocks (free t.map) t.entries i l whole) in
      let r = holds_so t.shape.blocks (free t.map) (entry_in t i) (stands t i) refl (blocks_too (stands t i) h) in
      subst (λ (z : ℕ). Finished t i z count) (sym r.starts)
      (subst (λ (z : ℕ). Finished t i (start_of (stands t i)) z) (sym r.lasts ∙ count-now) (finished_of (stands t i) h))

  module _ (released doubtful : Bool) (y : Since saved s released true doubtful) (own : OwnBlocks s) (a : Apart t)
      (long : length t.card ≡ length s.card) where
    course-moves : (i start count : ℕ) → Course saved s released true i start count → Course saved t released true i start count
    course-moves i start count (gone r l) = gone r ((entry_kept i).1 ∙ l)
    course-moves i start count (stays then f e g) =
        let o = finished_holds s i then count f in
        stays (entry_in t i).start (finished_then i then count f o.some) (λ z. absurd (true≢false z))
        (λ q l h.
        let z = closed_place s t x i ((entry_in t i).start + q) (omega arith, omega (arith, (entry_kept i).1, o.lasts)) in
        let was : z.was ≡ then + q = omega (arith, z.place, o.starts) in
        let same : block_of t.card ((entry_in t i).start + q) ≡ block_of s.card (then + q) =
        z.same ∙ ap (block_of s.card) was in
        same ∙ g q l (subst (λ (w : List ℕ). sound i q w ≡ true) same h))

    -- a block of that time
    old-block : (i start count : ℕ) → Finished saved i start count → (q : ℕ) → q < count
        → sound i q (block_of t.card (start + q)) ≡ true → block_of t.card (start + q) ≡ block_of saved.card (start + q)
    old-block i start count f q l h =
        ⊎_elim
        (λ (w : start + q < held s.entries). moved_here w)
        (λ (w : held s.entries ≤ start + q).
        ⊎_elim
        (λ (u : start + q < s.shape.blocks). unmoved (ap (λ (c : List ℕ). block_of c (start + q)) x.card_now
        ∙ after.rest (start + q) w u))
        (λ (u : s.shape.blocks ≤ start + q).
        unmoved (behind t.card (start + q) (omega (arith, long, closing_bytes))
        ∙ sym (behind s.card (start + q) (omega (arith, closing_bytes)))))
        (order (start + q) s.shape.blocks))
        (order (start + q) (held s.entries))
      where
        after : Afterwards (saved_of s) s.card
        after = afterwards x.away (saved_of s) x.fits s.card x.scratch x.was_accepted

        unmoved : block_of t.card (start + q) ≡ block_of s.card (start + q)
            → block_of t.card (start + q) ≡ block_of saved.card (start + q)
        unmoved e = e ∙ y.old i start count f q l (subst (λ (w : List ℕ). sound i q w ≡ true) e h)

        moved_here : start + q < held s.entries → block_of t.card (start + q) ≡ block_of saved.card (start + q)
        moved_here w =
            let covered : coverings (closed_entries s.entries) (start + q) ≡ 1 =
            after.packed (start + q) ∙ ap one (lt-ltb (start + q) (held s.entries) w) in
            let c = some_cover (closed_entries s.entries) (start + q) (omega (arith, covered)) in
            let d : Covers t c.0 (start + q) =
            subst (λ (es : List Entry). Of (entry_at es c.0) (start + q)) (sym x.entries_now) c.1 in
            let z = closed_place s t x c.0 (start + q) d in
            let m = own c.0 z.was z.covered i q (subst (λ (w : List ℕ). sound i q w ≡ true) z.same h) in
            let mine : Covers s i z.was = subst (λ (j : ℕ). Covers s j z.was) (sym m.0) z.covered in
            let at : (entry_in s i).start + q ≡ z.was = ap (λ (j : ℕ). (entry_in s j).start + q) m.0 ∙ m.1 in
            z.same ∙ by-course z.was mine at (y.courses i start count f)
            (subst (λ (w : List ℕ). sound i q w ≡ true) z.same h)
          where
            by-course : (was : ℕ) → Covers s i was → (entry_in s i).start + q ≡ was → Course saved s released true i start count
                → sound i q (block_of s.card was) ≡ true → block_of s.card was ≡ block_of saved.card (start + q)
            by-course was c at (gone r z) k = absurd (covers_none s i was z c)
            by-course was c at (stays then g e b) k =
                let o = finished_holds s i then count g in
                let place : was ≡ then + q = omega (arith, o.starts, at) in
                ap (block_of s.card) place
                ∙ b q l (subst (λ (v : ℕ). sound i q (block_of s.card v) ≡ true) place k)

    pub closed-since : Since saved t released true false
    closed-since = record {
      apart = a;
      long = long ∙ y.long;
      courses = λ i b l f. course-moves i b l (y.courses i b l f);
      paused = λ i h. record {
        marked = λ r. (entry_kept i).0 ∙ (y.paused i h).marked r;
        empty = (entry_kept i).1 ∙ (y.paused i h).empty;
      };
      old = old-block;
      exact = λ e. absurd (true≢false e);
      nobody_else = λ e. absurd (true≢false e);
      still_held = λ e. absurd (true≢false e);
      own_now = λ d. closed_own s t x own;
      own_saved = λ d e. absurd (true≢false e);
    }
