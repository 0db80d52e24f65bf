-- Every call that the rule allows keeps what holds since the last image was saved: what is taken, written, marked, released or
-- begun. Closing is in Closings.antt.
-- Assumes nothing.
use Prim.Native.Nat.{ℕ, ◌+◌, ◌≤◌, ◌<◌}
use mathlib.Core.Path.{◌≡◌, refl, sym, ap, subst, ◌∙◌}
use mathlib.Core.Logic.{◌⊎◌, inl, inr, ⊎_elim}
use mathlib.Core.Bool.{Bool, true, false, true≢false}
use mathlib.Core.List.{List}
use native.Mathlib.Omega.{arith}
use lib.ListN.{length}
use Rattle.map_blocks.specs.Blocks.{free}
use Rattle.laws.proofs.Bools.{order}
use Rattle.blocks_of_card.specs.Card.{block_of}
use Rattle.block_seals.specs.Sealed.{sound}
use Rattle.catalogue.specs.Entries.{entry_at, paused_mark}
use Rattle.catalogue.specs.declared.Entry.{Entry}
use Rattle.catalogue_standings.specs.Standings.{is_absent}
use Rattle.catalogue_standings.specs.declared.Standing.TheVariants.{Absent, PausedWith, Open, Complete}
use Rattle.card.specs.Calls.{Kept}
use Rattle.role_lists.specs.Carers.{stands}
use Rattle.power_cuts.specs.Held.{Covers, Finished, Untouched}
use Rattle.power_cuts.specs.Images.{recalled}
use Rattle.power_cuts.specs.Own.{OwnBlocks}
use Rattle.power_cuts.proofs.Apart.{Apart, other}
use Rattle.power_cuts.proofs.Blocks.{took_other, took_zeros, put_other}
use Rattle.power_cuts.proofs.Deeds.{entry_in, Took, Put, Turns, completes, pauses_none, pauses, resumes, Marked, Released}
use Rattle.power_cuts.proofs.Deeds.{Began}
use Rattle.power_cuts.proofs.Keeping.{here, there, which, split, put_covers, marked_covers, released_covers}
use Rattle.power_cuts.proofs.Keeping.{began_covers}
use Rattle.power_cuts.proofs.Keeping.{none_held}
use Rattle.power_cuts.proofs.Own.{took_start, marked_start, put_own_block, put_covers_own, covers_none, zeros_unsound}
use Rattle.power_cuts.proofs.Since.{Since, Course, gone, stays, not_open, paused_not_open}
use Rattle.power_cuts.proofs.Standings.{holds_so, length_so, paused_mark_lem}
use Rattle.power_cuts.proofs.Writes.{finished_covers, finished_kept}

-- an entry with the mark of a pause and no blocks is neither Absent nor turned into anything
paused_not_absent : (s : Kept) (sheet : ℕ) → (entry_in s sheet).mark ≡ paused_mark → stands s sheet ≡ Absent → ⊥
paused_not_absent s sheet m h =
    true≢false (sym (ap is_absent h) ∙ (paused_mark_lem s.shape.blocks (free s.map) (entry_in s sheet) m).0)

never_turned : (s : Kept) (sheet mark : ℕ) → (entry_in s sheet).mark ≡ paused_mark → (entry_in s sheet).length ≡ 0
    → Turns (stands s sheet) mark → ⊥
never_turned s sheet mark m z (completes a l h e) =
    let o = holds_so s.shape.blocks (free s.map) (entry_in s sheet) (Open a l) h refl in omega
    (arith, z, o.lasts, o.some)
never_turned s sheet mark m z (pauses_none h e) = paused_not_absent s sheet m h
never_turned s sheet mark m z (pauses a l h e) =
    let o = holds_so s.shape.blocks (free s.map) (entry_in s sheet) (Complete a l) h refl in
    omega (arith, z, o.lasts, o.some)
never_turned s sheet mark m z (resumes a l h e) =
    let o = holds_so s.shape.blocks (free s.map) (entry_in s sheet) (PausedWith a l) h refl in
    omega (arith, z, o.lasts, o.some)

module _ (saved s t : Kept) (released moved doubtful : Bool) (x : Since saved s released moved doubtful) (a : Apart t)
    (long : length t.card ≡ length s.card) (own : OwnBlocks s → OwnBlocks t) where
  -- a block that is what it was
  through : (sheet q b c : ℕ) → block_of t.card b ≡ block_of s.card b
      → (sound sheet q (block_of s.card b) ≡ true → block_of s.card b ≡ block_of saved.card c)
      → sound sheet q (block_of t.card b) ≡ true → block_of t.card b ≡ block_of saved.card c
  through sheet q b c e h z = e ∙ h (subst (λ (y : List ℕ). sound sheet q y ≡ true) e z)

  -- a course that the call leaves as it is
  module _ (quiet : (sheet start count : ℕ) → Finished s sheet start count → Untouched s t sheet start count)
      (empty : (sheet : ℕ) → released ≡ true → (entry_in s sheet).length ≡ 0 → (entry_in t sheet).length ≡ 0) where
    course-stays : (sheet start count : ℕ) → Course saved s released moved sheet start count
        → Course saved t released moved sheet start count
    course-stays sheet start count (gone r l) = gone r (empty sheet r l)
    course-stays sheet start count (stays then f e g) =
        let u = quiet sheet then count f in
        stays then u.held e (λ q l. through sheet q (then + q) (start + q) (u.same q l) (g q l))

  -- the card is what it was
  module _ (same : t.card ≡ s.card) where
    block_same : (b : ℕ) → block_of t.card b ≡ block_of s.card b
    block_same b = ap (λ (c : List ℕ). block_of c b) same

    own-same-card : OwnBlocks (recalled saved s.card) → OwnBlocks (recalled saved t.card)
    own-same-card o = subst (λ (c : List ℕ). OwnBlocks (recalled saved c)) (sym same) o

  -- ---- taking, where nothing was released

  module _ (sheet start count from k total : ℕ) (y : Took s t sheet start count from k total) (none : released ≡ false)
      (quiet : (sheet start count : ℕ) → Finished s sheet start count → Untouched s t sheet start count) where
    -- a block that a sheet held when the image was saved is not among the new ones
    pub not_new : moved ≡ false → (i b : ℕ) → Covers saved i b → from ≤ b → b < from + k → ⊥
    not_new m i b c u v = true≢false (sym (y.unheld b u v) ∙ x.apart.taken i b (x.still_held m none i b c))

    other_entry : (i : ℕ) → (stands s i ≡ Absent → ⊥) → ((a l : ℕ) → stands s i ≡ Open a l → ⊥) → entry_in t i ≡ entry_in s i
    other_entry i n o =
        there s t sheet _ y.entries_now i (λ e. ⊎_elim (λ z. n (ap (stands s) e ∙ z.0)) (λ z. o start count
        (ap (stands s) e ∙ z)) y.before)

    still : (i b : ℕ) → Covers s i b → Covers t i b
    still i b c =
        ⊎_elim
        (λ (e : i ≡ sheet).
        let h = here s t sheet _ y.entries_now y.listed in
        let p : (entry_in t i).start ≡ start = ap (λ (z : ℕ). (entry_in t z).start) e ∙ ap (λ (z : Entry). z.start) h in
        let q : (entry_in t i).length ≡ total = ap (λ (z : ℕ). (entry_in t z).length) e ∙ ap (λ (z : Entry). z.length) h in
        ⊎_elim
        (λ (z : _ × (count ≡ 0)).
        absurd (covers_none s i b (ap (λ (j : ℕ). (entry_in s j).length) e ∙ length_so s.shape.blocks (free s.map)
        (entry_in s sheet) Absent z.0 refl) c))
        (λ z.
        let o = holds_so s.shape.blocks (free s.map) (entry_in s sheet) (Open start count) z refl in
        let u : (entry_in s i).start ≡ start = ap (λ (j : ℕ). (entry_in s j).start) e ∙ o.starts in
        let v : (entry_in s i).length ≡ count = ap (λ (j : ℕ). (entry_in s j).length) e ∙ o.lasts in
        (omega (arith, p, u, c.0), omega (arith, p, q, u, v, c.1, y.total_is)))
        y.before)
        (λ n. subst (λ (z : Entry). (z.start ≤ b) × (b < z.start + z.length))
        (sym (there s t sheet _ y.entries_now i n)) c)
        (which i sheet)

    pub took-since : Since saved t released moved doubtful
    took-since = record {
      apart = a;
      long = long ∙ x.long;
      courses = λ i b l f. course-stays quiet (λ j r. absurd (true≢false (sym r ∙ none))) i b l (x.courses i b l f);
      paused = λ i h.
          let z = x.paused i h in
          let e = other_entry i
          (λ n. paused_not_absent s i (z.marked none) n)
          (λ u v o. paused_not_open saved s released moved doubtful x i h u v o) in
          record {
            marked = λ r. ap (λ (w : Entry). w.mark) e ∙ z.marked r;
            empty = ap (λ (w : Entry). w.length) e ∙ z.empty;
          };
      old = λ i b l f q u.
          ⊎_elim
          (λ (n : (from ≤ b + q) × (b + q < from + k)).
          λ h. absurd (zeros_unsound i q (block_of t.card (b + q))
          (took_zeros s t sheet start count from k total y (b + q) n.0 n.1) h))
          (λ n. through i q (b + q) (b + q) (took_other s t sheet start count from k total y (b + q) (λ v w. n (v, w)))
          (x.old i b l f q u))
          (among (b + q));
      exact = λ m i b l f q u.
          took_other s t sheet start count from k total y (b + q)
          (not_new m i (b + q) (finished_covers saved i b l f q u)) ∙ x.exact m i b l f q u;
      nobody_else = λ m i j b c d.
          ⊎_elim
          (λ (e : Covers s j b).
          let r = x.nobody_else m i j b c e in
          (r.0, took_start s t sheet start count from k total y j b e ∙ r.1))
          (λ (e : (j ≡ sheet) × ((from ≤ b) × (b < from + k))). absurd (not_new m i b c e.1.0 e.1.1))
          (split s t sheet start count from k total y j b d);
      still_held = λ m r i b c. still i b (x.still_held m r i b c);
      own_now = λ d. own (x.own_now d);
      own_saved = λ d m i b c other place h.
          x.own_saved d m i b c other place
          (subst (λ (z : List ℕ). sound other place z ≡ true)
          (took_other s t sheet start count from k total y b (not_new m i b c)) h);
    }
      where
        among : (b : ℕ) → ((from ≤ b) × (b < from + k)) ⊎ ((from ≤ b) × (b < from + k) → ⊥)
        among b =
            ⊎_elim (λ (l : b < from). inr (λ z. omega (arith, l, z.0)))
            (λ (l : from ≤ b). ⊎_elim (λ (u : b < from + k). inl (l, u)) (λ (u : from + k ≤ b). inr (λ z. omega
            (arith, u, z.1)))
            (order b (from + k)))
            (order b from)

  -- ---- a put

  module _ (sheet start count at : ℕ) (payload : List ℕ) (y : Put s t sheet start count at payload)
      (quiet : (sheet start count : ℕ) → Finished s sheet start count → Untouched s t sheet start count) where
    entry-same : (i : ℕ) → entry_in t i ≡ entry_in s i
    entry-same i = ap (λ (es : List Entry). entry_at es i) y.entries_now

    pub put-since : Since saved t released moved doubtful
    put-since = record {
      apart = a;
      long = long ∙ x.long;
      courses = λ i b l f. course-stays quiet (λ j r z. ap (λ (w : Entry). w.length) (entry-same j) ∙ z) i b l
          (x.courses i b l f);
      paused = λ i h. record {
        marked = λ r. ap (λ (w : Entry). w.mark) (entry-same i) ∙ (x.paused i h).marked r;
        empty = ap (λ (w : Entry). w.length) (entry-same i) ∙ (x.paused i h).empty;
      };
      old = λ i b l f q u.
          ⊎_elim
          (λ (e : b + q ≡ start + at). λ h.
          let r = put_own_block s t sheet start count at payload y (b + q) e i q h in
          absurd (not_open saved s released moved doubtful x i b l f start count (ap (stands s) r.0 ∙ y.before)))
          (λ n. through i q (b + q) (b + q) (put_other s t sheet start count at payload y (b + q) n) (x.old i b l f q u))
          (which (b + q) (start + at));
      exact = λ m i b l f q u.
          put_other s t sheet start count at payload y (b + q) (λ e.
          let r = x.nobody_else m i sheet (b + q) (finished_covers saved i b l f q u)
          (subst (λ (z : ℕ). Covers s sheet z) (sym e) (put_covers_own s t sheet start count at payload y)) in
          not_open saved s released moved doubtful x i b l f start count (ap (stands s) (sym r.0) ∙ y.before))
          ∙ x.exact m i b l f q u;
      nobody_else = λ m i j b c d.
          let r = x.nobody_else m i j b c (put_covers s t y.entries_now j b d) in
          (r.0, ap (λ (w : Entry). w.start) (entry-same j) ∙ r.1);
      still_held = λ m r i b c. put_covers t s (sym y.entries_now) i b (x.still_held m r i b c);
      own_now = λ d. own (x.own_now d);
      own_saved = λ d m i b c other place h.
          ⊎_elim
          (λ (e : b ≡ start + at).
          let r = put_own_block s t sheet start count at payload y b e other place h in
          let o = holds_so s.shape.blocks (free s.map) (entry_in s sheet) (Open start count) y.before refl in
          let w = x.nobody_else m i sheet b c
          (subst (λ (z : ℕ). Covers s sheet z) (sym e) (put_covers_own s t sheet start count at payload y)) in
          (r.0 ∙ w.0, omega (arith, w.1, o.starts, e, r.1)))
          (λ n. x.own_saved d m i b c other place
          (subst (λ (z : List ℕ). sound other place z ≡ true) (put_other s t sheet start count at payload y b n) h))
          (which b (start + at));
    }

  -- ---- a mark

  module _ (sheet mark : ℕ) (y : Marked s t sheet mark)
      (quiet : (sheet start count : ℕ) → Finished s sheet start count → Untouched s t sheet start count) where
    length-same : (i : ℕ) → (entry_in t i).length ≡ (entry_in s i).length
    length-same i =
        ⊎_elim
        (λ (e : i ≡ sheet).
        ap (λ (z : ℕ). (entry_in t z).length) e ∙ ap (λ (w : Entry). w.length) (here s t sheet _ y.entries_now y.listed)
        ∙ ap (λ (z : ℕ). (entry_in s z).length) (sym e))
        (λ n. ap (λ (w : Entry). w.length) (there s t sheet _ y.entries_now i n))
        (which i sheet)

    still_marked : (i : ℕ) → (entry_in s i).mark ≡ paused_mark → (entry_in s i).length ≡ 0 → (entry_in t i).mark ≡ paused_mark
    still_marked i m z =
        ⊎_elim
        (λ (e : i ≡ sheet). absurd (never_turned s sheet mark
        (ap (λ (j : ℕ). (entry_in s j).mark) (sym e) ∙ m) (ap (λ (j : ℕ). (entry_in s j).length) (sym e) ∙ z) y.turns))
        (λ n. ap (λ (w : Entry). w.mark) (there s t sheet _ y.entries_now i n) ∙ m)
        (which i sheet)

    pub marked-since : Since saved t released moved doubtful
    marked-since = record {
      apart = a;
      long = long ∙ x.long;
      courses = λ i b l f. course-stays quiet (λ j r z. length-same j ∙ z) i b l (x.courses i b l f);
      paused = λ i h. record {
        marked = λ r. still_marked i ((x.paused i h).marked r) (x.paused i h).empty;
        empty = length-same i ∙ (x.paused i h).empty;
      };
      old = λ i b l f q u. through i q (b + q) (b + q) (block_same y.card_now (b + q)) (x.old i b l f q u);
      exact = λ m i b l f q u. block_same y.card_now (b + q) ∙ x.exact m i b l f q u;
      nobody_else = λ m i j b c d.
          let r = x.nobody_else m i j b c (marked_covers s t sheet mark y j b d) in
          (r.0, marked_start s t sheet mark y j ∙ r.1);
      still_held = λ m r i b c.
          let d = x.still_held m r i b c in (
            omega (arith, d.0, marked_start s t sheet mark y i),
            omega
                (arith, d.1, marked_start s t sheet mark y i, length-same i),
          );
      own_now = λ d. own (x.own_now d);
      own_saved = λ d m. own-same-card y.card_now (x.own_saved d m);
    }

  -- ---- a release, which is noted

  module _ (sheet : ℕ) (y : Released s t sheet) (noted : released ≡ true) where
    released-course : (i start count : ℕ) → Course saved s released moved i start count
        → Course saved t released moved i start count
    released-course i start count c =
        ⊎_elim
        (λ (e : i ≡ sheet).
        gone noted (ap (λ (z : ℕ). (entry_in t z).length) e ∙ ap (λ (w : Entry). w.length)
        (here s t sheet _ y.entries_now y.listed)))
        (λ n. go n c)
        (which i sheet)
      where
        go : (i ≡ sheet → ⊥) → Course saved s released moved i start count → Course saved t released moved i start count
        go n (gone r z) = gone r (ap (λ (w : Entry). w.length) (there s t sheet _ y.entries_now i n) ∙ z)
        go n (stays then f e g) =
            stays then
            (finished_kept s t i y.blocks_now (there s t sheet _ y.entries_now i n)
            (λ b v. ap (λ (m : List ℕ). free m b) y.map_now
            ∙ other s.map (entry_in s sheet).start (entry_in s sheet).length b true
            (λ l u. n (x.apart.apart i sheet b v (l, u)))) then count f)
            e (λ q l. through i q (then + q) (start + q) (block_same y.card_now (then + q)) (g q l))

    pub released-since : Since saved t released moved doubtful
    released-since = record {
      apart = a;
      long = long ∙ x.long;
      courses = λ i b l f. released-course i b l (x.courses i b l f);
      paused = λ i h. record {
        marked = λ r. absurd (true≢false (sym noted ∙ r));
        empty = ⊎_elim
            (λ (e : i ≡ sheet). ap (λ (z : ℕ). (entry_in t z).length) e ∙ ap (λ (w : Entry). w.length)
            (here s t sheet _ y.entries_now y.listed))
            (λ n. ap (λ (w : Entry). w.length) (there s t sheet _ y.entries_now i n) ∙ (x.paused i h).empty)
            (which i sheet);
      };
      old = λ i b l f q u. through i q (b + q) (b + q) (block_same y.card_now (b + q)) (x.old i b l f q u);
      exact = λ m i b l f q u. block_same y.card_now (b + q) ∙ x.exact m i b l f q u;
      nobody_else = λ m i j b c d.
          let w = released_covers s t sheet y j b d in
          let r = x.nobody_else m i j b c w.1 in
          (r.0, ap (λ (e : Entry). e.start) (there s t sheet _ y.entries_now j w.0) ∙ r.1);
      still_held = λ m r. absurd (true≢false (sym noted ∙ r));
      own_now = λ d. own (x.own_now d);
      own_saved = λ d m. own-same-card y.card_now (x.own_saved d m);
    }

  -- ---- a fresh card, which is noted

  module _ (y : Began s t) (noted : released ≡ true) where
    empty-now : (i : ℕ) → (entry_in t i).length ≡ 0
    empty-now i = ap (λ (es : List Entry). (entry_at es i).length) y.entries_now ∙ none_held (length s.entries) i

    pub began-since : Since saved t released moved doubtful
    began-since = record {
      apart = a;
      long = long ∙ x.long;
      courses = λ i b l f. gone noted (empty-now i);
      paused = λ i h. record { marked = λ r. absurd (true≢false (sym noted ∙ r)); empty = empty-now i };
      old = λ i b l f q u. through i q (b + q) (b + q) (block_same y.card_now (b + q)) (x.old i b l f q u);
      exact = λ m i b l f q u. block_same y.card_now (b + q) ∙ x.exact m i b l f q u;
      nobody_else = λ m i j b c d. absurd (began_covers s t y j b d);
      still_held = λ m r. absurd (true≢false (sym noted ∙ r));
      own_now = λ d. own (x.own_now d);
      own_saved = λ d m. own-same-card y.card_now (x.own_saved d m);
    }
