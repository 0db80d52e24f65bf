-- Every public call does one of the things that Deeds.antt names.
-- Assumes nothing.
use Prim.Native.Nat.{ℕ, ◌+◌, ◌-◌, ◌<◌}
use mathlib.Core.Path.{◌≡◌, refl, sym, ap, ◌∙◌}
use mathlib.Core.Logic.{inl, inr}
use mathlib.Core.Bool.{Bool, true, false, cond, not}
use mathlib.Core.List.{List, []}
use native.Mathlib.Nat.{add-zero}
use native.Mathlib.Omega.{arith}
use lib.Dec.{eqb, leb}
use lib.ListN.{length, set}
use borrow.Author.Tests.{leb-false, eqb-false, not-false, eqb-true}
use Rattle.map_blocks.specs.Blocks as map-blocks
use Rattle.map_blocks.specs.Blocks.{fit}
use Rattle.map_blocks.specs.Maps.{marked}
use Rattle.map_blocks.proofs.Fits.{fit_is}
use Rattle.blocks_of_card.specs.Card.{with_block, zeroed}
use Rattle.block_seals.specs.Sealed.{sealed}
use Rattle.laws.proofs.Bools.{neither_left, neither_right}
use Rattle.catalogue.specs.Entries.{absent, open_mark, complete_mark}
use Rattle.catalogue.specs.declared.Entry.{Entry}
use Rattle.catalogue_standings.specs.Rows.{Verdict, accepted, refused, settle}
use Rattle.catalogue_standings.specs.Standings.{start_of, length_of}
use Rattle.catalogue_standings.specs.Answers.{number_of}
use Rattle.catalogue_standings.specs.declared.Answer.{Answer}
use Rattle.catalogue_standings.specs.declared.Answer.TheVariants.{Done, Blank, Refused}
use Rattle.catalogue_standings.specs.declared.Standing.{Standing}
use Rattle.catalogue_standings.specs.declared.Standing.TheVariants.{Open}
use Rattle.catalogue_standings.proofs.Openings.{open_extent}
use Rattle.catalogue_standings.proofs.Rows.{clear}
use Rattle.refusals.specs.Effects as effects
use Rattle.refusals.specs.Effects.{entry_of}
use Rattle.refusals.specs.Lent.{Lent, no_card}
use Rattle.refusals.specs.Placement.{Placement}
use Rattle.refusals.specs.Table as table
use Rattle.refusals.specs.Table.{Ask, reserve, put, grow, complete, change, release, show, standing, offer, accept, show_dated}
use Rattle.refusals.specs.Table.{Change, pause, resume, mark_after, table_of}
use Rattle.refusals.specs.Views.{view_at, view_on}
use Rattle.refusals.specs.declared.Out.{Out}
use Rattle.refusals.proofs.Lent.{sized, below_last}
use Rattle.refusals.proofs.Room.{only_open}
use Rattle.card.specs.Calls.{Kept, told, lent_by, lent_to, lent_by_within}
use Rattle.card.specs.declared.Shape.{Shape}
use Rattle.card.specs.Public.{on, Beside, End, end_on, kept_after}
use Rattle.card.proofs.Refusals as refusals
use Rattle.role_lists.specs.Carers.{stands}
use Rattle.power_cuts.specs.Sorts.{done}
use Rattle.power_cuts.proofs.Deeds.{Took, Put, Turns, completes, Deed}
use Rattle.power_cuts.proofs.Deeds as deeds
use Rattle.power_cuts.proofs.Deeds.{nothing, took, marks, released, entry_in}
use Rattle.power_cuts.proofs.Accepted.{by_pause, by_resume, both_open, all_free, Grants, reserve_grants}
use Rattle.power_cuts.proofs.Accepted.{accept_grants}

module _ (turned guided : Bool) (s : Kept) (b : Beside) (sheet : ℕ) where
  abbrev guide : List ℕ
  guide = cond guided b.summary []

  abbrev lends : List ℕ → Lent
  lends limits = lent_by_within turned guided guide s s.card limits sheet

  abbrev after : Ask → Kept
  after a = kept_after (end_on turned guided s b sheet a)

  abbrev was_done : Ask → Bool
  was_done a = done (end_on turned guided s b sheet a)

  given : (limits : List ℕ) (k start : ℕ) → Grants (lends limits) k start → (t : Kept)
      → t.shape.blocks ≡ s.shape.blocks → t.map ≡ marked s.map start k false
      → t.entries ≡ set s.entries sheet (entry_of open_mark start k) → t.card ≡ zeroed s.card start k
      → Took s t sheet start 0 start k k
  given limits k start g t n m e c = record {
    sizes = g.sizes;
    listed = g.listed;
    before = inl (g.was, refl);
    from_is = sym (add-zero start);
    total_is = omega arith;
    some = g.some;
    inside = (fit_is (map-blocks.free s.map) 0 s.shape.blocks 1 k start g.fits).high;
    unheld = all_free (map-blocks.free s.map) s.shape.blocks k start g.fits;
    blocks_now = n;
    map_now = m;
    entries_now = e;
    card_now = c;
  }

  -- a refusal: the shape as it came, and nothing is changed
  back : (e : End) (a : Answer) → e.outcome ≡ told s.shape a → e.map ≡ s.map → e.entries ≡ s.entries
      → e.card ≡ s.card → kept_after e ≡ s
  back e a p q r u = λ x. record { shape = (p x).shape; map = q x; entries = r x; card = u x }

  reserved : (limits : List ℕ) (k : ℕ) (p : Placement) (v : Verdict) → effects.reserve_verdict (lends limits) k p ≡ v
      → Deed s (after (reserve limits k p)) (on sheet (reserve limits k p)) (was_done (reserve limits k p))
  unfolding effects.reserve_out effects.reserve_map effects.reserve_card effects.taken_out effects.taken_map effects.taken_card
  reserved limits k p accepted h =
      let q : Lent = lends limits in
      let start : ℕ = effects.reserve_start q k p in
      took refl (ap (λ (v : Verdict). eqb (number_of (effects.taken_out q v start k).answer) 0) h) sheet start 0 start k k
      (given limits k start (reserve_grants q k p h) (after (reserve limits k p)) refl
      (ap (λ (v : Verdict). effects.taken_map q v start k) h)
      (ap (λ (v : Verdict). set s.entries sheet (effects.taken_out q v start k).entry) h)
      (ap (λ (v : Verdict). effects.taken_card q v start k) h)) (reserve limits k p) refl
  reserved limits k p (refused number) h =
      let x = refusals.reserve_refused_by turned guided guide s sheet number limits k p h in
      nothing (back (end_on turned guided s b sheet (reserve limits k p)) (Refused number) x.0 x.1 x.3 x.4) refl

  accepts : (limits : List ℕ) (start k : ℕ) (v : Verdict) → effects.accept_verdict (lends limits) start k ≡ v
      → Deed s (after (accept limits start k)) (on sheet (accept limits start k)) (was_done (accept limits start k))
  unfolding effects.accept_out effects.accept_map effects.accept_card effects.taken_out effects.taken_map effects.taken_card
  accepts limits start k accepted h =
      let q : Lent = lends limits in
      took refl (ap (λ (v : Verdict). eqb (number_of (effects.taken_out q v start k).answer) 0) h) sheet start 0 start k k
      (given limits k start (accept_grants q k start h) (after (accept limits start k)) refl
      (ap (λ (v : Verdict). effects.taken_map q v start k) h)
      (ap (λ (v : Verdict). set s.entries sheet (effects.taken_out q v start k).entry) h)
      (ap (λ (v : Verdict). effects.taken_card q v start k) h)) (accept limits start k) refl
  accepts limits start k (refused number) h =
      let x = refusals.accept_refused_by turned guided guide s sheet number limits start k h in
      nothing (back (end_on turned guided s b sheet (accept limits start k)) (Refused number) x.0 x.1 x.3 x.4) refl

  -- ---- grow

  abbrev e : Entry
  e = entry_in s sheet

  -- an Open sheet's entry has its start and length
  open_entry : (a l : ℕ) → stands s sheet ≡ Open a l → (e.start ≡ a) × (e.length ≡ l)
  open_entry a l h =
      let x = open_extent s.shape.blocks (map-blocks.free s.map) e a l h in (x.starts, x.lasts)

  grow_takes : (limits : List ℕ) (m : ℕ) → effects.grow_verdict (lends limits) m ≡ accepted → (t : Kept)
      → t.shape.blocks ≡ s.shape.blocks → t.map ≡ marked s.map (e.start + e.length) m false
      → t.entries ≡ set s.entries sheet (entry_of open_mark e.start (e.length + m))
      → t.card ≡ zeroed s.card (e.start + e.length) m
      → Took s t sheet e.start e.length (e.start + e.length) m (e.length + m)
  unfolding effects.grow_verdict view_on table_of
  grow_takes limits m h t n w es c =
      let q : Lent = lends limits in
      let rows = table_of (view_on q) (table.on sheet (grow limits m)) in
      let st : Standing = stands s sheet in
      let is = only_open st (clear 4 rows h).0 (clear 5 rows h).0 (clear 6 rows h).0 (clear 8 rows h).0 in
      let x = open_entry (start_of st) (length_of st) is in
      let z = eqb-false m 0 (clear 3 rows h).0 in
      let f = map-blocks.free s.map in
      let end : start_of st + length_of st ≡ e.start + e.length = omega (arith, x.0, x.1) in
      let fits : fit f 0 s.shape.blocks 1 m (e.start + e.length) ≡ true =
      ap (λ (x : ℕ). fit f 0 s.shape.blocks 1 m x) (sym end) ∙ not-false _ (clear 11 rows h).0 in
      record {
        sizes = sized q (not-false _ (clear 1 rows h).0);
        listed = leb-false (length s.entries) sheet (clear 2 rows h).0;
        before = inr (is ∙ sym (both_open x.0 x.1));
        from_is = refl;
        total_is = refl;
        some = omega (arith, z);
        inside = (fit_is f 0 s.shape.blocks 1 m (e.start + e.length) fits).high;
        unheld = all_free f s.shape.blocks m (e.start + e.length) fits;
        blocks_now = n;
        map_now = w;
        entries_now = es;
        card_now = c;
      }

  abbrev grow_to : ℕ → Verdict → Out
  grow_to m v = settle v (effects.out_of (s.shape.free - m) (entry_of open_mark e.start (e.length + m)) Done)
      (effects.refusal_out s.shape.free e)

  grown : (limits : List ℕ) (m : ℕ) (v : Verdict) → effects.grow_verdict (lends limits) m ≡ v
      → Deed s (after (grow limits m)) (on sheet (grow limits m)) (was_done (grow limits m))
  unfolding effects.grow_out effects.grow_map effects.grow_card
  grown limits m accepted h =
      let from : ℕ = e.start + e.length in
      took refl (ap (λ (v : Verdict). eqb (number_of (grow_to m v).answer) 0) h) sheet e.start e.length from m
      (e.length + m)
      (grow_takes limits m h (after (grow limits m)) refl
      (ap (λ (v : Verdict). settle v (marked s.map from m false) (λ number. s.map)) h)
      (ap (λ (v : Verdict). set s.entries sheet (grow_to m v).entry) h)
      (ap (λ (v : Verdict). settle v (zeroed s.card from m) (λ number. s.card)) h))
      (grow limits m) refl
  grown limits m (refused number) h =
      let x = refusals.grow_refused_by turned guided guide s sheet number limits m h in
      nothing (back (end_on turned guided s b sheet (grow limits m)) (Refused number) x.0 x.1 x.3 x.4) refl

  -- ---- put

  abbrev q : Lent
  q = lent_to turned s s.card sheet

  abbrev bare : Lent
  bare = lent_to turned s no_card sheet

  put_writes : (place : ℕ) (payload : List ℕ) → effects.put_verdict q place payload ≡ accepted → (t : Kept)
      → t.shape ≡ s.shape → t.map ≡ s.map → t.entries ≡ s.entries
      → t.card ≡ with_block s.card (e.start + place) (sealed sheet place payload)
      → Put s t sheet e.start e.length place payload
  unfolding effects.put_verdict view_on table_of
  put_writes place payload h t n w es c =
      let rows = table_of (view_on q) (table.on sheet (put place payload)) in
      let st : Standing = stands s sheet in
      let is = only_open st (clear 4 rows h).0 (clear 5 rows h).0 (clear 6 rows h).0 (clear 8 rows h).0 in
      let x = open_entry (start_of st) (length_of st) is in
      let misplaced = (clear 3 rows h).0 in
      record {
        sizes = sized q (not-false _ (clear 1 rows h).0);
        few = below_last q (not-false _ (clear 1 rows h).0) (clear 2 rows h).0;
        before = is ∙ sym (both_open x.0 x.1);
        placed = omega (arith, x.1, leb-false (length_of st) place (neither_left _ (not (eqb (length payload) 496)) misplaced));
        bytes = eqb-true (length payload) 496 (not-false _ (neither_right (leb (length_of st) place) _ misplaced));
        shape_now = n;
        map_now = w;
        entries_now = es;
        card_now = c;
      }

  wrote : (place : ℕ) (payload : List ℕ) (v : Verdict) → effects.put_verdict q place payload ≡ v
      → Deed s (after (put place payload)) (on sheet (put place payload)) (was_done (put place payload))
  unfolding effects.put_answer effects.put_card
  wrote place payload accepted h =
      deeds.put sheet e.start e.length place payload refl
      (put_writes place payload h (after (put place payload)) refl refl refl
      (ap (λ (v : Verdict). settle v (with_block s.card (e.start + place) (sealed sheet place payload)) (λ number. s.card))
      h))
  wrote place payload (refused number) h =
      let x = refusals.put_refused turned s sheet number place payload h in
      nothing (back (end_on turned guided s b sheet (put place payload)) (Refused number) x.0 refl refl x.1) refl

  -- ---- complete, pause and resume

  abbrev shape_of : Out → Shape
  shape_of out = record { blocks = s.shape.blocks; free = out.free }

  completing : effects.complete_verdict q ≡ accepted → (sheet < length s.entries) × Turns (stands s sheet) complete_mark
  unfolding effects.complete_verdict view_on table_of
  completing h =
      let rows = table_of (view_on q) (table.on sheet complete) in
      let st : Standing = stands s sheet in (
        leb-false (length s.entries) sheet (clear 2 rows h).0,
        completes (start_of st) (length_of st)
            (only_open st (clear 4 rows h).0 (clear 5 rows h).0 (clear 6 rows h).0 (clear 8 rows h).0) refl,
      )

  completed : (v : Verdict) → effects.complete_verdict q ≡ v
      → Deed s (after complete) (on sheet complete) (was_done complete)
  unfolding effects.complete_out
  completed accepted h =
      let x = completing h in
      marks refl sheet complete_mark (record {
        listed = x.0;
        turns = x.1;
        shape_now = ap (λ (v : Verdict). shape_of (settle v (effects.out_of s.shape.free
            (entry_of complete_mark e.start e.length) Done)
            (λ number. effects.out_of s.shape.free e (cond (eqb number 9) (Blank (effects.blank_place q))
            (Refused number))))) h;
        map_now = refl;
        entries_now = ap (λ (v : Verdict). set s.entries sheet (settle v (effects.out_of s.shape.free
            (entry_of complete_mark e.start e.length) Done)
            (λ number. effects.out_of s.shape.free e (cond (eqb number 9) (Blank (effects.blank_place q)) (Refused number)))
            ).entry) h;
        card_now = refl;
      })
  completed (refused number) h =
      let x = refusals.complete_refused turned s sheet number h in
      nothing (back (end_on turned guided s b sheet complete) _ x.0 refl x.1 refl) refl

  turning : (c : Change) → effects.change_verdict bare c ≡ accepted
      → (sheet < length s.entries) × Turns (stands s sheet) (mark_after c)
  unfolding effects.change_verdict view_at table_of
  turning pause h =
      let rows = table_of (view_at bare) (table.on sheet (change pause)) in (
        leb-false (length s.entries) sheet (clear 2 rows h).0,
        by_pause (stands s sheet) (clear 4 rows h).0 (clear 6 rows h).0 (clear 7 rows h).0,
      )
  turning resume h =
      let rows = table_of (view_at bare) (table.on sheet (change resume)) in (
        leb-false (length s.entries) sheet (clear 2 rows h).0,
        by_resume (stands s sheet) (clear 4 rows h).0 (clear 5 rows h).0 (clear 6 rows h).0 (clear 7 rows h).0
            (clear 8 rows h).0,
      )

  changed : (c : Change) (v : Verdict) → effects.change_verdict bare c ≡ v
      → Deed s (after (change c)) (on sheet (change c)) (was_done (change c))
  unfolding effects.change_out
  changed c accepted h =
      let x = turning c h in
      marks refl sheet (mark_after c) (record {
        listed = x.0;
        turns = x.1;
        shape_now = ap (λ (v : Verdict). shape_of (settle v (effects.out_of s.shape.free
            (entry_of (mark_after c) e.start e.length) Done) (effects.refusal_out s.shape.free e))) h;
        map_now = refl;
        entries_now = ap (λ (v : Verdict). set s.entries sheet (settle v (effects.out_of s.shape.free
            (entry_of (mark_after c) e.start e.length) Done) (effects.refusal_out s.shape.free e)).entry) h;
        card_now = refl;
      })
  changed c (refused number) h =
      let x = refusals.change_refused turned s sheet number c h in
      nothing (back (end_on turned guided s b sheet (change c)) (Refused number) x.0 refl x.1 refl) refl

  -- ---- release

  abbrev lent : Lent
  lent = lent_by turned guided guide s no_card sheet

  releasing : effects.release_verdict lent ≡ accepted → sheet < length s.entries
  unfolding effects.release_verdict view_at table_of
  releasing h = leb-false (length s.entries) sheet (clear 2 (table_of (view_at lent) (table.on sheet release)) h).0

  abbrev freed : Verdict → Out
  freed v = settle v (effects.out_of (s.shape.free + e.length) absent Done) (effects.refusal_out s.shape.free e)

  gave_back : (v : Verdict) → effects.release_verdict lent ≡ v → Deed s (after release) (on sheet release) (was_done release)
  unfolding effects.release_out effects.release_map
  gave_back accepted h =
      released refl (ap (λ (v : Verdict). eqb (number_of (freed v).answer) 0) h) sheet (record {
        listed = releasing h;
        blocks_now = refl;
        map_now = ap (λ (v : Verdict). settle v (marked s.map e.start e.length true) (λ number. s.map)) h;
        entries_now = ap (λ (v : Verdict). set s.entries sheet (freed v).entry) h;
        card_now = refl;
      })
  gave_back (refused number) h =
      let x = refusals.release_refused_by turned guided guide s sheet number h in
      nothing (back (end_on turned guided s b sheet release) (Refused number) x.0 x.1 x.3 refl) refl

  -- ---- every call on a sheet

  pub on_a_sheet : (a : Ask) → Deed s (after a) (on sheet a) (was_done a)
  on_a_sheet (reserve limits k p) = reserved limits k p (effects.reserve_verdict (lends limits) k p) refl
  on_a_sheet (accept limits start k) = accepts limits start k (effects.accept_verdict (lends limits) start k) refl
  on_a_sheet (grow limits m) = grown limits m (effects.grow_verdict (lends limits) m) refl
  on_a_sheet (put place payload) = wrote place payload (effects.put_verdict q place payload) refl
  on_a_sheet complete = completed (effects.complete_verdict q) refl
  on_a_sheet (change c) = changed c (effects.change_verdict bare c) refl
  on_a_sheet release = gave_back (effects.release_verdict lent) refl
  on_a_sheet (offer limits k) = nothing refl refl
  on_a_sheet (show place buffer) = nothing refl refl
  on_a_sheet (show_dated place date buffer) = nothing refl refl
  on_a_sheet standing = nothing refl refl
