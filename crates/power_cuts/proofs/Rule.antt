-- The rule: `the_rule`.
-- Assumes nothing.
use Prim.Native.Nat.{ℕ, ◌+◌, ◌≤◌, ◌<◌}
use mathlib.Core.Path.{◌≡◌, refl, sym, ap, subst, ◌∙◌}
use mathlib.Core.Logic.{◌⊎◌, inl, inr, ⊎_elim}
use mathlib.Core.Bool.{Bool, true, false, ◌&&◌, ◌||◌, cond, true≢false}
use mathlib.Core.List.{List, [], ◌∷◌}
use native.Mathlib.Omega.{arith}
use lib.ListN.{length}
use Rattle.laws.proofs.Bools.{order, and_left, and_right, neither_left, neither_right}
use Rattle.map_blocks.specs.Blocks.{free}
use Rattle.blocks_of_card.specs.Card.{block_of}
use Rattle.block_seals.specs.Sealed.{sound}
use Rattle.catalogue.specs.Entries.{entry_at}
use Rattle.catalogue.specs.declared.Entry.{Entry}
use Rattle.catalogue_standings.specs.Standings.{standing_of, is_paused, is_complete}
use Rattle.catalogue_standings.specs.declared.Standing.{Standing}
use Rattle.catalogue_standings.specs.declared.Standing.TheVariants.{Absent, Paused, PausedWith, Open, Complete, Damaged}
use Rattle.refusals.specs.Table as table
use Rattle.refusals.specs.Table.{Ask, reserve, grow, complete, change, release, show, standing, offer, accept, show_dated}
use Rattle.card.specs.Calls.{Kept}
use Rattle.card.specs.Public.{Public, on, fresh, search, survey, save, close, build, check, load, ends}
use Rattle.ledger.specs.Lists.{Made}
use Rattle.role_lists.specs.Carers.{stands}
use Rattle.power_cuts.specs.Held.{Finished}
use Rattle.power_cuts.specs.Images.{SavedAs, recalled}
use Rattle.power_cuts.specs.Own.{OwnBlocks}
use Rattle.power_cuts.specs.Rule as rule
use Rattle.power_cuts.specs.Rule.{Point, begin, Allowed, CutIn, OldNewOrTorn, ending, left, was_saved, after_save}
use Rattle.power_cuts.specs.Rule.{after_other}
use Rattle.power_cuts.specs.Rule.{after_call, after_cut, Event, makes, cuts, KeepsRule, lived, Unfinished, Safe, TheRule}
use Rattle.power_cuts.specs.Sorts.{Sort, taking, putting, sort_on, sort_of, takes}
use Rattle.power_cuts.specs.Sorts.{moves, saves, done}
use Rattle.power_cuts.proofs.Apart.{Apart, sound_apart}
use Rattle.power_cuts.proofs.Blocks.{took_other, put_other}
use Rattle.power_cuts.proofs.Closings.{closing_sound, closing_bytes}
use Rattle.power_cuts.proofs.Deeds.{entry_in, Took, Closed}
use Rattle.power_cuts.proofs.Deeds.{Deed, nothing, took, put, marks, released, closed, began, loaded}
use Rattle.power_cuts.proofs.Images.{saved_sound, gives_back}
use Rattle.power_cuts.proofs.Keeping.{here, keeps_apart, which}
use Rattle.power_cuts.proofs.Notes.{of_sort, since-call, was_paused, just_saved}
use Rattle.power_cuts.proofs.OlderImage.{recalls}
use Rattle.power_cuts.proofs.Own.{deed_own, mended_own}
use Rattle.power_cuts.proofs.Shown.{shows_or_refuses}
use Rattle.power_cuts.proofs.Since.{Since, since_recalled, not_open, paused_not_open}
use Rattle.power_cuts.proofs.Standings.{holds_so, extent_made, is_open_lem}
use Rattle.power_cuts.proofs.WholeCalls.{every_call}
use Rattle.power_cuts.proofs.Words.{Words, keeps_words}
use Rattle.power_cuts.proofs.Writes.{finished_holds}

-- ---- what an accepted closing, a save and a put did

-- a deed of another sort
not_of : (f : Sort → Bool) (c : Public) (sort : Sort) (d : Bool) → sort_of c ≡ sort → f sort ≡ false → (f (sort_of c) && d)
    ≡ true
    → ⊥
not_of f c sort d i n h = true≢false (sym h ∙ of_sort f c sort d i ∙ ap (λ (x : Bool). x && d) n)

closing_deed : (s t : Kept) (c : Public) (d : Bool) → Deed s t c d → (moves (sort_of c) && d) ≡ true → Closed s t
closing_deed s t c d (nothing e z) h = absurd (true≢false (sym h ∙ z))
closing_deed s t c d (took i j sheet start count from k total y asked is) h = absurd (not_of moves c _ d i refl h)
closing_deed s t c d (put sheet start count place payload i y) h = absurd (not_of moves c putting d (ap sort_of i) refl h)
closing_deed s t c d (marks i sheet mark y) h = absurd (not_of moves c _ d i refl h)
closing_deed s t c d (released i j sheet y) h = absurd (not_of moves c _ d i refl h)
closing_deed s t c d (closed i j y) h = y
closing_deed s t c d (began i j y) h = absurd (not_of moves c _ d i refl h)
closing_deed s t c d (loaded i j y) h = absurd (not_of moves c _ d i refl h)

saving_deed : (s t : Kept) (c : Public) (d : Bool) → Deed s t c d → (saves (sort_of c) && d) ≡ true → t ≡ s
saving_deed s t c d (nothing e z) h = e
saving_deed s t c d (took i j sheet start count from k total y asked is) h = absurd (not_of saves c _ d i refl h)
saving_deed s t c d (put sheet start count place payload i y) h = absurd (not_of saves c putting d (ap sort_of i) refl h)
saving_deed s t c d (marks i sheet mark y) h = absurd (not_of saves c _ d i refl h)
saving_deed s t c d (released i j sheet y) h = absurd (not_of saves c _ d i refl h)
saving_deed s t c d (closed i j y) h = absurd (not_of saves c _ d i refl h)
saving_deed s t c d (began i j y) h = absurd (not_of saves c _ d i refl h)
saving_deed s t c d (loaded i j y) h = absurd (not_of saves c _ d i refl h)

is_save : (c : Public) → saves (sort_of c) ≡ true → c ≡ save
is_save (on sheet (reserve limits k p)) h = absurd (true≢false (sym h))
is_save (on sheet (accept limits start k)) h = absurd (true≢false (sym h))
is_save (on sheet (grow limits m)) h = absurd (true≢false (sym h))
is_save (on sheet (table.put place payload)) h = absurd (true≢false (sym h))
is_save (on sheet complete) h = absurd (true≢false (sym h))
is_save (on sheet (change c)) h = absurd (true≢false (sym h))
is_save (on sheet release) h = absurd (true≢false (sym h))
is_save (on sheet (offer limits k)) h = absurd (true≢false (sym h))
is_save (on sheet (show place buffer)) h = absurd (true≢false (sym h))
is_save (on sheet (show_dated place date buffer)) h = absurd (true≢false (sym h))
is_save (on sheet standing) h = absurd (true≢false (sym h))
is_save (fresh n) h = absurd (true≢false (sym h))
is_save (load image) h = absurd (true≢false (sym h))
is_save close h = absurd (true≢false (sym h))
is_save save h = refl
is_save (search k) h = absurd (true≢false (sym h))
is_save survey h = absurd (true≢false (sym h))
is_save build h = absurd (true≢false (sym h))
is_save check h = absurd (true≢false (sym h))

-- no call on a sheet is a closing
no_close : (ask : Ask) → moves (sort_on ask) ≡ true → ⊥
no_close (reserve limits k p) h = true≢false (sym h)
no_close (accept limits start k) h = true≢false (sym h)
no_close (grow limits m) h = true≢false (sym h)
no_close (table.put place payload) h = true≢false (sym h)
no_close complete h = true≢false (sym h)
no_close (change c) h = true≢false (sym h)
no_close release h = true≢false (sym h)
no_close (offer limits k) h = true≢false (sym h)
no_close (show place buffer) h = true≢false (sym h)
no_close (show_dated place date buffer) h = true≢false (sym h)
no_close standing h = true≢false (sym h)

-- a call on a sheet that changed a block: it was a put to an Open sheet, and the block was the place's; or the sheet is Open
-- afterwards, and the block is one that it took
pub record Written (s t : Kept) (sheet b : ℕ) : Type 0 where
  pub start : ℕ
  pub count : ℕ
  pub at : ℕ
  pub was_open : stands s sheet ≡ Open start count
  pub placed : at < count
  pub spot : b ≡ start + at
  pub starts : (entry_in t sheet).start ≡ start

pub record Taken (s t : Kept) (c : Public) (d : Bool) (sheet b : ℕ) : Type 0 where
  pub took_so : (takes (sort_of c) && d) ≡ true
  pub start : ℕ
  pub total : ℕ
  pub now_open : stands t sheet ≡ Open start total
  pub was_free : free s.map b ≡ true

took_open : (s t : Kept) (sheet start count from k total : ℕ) → Took s t sheet start count from k total → Apart t
    → stands t sheet ≡ Open start total
took_open s t sheet start count from k total y a =
    let e = here s t sheet _ y.entries_now y.listed in
    let f = y.from_is in
    let g = y.total_is in
    let n = y.blocks_now in
    ap (standing_of t.shape.blocks (free t.map)) e
    ∙ is_open_lem t.shape.blocks (free t.map) start total
    (extent_made t.shape.blocks (free t.map) start total (omega (arith, y.some)) (omega (arith, y.inside))
    (λ b l u. a.taken sheet b
    (subst (λ (z : Entry). (z.start ≤ b) × (b < z.start + z.length)) (sym e) (l, u))))

written : (s t : Kept) (c : Public) (d : Bool) → Deed s t c d → Apart t → (sheet b : ℕ) (ask : Ask) → c ≡ on sheet ask
    → (block_of s.card b ≡ block_of t.card b → ⊥) → Written s t sheet b ⊎ Taken s t c d sheet b
written s t c d (nothing e z) a sheet b ask w n = absurd (n (ap (λ (u : Kept). block_of u.card b) (sym e)))
written s t c d (took i j other start count from k total y asked is) a sheet b ask w n =
    let same : on other asked ≡ on sheet ask = sym is ∙ w in
    let sheets : other ≡ sheet = (cc same) in
    inr (record {
      took_so = of_sort takes c taking d i ∙ j;
      start = start;
      total = total;
      now_open = ap (stands t) (sym sheets) ∙ took_open s t other start count from k total y a;
      was_free = ⊎_elim
          (λ (l : b < from). absurd (n (sym (took_other s t other start count from k total y b (λ u v. omega (arith, l, u))))))
          (λ (l : from ≤ b). ⊎_elim (λ (u : b < from + k). y.unheld b l u)
          (λ (u : from + k ≤ b).
          absurd (n (sym (took_other s t other start count from k total y b (λ x v. omega (arith, u, v))))))
          (order b (from + k)))
          (order b from);
    })
written s t c d (put other start count at payload i y) a sheet b ask w n =
    let same : on other (table.put at payload) ≡ on sheet ask = sym i ∙ w in
    let sheets : other ≡ sheet = (cc same) in
    inl (record {
      start = start;
      count = count;
      at = at;
      was_open = ap (stands s) (sym sheets) ∙ y.before;
      placed = y.placed;
      spot = ⊎_elim (λ (e : b ≡ start + at). e)
          (λ k. absurd (n (sym (put_other s t other start count at payload y b k)))) (which b (start + at));
      starts = ap (λ (es : List Entry). (entry_at es sheet).start) y.entries_now
          ∙ ap (λ (z : ℕ). (entry_in s z).start) (sym sheets)
          ∙ (holds_so s.shape.blocks (free s.map) (entry_in s other) (Open start count) y.before refl).starts;
    })
written s t c d (marks i other mark y) a sheet b ask w n =
    absurd (n (ap (λ (x : List ℕ). block_of x b) (sym y.card_now)))
written s t c d (released i j other y) a sheet b ask w n =
    absurd (n (ap (λ (x : List ℕ). block_of x b) (sym y.card_now)))
written s t c d (closed i j y) a sheet b ask w n = absurd (no_close ask (ap moves (ap sort_of (sym w) ∙ i)))
written s t c d (began i j y) a sheet b ask w n =
    absurd (n (ap (λ (x : List ℕ). block_of x b) (sym y.card_now)))
written s t c d (loaded i j y) a sheet b ask w n =
    absurd (n (ap (λ (x : List ℕ). block_of x b) (sym y.card_now)))

-- ---- a point of a life

record Good (p : Point) : Type 0 where
  saved_as : SavedAs p.saved p.image
  words : Words p.now.map
  since : Since p.saved p.now p.released p.moved p.doubtful

module _ (p : Point) (m : Made) (good : Good p) (allowed : Allowed p m) where
  deed : Deed p.now (left p m) m.call (done (ending p m))
  deed = every_call m.manner p.now m.beside m.call

  owns : rule.closed p m ≡ true → OwnBlocks p.now
  owns h =
      let y = closing_deed p.now (left p m) m.call (done (ending p m)) deed h in
      ⊎_elim (λ e. good.since.own_now e)
      (λ e. mended_own p.now (closing_sound p.saved p.now (left p m) y) (closing_bytes p.saved p.now
      (left p m) y)
      e)
      (allowed.closes_mended h)

  then_since : Since p.saved (left p m) (p.released || rule.freed p m) (p.moved || rule.closed p m)
      (cond (rule.closed p m) false p.doubtful)
  then_since =
      since-call p.saved p.now (left p m) m.call (done (ending p m)) p.released p.moved p.doubtful
      good.since allowed.takes_none owns allowed.no_load deed

  words_then : Words (left p m).map
  words_then =
      keeps_words p.now (left p m) m.call (done (ending p m)) deed allowed.no_load good.words

  -- a save that was done
  good_save : was_saved p m ≡ true → Good (after_save p m)
  good_save h =
      let is = is_save m.call (and_left _ (done (ending p m)) h) in
      let d : done (ending p m) ≡ true = and_right (saves (sort_of m.call)) _ h in
      let same : left p m ≡ p.now = saving_deed p.now (left p m) m.call (done (ending p m)) deed h in
      let saved : SavedAs p.now (ending p m).beside.image = record {
        manner = m.manner;
        beside = m.beside;
        was_done_lem = subst (λ (c : Public). done (ends m.manner p.now m.beside c) ≡ true) is d;
        left = ap (λ (c : Public). (ends m.manner p.now m.beside c).beside.image) (sym is);
        words = good.words;
      } in
      record {
        saved_as = subst (λ (s : Kept). SavedAs s (ending p m).beside.image) (sym same) saved;
        words = words_then;
        since = just_saved (left p m) p.doubtful
            (keeps_apart p.now (left p m) m.call (done (ending p m)) deed good.since.apart)
            (λ e. deed_own p.now (left p m) m.call (done (ending p m)) deed good.since.apart allowed.no_load
            (good.since.own_now e));
      }

  good_call : Good (after_call p m)
  good_call = go (was_saved p m) refl
    where
      go : (b : Bool) → was_saved p m ≡ b → Good (cond b (after_save p m) (after_other p m))
      go true e = good_save e
      go false e = record { saved_as = good.saved_as; words = words_then; since = then_since }

  -- ---- a cut in the middle of the call

  module _ (card : List ℕ) (cut : CutIn p m card) where
    abbrev s₀ : Kept
    s₀ = p.saved

    long : length card ≡ length s₀.card
    long = cut.lengths ∙ good.since.long

    unmoved : (p.moved || rule.closed p m) ≡ false → p.moved ≡ false
    unmoved e = neither_left p.moved (rule.closed p m) e

    old : (sheet start count : ℕ) → Finished s₀ sheet start count → (q : ℕ) → q < count
        → sound sheet q (block_of card (start + q)) ≡ true → block_of card (start + q) ≡ block_of s₀.card (start + q)
    old sheet start count f q l h = go (cut.blocks (start + q))
      where
        go : OldNewOrTorn m.call p.now (left p m) (start + q) (block_of card (start + q))
            → block_of card (start + q) ≡ block_of s₀.card (start + q)
        go (inl e) =
            e ∙ good.since.old sheet start count f q l (subst (λ (x : List ℕ). sound sheet q x ≡ true) e h)
        go (inr (inl e)) =
            e ∙ then_since.old sheet start count f q l (subst (λ (x : List ℕ). sound sheet q x ≡ true) e h)
        go (inr (inr t)) =
            let w = t.passes_no_other sheet q h in
            ⊎_elim
            (λ (o : Written p.now (left p m) sheet (start + q)).
            absurd (not_open s₀ p.now p.released p.moved p.doubtful good.since sheet start count f o.start
            o.count o.was_open))
            (λ (o : Taken p.now (left p m) m.call (done (ending p m)) sheet (start + q)).
            absurd (not_open s₀ (left p m) _ _ _ then_since sheet start count f o.start o.total o.now_open))
            (written p.now (left p m) m.call (done (ending p m)) deed then_since.apart sheet (start + q) w.0 w.1
            t.changed)

    exact : (p.moved || rule.closed p m) ≡ false → (sheet start count : ℕ) → Finished s₀ sheet start count → (q : ℕ)
        → q < count
        → block_of card (start + q) ≡ block_of s₀.card (start + q)
    exact z sheet start count f q l = go (cut.blocks (start + q))
      where
        go : OldNewOrTorn m.call p.now (left p m) (start + q) (block_of card (start + q))
            → block_of card (start + q) ≡ block_of s₀.card (start + q)
        go (inl e) = e ∙ good.since.exact (unmoved z) sheet start count f q l
        go (inr (inl e)) = e ∙ then_since.exact z sheet start count f q l
        go (inr (inr t)) =
            absurd (t.changed (good.since.exact (unmoved z) sheet start count f q l
            ∙ sym (then_since.exact z sheet start count f q l)))

    own : (p.doubtful || (p.moved || rule.closed p m)) ≡ false → OwnBlocks (recalled s₀ card)
    own z i b c other place h = go (cut.blocks b)
      where
        d : p.doubtful ≡ false
        d = neither_left p.doubtful (p.moved || rule.closed p m) z

        u : (p.moved || rule.closed p m) ≡ false
        u = neither_right p.doubtful (p.moved || rule.closed p m) z

        d-then : cond (rule.closed p m) false p.doubtful ≡ false
        d-then = ap (λ (x : Bool). cond x false p.doubtful) (neither_right p.moved (rule.closed p m) u) ∙ d

        go : OldNewOrTorn m.call p.now (left p m) b (block_of card b)
            → (other ≡ i) × ((entry_in s₀ i).start + place ≡ b)
        go (inl e) =
            good.since.own_saved d (unmoved u) i b c other place (subst (λ (x : List ℕ). sound other place x ≡ true) e h)
        go (inr (inl e)) =
            then_since.own_saved d-then u i b c other place (subst (λ (x : List ℕ). sound other place x ≡ true) e h)
        go (inr (inr t)) =
            let w = t.passes_no_other other place h in
            ⊎_elim
            (λ (o : Written p.now (left p m) other b).
            let k = holds_so p.now.shape.blocks (free p.now.map) (entry_in p.now other) (Open o.start o.count)
            o.was_open refl in
            let r = good.since.nobody_else (unmoved u) i other b c
            (omega (arith, o.spot, k.starts), omega (arith, o.spot, k.starts, k.lasts, o.placed)) in
            (r.0, omega (arith, r.1, k.starts, o.starts, w.2)))
            (λ (o : Taken p.now (left p m) m.call (done (ending p m)) other b).
            absurd (true≢false (sym o.was_free ∙ good.since.apart.taken i b
            (good.since.still_held (unmoved u) (allowed.takes_none o.took_so) i b c))))
            (written p.now (left p m) m.call (done (ending p m)) deed then_since.apart other b w.0 w.1
            t.changed)

    good-cut : Good (after_cut p m card)
    good-cut = record {
      saved_as = good.saved_as;
      words = good.saved_as.words;
      since = since_recalled s₀ card (p.moved || rule.closed p m) (p.doubtful || (p.moved || rule.closed p m))
          (sound_apart s₀ (saved_sound s₀ p.image good.saved_as)) long (was_paused s₀) old exact own;
    }

    -- no sheet that is Open was Paused or Complete
    module _ (now : Kept) (released₁ moved₁ doubtful₁ : Bool) (x : Since s₀ now released₁ moved₁ doubtful₁) where
      unfinished : (sheet start count : ℕ) → stands now sheet ≡ Open start count → Unfinished s₀ sheet
      unfinished sheet start count h = go (stands s₀ sheet) refl
        where
          go : (st : Standing) → stands s₀ sheet ≡ st → (is_paused st ≡ false) × (is_complete st ≡ false)
          go Absent e = (refl, refl)
          go Paused e = absurd (paused_not_open s₀ now released₁ moved₁ doubtful₁ x sheet e start count h)
          go (PausedWith a l) e = absurd (not_open s₀ now released₁ moved₁ doubtful₁ x sheet a l (inr e) start count h)
          go (Open a l) e = (refl, refl)
          go (Complete a l) e = absurd (not_open s₀ now released₁ moved₁ doubtful₁ x sheet a l (inl e) start count h)
          go Damaged e = (refl, refl)

    safe : Safe p m card
    safe = record {
      gives_back = λ u manner b anew. gives_back s₀ p.image good.saved_as u manner b anew;
      shows = λ z sheet start count h. recalls s₀ card long sheet start count h (λ q l. exact z sheet start count (inl h) q l);
      shows_or_refuses = λ sheet start count h.
          let o = finished_holds s₀ sheet start count (inl h) in
          shows_or_refuses s₀ card sheet start count h long
          (λ q l. subst (λ (b : ℕ). sound sheet q (block_of card (b + q)) ≡ true
          → block_of card (b + q) ≡ block_of s₀.card (b + q)) (sym o.starts) (old sheet start count (inl h) q l));
      open_before = unfinished p.now p.released p.moved p.doubtful good.since;
      open_after = λ sheet start count h z. unfinished (left p m) _ _ _ then_since sheet start count h;
      own = own;
    }

-- ---- every life

good_lived : (p : Point) (events : List Event) → Good p → KeepsRule p events → Good (lived p events)
good_lived p [] good keeps = good
good_lived p (makes m ∷ events) good keeps = good_lived (after_call p m) events (good_call p m good keeps.0) keeps.1
good_lived p (cuts m card ∷ events) good keeps =
    good_lived (after_cut p m card) events (good-cut p m good keeps.0 card keeps.1) keeps.2

pub the_rule : TheRule
the_rule s image doubtful saved own events keeps m card allowed cut =
    let good : Good (begin s image doubtful) = record {
      saved_as = saved;
      words = saved.words;
      since = just_saved s doubtful (sound_apart s (saved_sound s image saved)) own;
    } in
    safe (lived (begin s image doubtful) events) m (good_lived (begin s image doubtful) events good keeps) allowed card cut
