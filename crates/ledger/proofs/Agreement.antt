-- The state that a ledger calls for, and that the rows read the same of it as of the ledger: every verdict is the ledger's.
-- Assumes nothing.
use Prim.Native.Nat.{ℕ, ◌+◌, ◌-◌, ◌*◌, ◌/◌, ◌%◌, ◌^◌, ◌≤◌, ◌<◌}
use mathlib.Core.Path.{◌≡◌, refl, sym, ap, ◌∙◌, fun_ext}
use mathlib.Core.Bool.{Bool, true, false, cond, not, ◌&&◌, true≢false}
use mathlib.Core.List.{List, [], ◌∷◌, map}
use native.Mathlib.Nat.{zero-div, add-zero}
use native.Mathlib.Omega.{arith}
use lib.Dec.{eqb, leb, ltb}
use lib.ListN.{length, length-map, get_or-eq_default}
use borrow.Author.Tests.{le-leb, lt-ltb, le-ltb, eq-eqb, ne_eqb, leb-false, ltb-true, ltb-false, not-true}
use Rattle.map_blocks.specs.Blocks as map-blocks
use Rattle.map_blocks.specs.Maps.{map_of, words_for}
use Rattle.map_blocks.proofs.Maps.{map_length, map_free}
use Rattle.map_blocks.proofs.Runs.{all_intro}
use Rattle.blocks_of_card.specs.Card.{block_of}
use Rattle.block_seals.specs.Sealed as sealed-block
use Rattle.block_seals.proofs.Blank.{blank_zeros}
use Rattle.block_seals.proofs.Sealed.{sound_own, sound_zeros, blank_sealed, payload_sealed}
use Rattle.calendar.specs.Term.{Term, term_of}
use Rattle.catalogue.specs.Entries.{entry_at}
use Rattle.catalogue.specs.declared.Entry.{Entry}
use Rattle.catalogue_wings.specs.Wings.{wing_of, held_by}
use Rattle.catalogue_standings.specs.Rows.{row, Verdict, refused, first_of}
use Rattle.catalogue_standings.specs.Standings.{extent_holds, standing_of, is_damaged}
use Rattle.catalogue_standings.specs.declared.Standing.{Standing}
use Rattle.refusals.specs.Table.{Ask, on, View, rows_for, table_of, verdict_of}
use Rattle.catalogue_standings.specs.Limits.{shape_fits, sheets_fit}
use Rattle.refusals.specs.Placement.{least_within}
use Rattle.refusals.proofs.Turned.{turned_first}
use Rattle.refusals.specs.Lent.{called_by, lent, within, no_card}
use Rattle.refusals.specs.Views.{view_at, view_on}
use Rattle.catalogue_standings.proofs.Openings.{skip, stop}
use Rattle.ledger.specs.Calls as book
use Rattle.ledger.specs.Calls.{turned_in}
use Rattle.ledger.specs.Ledger.{Place, Blank, Payload, Sheet, Absent, Paused, PausedWith, Open, Complete, standing_in}
use Rattle.ledger.specs.Ledger.{start_in, length_in, is_blank, bytes_of, sheet_at, place_at, cover, free_in, spare_in}
use Rattle.ledger.specs.Ledger.{view_by, held_in, verdict_in}
use Rattle.ledger.specs.Claim.{entry_in, block_in}
use Rattle.card.specs.Calls.{Kept}
use Rattle.ledger.proofs.Cover.{covers_in, cover_at}
use Rattle.ledger.proofs.Listed.{listed_same, spare_is}
use Rattle.ledger.proofs.Rows.{Never}
use Rattle.ledger.proofs.Sheets.{Sized, Fine, Sound}
use Rattle.ledger.proofs.Wings.{entry_at_lem, wing_same}

-- ---- the state that a ledger calls for

abbrev pub map_in : ℕ → List Sheet → List ℕ
map_in n l = map_of (free_in n l) (words_for n)

abbrev pub state_of : ℕ → List Sheet → List ℕ → Kept
state_of n l card = record {
  shape = record { blocks = n; free = spare_in n l };
  map = map_in n l;
  entries = map entry_in l;
  card = card;
}

-- what holds of a ledger and of the card beside it, after every list
pub record Matches (n : ℕ) (l : List Sheet) (card : List ℕ) : Type 0 where
  pub low : 1 ≤ n
  pub high : n ≤ 262144
  pub some_sheet : 1 ≤ length l
  pub few_sheets : length l ≤ 1024
  pub sound : Sound n l
  pub room : length card ≡ 512 * n
  pub blocks : (i p : ℕ) → p < length_in (sheet_at l i) → block_of card (start_in (sheet_at l i) + p)
      ≡ block_in i p (place_at l i p)

-- ---- what the rows read of it

past_words : (f : ℕ → Bool) (w b : ℕ) → w * 64 ≤ b → map-blocks.free (map_of f w) b ≡ false
unfolding map-blocks.free
past_words f w b h =
    ap {B = Bool} (λ (x : ℕ). eqb (x / 2 ^ (63 - b % 64) % 2) 1)
    (get_or-eq_default (map_of f w) 0 (omega (arith, map_length f w)))
    ∙ ap {B = Bool} (λ (x : ℕ). eqb (x % 2) 1) (zero-div (2 ^ (63 - b % 64)))

pub free_map : (n : ℕ) (l : List Sheet) → map-blocks.free (map_in n l) ≡ free_in n l
free_map n l = fun_ext (λ b. go b (ltb b (words_for n * 64)) refl)
  where
    go : (b : ℕ) (t : Bool) → ltb b (words_for n * 64) ≡ t → map-blocks.free (map_in n l) b ≡ free_in n l b
    go b true e = map_free (free_in n l) (words_for n) b (ltb-true b (words_for n * 64) e)
    go b false e =
        let past : words_for n * 64 ≤ b = ltb-false b (words_for n * 64) e in
        past_words (free_in n l) (words_for n) b past ∙ sym (ap (λ (t : Bool). t && eqb (cover l b) 0)
        (le-ltb b n (omega arith)))

-- what a view shows of the sheet's places, and of its wing
pub record Places : Type 0 where
  pub blank : ℕ → Bool
  pub sound : ℕ → Bool
  pub term : Term
  pub held : ℕ

pub record Alike (k : ℕ) (x y : Places) : Type 0 where
  pub blank : (p : ℕ) → p < k → x.blank p ≡ y.blank p
  pub sound : (p : ℕ) → p < k → x.sound p ≡ y.sound p
  pub term : 0 < k → y.sound 0 ≡ true → x.term ≡ y.term

-- a view of the ledger with other places, and other blocks in the wing
abbrev pub reads : ℕ → List Sheet → Bool → ℕ → Places → View
reads n l turned i places = record {
  turned = turned;
  misfit = false;
  blocks = n;
  sheets = length l;
  spare = spare_in n l;
  stands = standing_in (sheet_at l i);
  free = free_in n l;
  found = least_within (free_in n l);
  blank = places.blank;
  sound = places.sound;
  term = places.term;
  wing = wing_of i;
  held = places.held;
}

-- an entry with a length is no pause without blocks
some_places : (start length : ℕ) (s t : Standing) → 1 ≤ length → cond (eqb start 0 && eqb length 0) s t ≡ t
some_places start length s t h = go (eqb start 0) (eqb length 0) (ne_eqb length 0 (λ z. omega arith))
  where
    go : (a b : Bool) → b ≡ false → cond (a && b) s t ≡ t
    go true b e = ap (λ (x : Bool). cond x s t) e
    go false b e = refl

stands_as : (n : ℕ) (free : ℕ → Bool) (x : Sheet) → Fine n x
    → ((b : ℕ) → start_in x ≤ b → b < start_in x + length_in x → free b ≡ false)
    → standing_of n free (entry_in x) ≡ standing_in x
unfolding standing_of extent_holds
stands_as n free Absent f h = refl
stands_as n free Paused f h = refl
stands_as n free (PausedWith s xs) f h =
    some_places s (length xs) _ _ f.needed
    ∙ simp (
      le-leb 1 (length xs) f.needed,
      le-leb (s + length xs) n f.inside,
      all_intro (λ b. not (free b)) s (length xs) (λ b p q. ap not (h b p q)),
    )
stands_as n free (Open s ps) f h =
    simp (
      le-leb 1 (length ps) f.needed,
      le-leb (s + length ps) n f.inside,
      all_intro (λ b. not (free b)) s (length ps) (λ b p q. ap not (h b p q)),
    )
stands_as n free (Complete s xs) f h =
    simp (
      le-leb 1 (length xs) f.needed,
      le-leb (s + length xs) n f.inside,
      all_intro (λ b. not (free b)) s (length xs) (λ b p q. ap not (h b p q)),
    )

-- what the rows of an ask say of the ledger, with other places
abbrev pub says_on : ℕ → List Sheet → ℕ → ℕ → Ask → Places → Verdict
says_on n l role i a places = first_of (rows_for (reads n l (turned_in role a) i places) a)

-- they look at no place, or at none but the sheet's own
abbrev pub Plain : ℕ → List Sheet → ℕ → ℕ → Ask → Type 0
Plain n l role i a = (x y : Places) → says_on n l role i a x ≡ says_on n l role i a y

abbrev pub OwnPlaces : ℕ → List Sheet → ℕ → ℕ → Ask → Type 0
OwnPlaces n l role i a =
    (x y : Places) → Alike (length_in (sheet_at l i)) x y → says_on n l role i a x ≡ says_on n l role i a y

-- they look at no place, but at what the wing holds
abbrev pub Sharing : ℕ → List Sheet → ℕ → ℕ → Ask → Type 0
Sharing n l role i a = (x y : Places) → x.held ≡ y.held → says_on n l role i a x ≡ says_on n l role i a y

-- the rows that all begin with look at none
opened : (n : ℕ) (l : List Sheet) (role i : ℕ) (a : Ask) (x y : Places) → says_on n l role i a x ≡ says_on n l role i a y
    → verdict_of (reads n l (turned_in role a) i x) (on i a) ≡ verdict_of (reads n l (turned_in role a) i y) (on i a)
unfolding table_of first_of
opened n l role i a x y h =
    ap (λ (v : Verdict). cond (turned_in role a) (refused 21)
    (cond (leb (length l) i) (refused 2) (cond (is_damaged (standing_in (sheet_at l i))) (refused 4) v))) h

-- the places as the ledger has them
abbrev places_of : List Sheet → ℕ → Places
places_of l i = record {
  blank = λ p. is_blank (place_at l i p);
  sound = λ p. not (is_blank (place_at l i p));
  term = term_of (bytes_of (place_at l i 0));
  held = held_in l i;
}

-- a sheet that the catalogue does not have
beyond : (v : View) (i : ℕ) (a : Ask) → v.turned ≡ false → v.misfit ≡ false → leb v.sheets i ≡ true
    → verdict_of v (on i a) ≡ refused 2
unfolding table_of
beyond v i a t f e = skip 21 _ _ _ t (skip 1 _ _ _ f (stop 2 _ _ e))

blank_block : (i p : ℕ) (x : Place) → Sized x → sealed-block.blank (block_in i p x) ≡ is_blank x
blank_block i p Blank h = blank_zeros 512
blank_block i p (Payload bytes) h = blank_sealed i p bytes h

sound_block : (i p : ℕ) (x : Place) → Sized x → i < 4294967296 → p < 4294967296
    → sealed-block.sound i p (block_in i p x) ≡ not (is_blank x)
sound_block i p Blank h hi hp = sound_zeros i p
sound_block i p (Payload bytes) h hi hp = sound_own i p bytes h hi hp

pub payload_block : (i p : ℕ) (x : Place) → is_blank x ≡ false → Sized x → sealed-block.payload_of (block_in i p x) ≡ bytes_of x
payload_block i p Blank h z = absurd (true≢false h)
payload_block i p (Payload bytes) h z = payload_sealed i p bytes z

module _ (n : ℕ) (l : List Sheet) (card : List ℕ) (k : Matches n l card) where
  map_fits_lem : length (map_in n l) ≡ words_for n
  map_fits_lem = map_length (free_in n l) (words_for n)

  pub shape_fits_lem : shape_fits n (spare_in n l) (length (map_in n l)) ≡ true
  unfolding shape_fits
  shape_fits_lem =
      simp (
        le-leb 1 n k.low,
        le-leb n 262144 k.high,
        le-leb (spare_in n l) n (omega (arith, spare_is n l k.sound)),
        eq-eqb (length (map_in n l)) (words_for n) map_fits_lem,
      )

  pub sheets_fit_lem : sheets_fit (length (map entry_in l)) ≡ true
  unfolding sheets_fit
  sheets_fit_lem = rw (length-map l entry_in) (simp (le-leb 1 (length l) k.some_sheet, le-leb (length l) 1024 k.few_sheets))

  fits_at : not (shape_fits n (spare_in n l) (length (map_in n l)) && sheets_fit (length (map entry_in l))) ≡ false
  fits_at = rw (shape_fits_lem, sheets_fit_lem) refl

  fits_on : not (shape_fits n (spare_in n l) (length (map_in n l)) && sheets_fit (length (map entry_in l))
      && eqb (length card) (512 * n)) ≡ false
  fits_on = rw (shape_fits_lem, sheets_fit_lem, eq-eqb (length card) (512 * n) k.room) refl

  module _ (turned : Bool) (i : ℕ) where
    abbrev e : Entry
    e = entry_at (map entry_in l) i

    -- of a call that goes with limits, and of one that takes no blocks
    abbrev pub holding : ℕ → List ℕ → View
    holding blocks limits = view_on (within blocks limits
        (called_by turned (lent n (spare_in n l) (map_in n l) card (length (map entry_in l)) e i)))

    abbrev pub on-card : View
    on-card = holding 0 []

    abbrev pub at : View
    at = view_at (called_by turned (lent n (spare_in n l) (map_in n l) no_card (length (map entry_in l)) e i))

    who-of : (blocks : ℕ) (limits : List ℕ) → (holding blocks limits).turned ≡ turned
    unfolding view_on
    who-of blocks limits = refl

    who-of-at : at.turned ≡ turned
    unfolding view_at
    who-of-at = refl

    fits-of : (blocks : ℕ) (limits : List ℕ) → (holding blocks limits).misfit ≡ false
    unfolding view_on
    fits-of blocks limits = fits_on

    sheets-of : (blocks : ℕ) (limits : List ℕ) → leb (holding blocks limits).sheets i ≡ leb (length l) i
    unfolding view_on
    sheets-of blocks limits = ap (λ (c : ℕ). leb c i) (length-map l entry_in)

    fits-of-at : at.misfit ≡ false
    unfolding view_at
    fits-of-at = fits_at

    sheets-of-at : leb at.sheets i ≡ leb (length l) i
    unfolding view_at
    sheets-of-at = ap (λ (c : ℕ). leb c i) (length-map l entry_in)

    module _ (lt : i < length l) where
      covered : (b : ℕ) → start_in (sheet_at l i) ≤ b → b < start_in (sheet_at l i) + length_in (sheet_at l i)
          → map-blocks.free (map_in n l) b ≡ false
      covered b p q =
          ap (λ (f : ℕ → Bool). f b) (free_map n l)
          ∙ ap (λ (t : Bool). t && eqb (cover l b) 0) (lt-ltb b n (omega (arith, (k.sound.fine i).inside)))
          ∙ ne_eqb (cover l b) 0 (λ z. omega (arith, cover_at l i b, covers_in (sheet_at l i) b p q))

      pub stands_same : standing_of n (map-blocks.free (map_in n l)) e ≡ standing_in (sheet_at l i)
      stands_same =
          ap (standing_of n (map-blocks.free (map_in n l))) (entry_at_lem l i lt)
          ∙ stands_as n (map-blocks.free (map_in n l)) (sheet_at l i) (k.sound.fine i) covered

      on-reads : (blocks : ℕ) (limits : List ℕ) → holding blocks limits
          ≡ reads n l turned i (record { blank = on-card.blank; sound = on-card.sound; term = on-card.term; held = blocks })
      unfolding view_on
      on-reads blocks limits = λ t. record {
        turned = turned;
        misfit = fits_on t;
        blocks = n;
        sheets = length-map l entry_in t;
        spare = spare_in n l;
        stands = stands_same t;
        free = free_map n l t;
        found = least_within (free_map n l t);
        blank = λ p. sealed-block.blank (block_of card (e.start + p));
        sound = λ p. sealed-block.sound i p (block_of card (e.start + p));
        term = term_of (sealed-block.payload_of (block_of card e.start));
        wing = wing_of i;
        held = blocks;
      }

      at_reads : at ≡ reads n l turned i
          (record { blank = λ p. false; sound = λ p. false; term = record { first = 0; last = 0 }; held = 0 })
      unfolding view_at
      at_reads = λ t. record {
        turned = turned;
        misfit = fits_at t;
        blocks = n;
        sheets = length-map l entry_in t;
        spare = spare_in n l;
        stands = stands_same t;
        free = free_map n l t;
        found = least_within (free_map n l t);
        blank = λ p. false;
        sound = λ p. false;
        term = record { first = 0; last = 0 };
        wing = wing_of i;
        held = 0;
      }

      here : (p : ℕ) → p < length_in (sheet_at l i) → block_of card (e.start + p) ≡ block_in i p (place_at l i p)
      here p h = ap (λ (x : Entry). block_of card (x.start + p)) (entry_at_lem l i lt) ∙ k.blocks i p h

      pub blank-same : (p : ℕ) → p < length_in (sheet_at l i) → on-card.blank p ≡ is_blank (place_at l i p)
      unfolding view_on
      blank-same p h = ap sealed-block.blank (here p h) ∙ blank_block i p (place_at l i p) ((k.sound.fine i).sized p)

      pub sound_same : (p : ℕ) → p < length_in (sheet_at l i) → on-card.sound p ≡ not (is_blank (place_at l i p))
      unfolding view_on
      sound_same p h =
          ap (sealed-block.sound i p) (here p h)
          ∙ sound_block i p (place_at l i p) ((k.sound.fine i).sized p) (omega (arith, k.few_sheets))
          (omega (arith, k.high, (k.sound.fine i).inside))

      -- the term is read once place 0 has been found sound
      pub term-same : 0 < length_in (sheet_at l i) → not (is_blank (place_at l i 0)) ≡ true
          → on-card.term ≡ term_of (bytes_of (place_at l i 0))
      unfolding view_on
      term-same some sealed =
          ap term_of (ap (λ (b : ℕ). sealed-block.payload_of (block_of card b)) (sym (add-zero e.start))
          ∙ ap sealed-block.payload_of (here 0 some)
          ∙ payload_block i 0 (place_at l i 0) (not-true _ sealed) ((k.sound.fine i).sized 0))

  inside_card : (i : ℕ) → length_in (sheet_at l i) ≤ n
  inside_card i = omega (arith, (k.sound.fine i).inside)

  -- ---- the verdicts

  -- no row 1 or 4 holds in the ledger behind those that all begin with
  abbrev pub NeverRows : ℕ → ℕ → Ask → Type 0
  NeverRows role i a =
      Never (row 2 (leb (length l) i) ∷ row 21 (turned_in role a) ∷ []) (rows_for (view_by n l (turned_in role a) i) a)

  module _ (role i : ℕ) (a : Ask) where
    abbrev turns : Bool
    turns = turned_in role a

    by-sheet : (v : View) → v.turned ≡ turns → v.misfit ≡ false → leb v.sheets i ≡ leb (length l) i
        → (i < length l → verdict_of v (on i a) ≡ verdict_of (view_by n l turns i) (on i a)) → NeverRows role i a
        → verdict_of v (on i a) ≡ verdict_in n l (book.on role i a)
    by-sheet v who fits sheets same never =
        go turns refl (leb (length l) i) refl ∙ listed_same n l k.sound role i a never
      where
        go : (b : Bool) → turns ≡ b → (t : Bool) → leb (length l) i ≡ t
            → verdict_of v (on i a) ≡ verdict_of (view_by n l turns i) (on i a)
        go true e t out = turned_first v (on i a) (who ∙ e) ∙ sym (turned_first (view_by n l turns i) (on i a) e)
        go false e true out = beyond v i a (who ∙ e) fits (sheets ∙ out) ∙ sym (beyond (view_by n l turns i) i a e refl out)
        go false e false inside = same (leb-false (length l) i inside)

    -- a call that is lent the card
    pub verdict-on : OwnPlaces n l role i a → NeverRows role i a
        → verdict_of (on-card turns i) (on i a) ≡ verdict_in n l (book.on role i a)
    verdict-on own never =
        by-sheet (on-card turns i) (who-of turns i 0 []) (fits-of turns i 0 []) (sheets-of turns i 0 [])
        (λ lt. ap (λ (v : View). verdict_of v (on i a)) (on-reads turns i lt 0 [])
        ∙ opened n l role i a _ (places_of l i) (own _ (places_of l i)
        (record { blank = blank-same turns i lt; sound = sound_same turns i lt; term = term-same turns i lt }))) never

    -- one that goes with limits: what the wing holds is the ledger's
    pub verdict-within : (limits : List ℕ) → Sharing n l role i a → NeverRows role i a
        → verdict_of (holding turns i (held_by (map entry_in l) i) limits) (on i a) ≡ verdict_in n l (book.on role i a)
    verdict-within limits sharing never =
        let blocks : ℕ = held_by (map entry_in l) i in
        by-sheet (holding turns i blocks limits) (who-of turns i blocks limits) (fits-of turns i blocks limits)
        (sheets-of turns i blocks limits)
        (λ lt. ap (λ (v : View). verdict_of v (on i a)) (on-reads turns i lt blocks limits)
        ∙ opened n l role i a _ (places_of l i) (sharing _ (places_of l i) (wing_same n l k.high (λ j. inside_card j) i)))
        never

    -- a call that is not
    pub verdict-at : Plain n l role i a → NeverRows role i a → verdict_of (at turns i) (on i a)
        ≡ verdict_in n l (book.on role i a)
    verdict-at plain never =
        by-sheet (at turns i) (who-of-at turns i) (fits-of-at turns i) (sheets-of-at turns i)
        (λ lt. ap (λ (v : View). verdict_of v (on i a)) (at_reads turns i lt)
        ∙ opened n l role i a _ (places_of l i) (plain _ (places_of l i))) never
