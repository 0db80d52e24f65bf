-- The ledger with its gaps closed (document 02 (l)), and the state that it calls for: the closed entries, map and card, with
-- what holds after every list.
-- Assumes nothing.
use Prim.Native.Nat.{ℕ, zero, suc, ◌+◌, ◌≤◌, ◌<◌}
use mathlib.Core.Path.{◌≡◌, refl, sym, ap, ap₂, subst, ◌∙◌}
use mathlib.Core.Logic.{⊎_elim}
use mathlib.Core.Bool.{Bool, true, false, cond, ◌&&◌}
use mathlib.Core.List.{List, [], ◌∷◌, map}
use native.Mathlib.Omega.{arith}
use lib.Dec.{eqb, leb, ltb}
use lib.ListN.{length, get_or, length-map}
use borrow.Author.Tests.{lt-ltb, le-ltb, le-leb, lt-leb}
use Rattle.laws.proofs.Bools.{order}
use Rattle.map_blocks.specs.Maps.{words_for}
use Rattle.map_blocks.proofs.Maps.{map_length}
use Rattle.blocks_of_card.specs.Card.{block_of}
use Rattle.catalogue.specs.declared.Entry.{Entry}
use Rattle.image_soundness.specs.Sound as saved
use Rattle.image_soundness.proofs.Covers.{one}
use Rattle.image_soundness.proofs.WhenSound.{sound_to}
use Rattle.image_soundness.proofs.WhenSound as when
use Rattle.catalogue.specs.Entries as catalogue
use Rattle.closing.specs.Closed.{below, closed_entry, closed_entries, closed_card, closed_map, first_taken}
use Rattle.closing.proofs.Below.{below_zero}
use Rattle.closing.proofs.Contents.{closed_block, closed_card_length}
use Rattle.closing.proofs.Kept.{closed_covers, closed_inside, held_fits}
use Rattle.closing.proofs.Members.{Member, at_member}
use Rattle.closing.proofs.Placing.{placed}
use Rattle.ledger.specs.Ledger.{Place, Blank, Sheet, Absent, Paused, PausedWith, Open, Complete, start_in, length_in}
use Rattle.ledger.specs.Ledger.{places_in, sheet_at, place_at, cover, free_in, spare_in, below_in, restart_in, closed_in}
use Rattle.ledger.specs.Claim.{entry_in, block_in}
use Rattle.ledger.specs.Lists.{saved_of}
use Rattle.ledger.proofs.Agreement.{map_in, state_of, Matches}
use Rattle.ledger.proofs.Wings.{entry_at_lem}
use Rattle.ledger.specs.Ledger.{held}
use Rattle.ledger.proofs.Listed.{spare_is}
use Rattle.ledger.proofs.Marks.{map_same}
use Rattle.ledger.proofs.Sheets.{needs, Fine, Sound, holding, Has}
use Rattle.ledger.proofs.Soundness.{same_cover, kept_sound}

-- ---- a sheet that gets a start

start_of : (s : ℕ) (x : Sheet) → 1 ≤ length_in x → start_in (restart_in s x) ≡ s
start_of s Absent h = absurd (omega arith)
start_of s Paused h = absurd (omega arith)
start_of s (PausedWith t xs) h = refl
start_of s (Open t ps) h = refl
start_of s (Complete t xs) h = refl

pub same_length : (s : ℕ) (x : Sheet) → length_in (restart_in s x) ≡ length_in x
same_length s Absent = refl
same_length s Paused = refl
same_length s (PausedWith t xs) = refl
same_length s (Open t ps) = refl
same_length s (Complete t xs) = refl

same_places : (s : ℕ) (x : Sheet) → places_in (restart_in s x) ≡ places_in x
same_places s Absent = refl
same_places s Paused = refl
same_places s (PausedWith t xs) = refl
same_places s (Open t ps) = refl
same_places s (Complete t xs) = refl

same_needs : (s : ℕ) (x : Sheet) → needs (restart_in s x) ≡ needs x
same_needs s Absent = refl
same_needs s Paused = refl
same_needs s (PausedWith t xs) = refl
same_needs s (Open t ps) = refl
same_needs s (Complete t xs) = refl

same_holding : (s : ℕ) (x : Sheet) → holding (restart_in s x) ≡ holding x
same_holding s Absent = refl
same_holding s Paused = refl
same_holding s (PausedWith t xs) = refl
same_holding s (Open t ps) = refl
same_holding s (Complete t xs) = refl

-- a sheet without places starts nowhere
no_start : (s : ℕ) (x : Sheet) → holding x ≡ false → start_in (restart_in s x) ≡ 0
no_start s Absent h = refl
no_start s Paused h = refl
no_start s (PausedWith t xs) h = absurd (clash-here h)
  where
    clash-here : true ≡ false → ⊥
    clash-here e = let z : ◌≡◌ {A = ℕ} 1 0 = ap (λ (b : Bool). cond b 1 0) e in omega arith
no_start s (Open t ps) h = absurd (clash-here h)
  where
    clash-here : true ≡ false → ⊥
    clash-here e = let z : ◌≡◌ {A = ℕ} 1 0 = ap (λ (b : Bool). cond b 1 0) e in omega arith
no_start s (Complete t xs) h = absurd (clash-here h)
  where
    clash-here : true ≡ false → ⊥
    clash-here e = let z : ◌≡◌ {A = ℕ} 1 0 = ap (λ (b : Bool). cond b 1 0) e in omega arith

-- ---- the ledger and its entries

same_below : (l : List Sheet) (s : ℕ) → below (map entry_in l) s ≡ below_in l s
unfolding below below_in
same_below [] s = refl
same_below (x ∷ l) s = ap (λ (k : ℕ). cond (ltb (start_in x) s) (length_in x) 0 + k) (same_below l s)

-- the entry of a sheet that gets its new start is the closed one
module _ (l : List Sheet) where
  abbrev es : List Entry
  es = map entry_in l

  abbrev moved : Sheet → Sheet
  moved x = restart_in (below_in l (start_in x)) x

  entry_closed : (x : Sheet) → closed_entry es (entry_in x) ≡ entry_in (moved x)
  entry_closed Absent = ap (λ (s : ℕ). record { mark = (entry_in Absent).mark; start = s; length = 0 }) (below_zero es)
  entry_closed Paused = ap (λ (s : ℕ). record { mark = (entry_in Paused).mark; start = s; length = 0 }) (below_zero es)
  entry_closed (PausedWith t xs) =
      ap (λ (s : ℕ). record { mark = (entry_in (PausedWith t xs)).mark; start = s; length = length xs }) (same_below l t)
  entry_closed (Open t ps) =
      ap (λ (s : ℕ). record { mark = (entry_in (Open t ps)).mark; start = s; length = length ps }) (same_below l t)
  entry_closed (Complete t xs) =
      ap (λ (s : ℕ). record { mark = (entry_in (Complete t xs)).mark; start = s; length = length xs }) (same_below l t)

  entries_part : (r : List Sheet) → map (closed_entry es) (map entry_in r) ≡ map entry_in (map moved r)
  entries_part [] = refl
  entries_part (x ∷ r) = ap₂ ◌∷◌ (entry_closed x) (entries_part r)

  pub entries_closed : closed_entries es ≡ map entry_in (closed_in l)
  unfolding closed_entries closed_in
  entries_closed = entries_part l

  sheet_part : (r : List Sheet) (i : ℕ) → sheet_at (map moved r) i ≡ moved (sheet_at r i)
  sheet_part [] i = refl
  sheet_part (x ∷ r) zero = refl
  sheet_part (x ∷ r) (suc i) = sheet_part r i

  pub closed_at : (i : ℕ) → sheet_at (closed_in l) i ≡ moved (sheet_at l i)
  unfolding closed_in
  closed_at i = sheet_part l i

  closed_length : length (closed_in l) ≡ length l
  unfolding closed_in
  closed_length = length-map l moved

  held_part : (r : List Sheet) → held (map moved r) ≡ held r
  held_part [] = refl
  held_part (x ∷ r) = ap₂ ◌+◌ (same_length (below_in l (start_in x)) x) (held_part r)

  pub held_closed : held (closed_in l) ≡ held l
  unfolding closed_in
  held_closed = held_part l

  -- what a place holds stays
  pub has_closed : (j p : ℕ) (m : Place) → Has p m (sheet_at l j) → Has p m (sheet_at (closed_in l) j)
  has_closed j p m was = subst (Has p m) (sym (closed_at j)) (λ h.
      ap (λ (ps : List Place). get_or ps p Blank) (same_places (below_in l (start_in (sheet_at l j))) (sheet_at l j))
      ∙ was (sym (same_holding (below_in l (start_in (sheet_at l j))) (sheet_at l j)) ∙ h))

-- ---- the state

one_or_more : (b h : ℕ) → eqb (one (ltb b h)) 0 ≡ leb h b
one_or_more b h =
    ⊎_elim
    (λ (l : b < h). ap (λ (t : Bool). eqb (one t) 0) (lt-ltb b h l) ∙ sym (lt-leb h b l))
    (λ (l : h ≤ b). ap (λ (t : Bool). eqb (one t) 0) (le-ltb b h l) ∙ sym (le-leb h b l))
    (order b h)

swapped : (a b : Bool) → (a && b) ≡ (b && a)
swapped true true = refl
swapped true false = refl
swapped false true = refl
swapped false false = refl

module _ (n : ℕ) (l : List Sheet) (card : List ℕ) (k : Matches n l card) where
  abbrev all : List Entry
  all = map entry_in l

  sound_before_lem : when.Sound (saved_of (state_of n l card))
  sound_before_lem = sound_to (saved_of (state_of n l card)) (kept_sound n l card k)

  cover_closed : (b : ℕ) → cover (closed_in l) b ≡ one (ltb b (catalogue.held all))
  cover_closed b =
      sym (same_cover (closed_in l) b) ∙ ap (λ (e : List Entry). saved.coverings e b) (sym (entries_closed l))
      ∙ closed_covers (saved_of (state_of n l card)) sound_before_lem b

  free_closed : (b : ℕ) → free_in n (closed_in l) b ≡ (leb (catalogue.held all) b && ltb b n)
  free_closed b =
      ap (λ (c : ℕ). ltb b n && eqb c 0) (cover_closed b) ∙ ap (λ (t : Bool). ltb b n && t) (one_or_more b (catalogue.held all))
      ∙ swapped (ltb b n) (leb (catalogue.held all) b)

  pub map_closed : closed_map all n (map_in n l) ≡ map_in n (closed_in l)
  unfolding closed_map
  map_closed =
      ap (first_taken (catalogue.held all) n) (map_length (free_in n l) (words_for n))
      ∙ map_same (λ b. leb (catalogue.held all) b && ltb b n) (free_in n (closed_in l)) (words_for n)
      (λ b h. sym (free_closed b))

  pub few_held : catalogue.held all ≤ n
  few_held = held_fits (saved_of (state_of n l card)) sound_before_lem

  -- a sheet of the ledger, where it goes
  here : (i : ℕ) → i < length l → Member (entry_in (sheet_at l i)) all
  here i h = subst (λ (e : Entry). Member e all) (entry_at_lem l i h)
      (at_member all i (omega (arith, length-map l entry_in, h)))

  inside_then : (i : ℕ) → i < length l → 1 ≤ length_in (sheet_at l i)
      → start_in (moved l (sheet_at l i)) + length_in (sheet_at l i) ≤ n
  inside_then i h some =
      let s : start_in (moved l (sheet_at l i)) ≡ below_in l (start_in (sheet_at l i)) =
      start_of (below_in l (start_in (sheet_at l i))) (sheet_at l i) some in
      omega (
        arith,
        closed_inside all (entry_in (sheet_at l i)) (here i h),
        same_below l (start_in (sheet_at l i)),
        few_held,
      )

  -- a sheet with places is one of the ledger's, and one without starts at 0
  listed_here : (r : List Sheet) (i : ℕ) → 1 ≤ length_in (sheet_at r i) → i < length r
  listed_here [] i h = absurd (omega arith)
  listed_here (x ∷ r) zero h = omega arith
  listed_here (x ∷ r) (suc i) h = let later = listed_here r i h in omega arith

  empty_inside : (s : ℕ) (x : Sheet) → Fine n x → length_in x ≡ 0 → start_in (restart_in s x) + length_in x ≤ n
  empty_inside s Absent f z = omega arith
  empty_inside s Paused f z = omega arith
  empty_inside s (PausedWith t xs) f z = absurd (omega (arith, f.needed, z))
  empty_inside s (Open t ps) f z = absurd (omega (arith, f.needed, z))
  empty_inside s (Complete t xs) f z = absurd (omega (arith, f.needed, z))

  fine_then : (i : ℕ) → Fine n (moved l (sheet_at l i))
  fine_then i =
      let x : Sheet = sheet_at l i in
      let s : ℕ = below_in l (start_in x) in
      let f : Fine n (sheet_at l i) = k.sound.fine i in
      let len : length_in (moved l (sheet_at l i)) ≡ length_in (sheet_at l i) = same_length
      (below_in l (start_in (sheet_at l i)))
      (sheet_at l i) in
      let inside : start_in (moved l (sheet_at l i)) + length_in (sheet_at l i) ≤ n =
      ⊎_elim
      (λ (z : length_in (sheet_at l i) < 1). empty_inside s (sheet_at l i) f (omega arith))
      (λ (z : 1 ≤ length_in (sheet_at l i)). inside_then i (listed_here l i z) z)
      (order (length_in (sheet_at l i)) 1) in
      record {
        inside = omega arith;
        needed = omega (arith, same_needs (below_in l (start_in (sheet_at l i))) (sheet_at l i), f.needed);
        sized = λ p. rw (same_places (below_in l (start_in (sheet_at l i))) (sheet_at l i)) (f.sized p);
      }

  at_most_one : (t : Bool) → one t ≤ 1
  at_most_one true = omega arith
  at_most_one false = omega arith

  sound_then : Sound n (closed_in l)
  sound_then = record {
    once = λ b. omega (arith, cover_closed b, at_most_one (ltb b (catalogue.held all)));
    fine = λ i. rw (closed_at l i) (fine_then i);
  }

  pub spare_closed : spare_in n (closed_in l) ≡ spare_in n l
  spare_closed = omega (arith, spare_is n l k.sound, spare_is n (closed_in l) sound_then, held_closed l)

  block_then : (i p : ℕ) → p < length_in (sheet_at l i)
      → block_of (closed_card all card) (start_in (moved l (sheet_at l i)) + p) ≡ block_in i p (place_at l i p)
  block_then i p h =
      let x : Sheet = sheet_at l i in
      let lt : i < length l = listed_here l i (omega arith) in
      let s : start_in (moved l (sheet_at l i)) ≡ below all (start_in (sheet_at l i)) =
      start_of (below_in l (start_in (sheet_at l i))) (sheet_at l i) (omega arith)
      ∙ sym (same_below l (start_in (sheet_at l i))) in
      ap (λ (b : ℕ). block_of (closed_card all card) (b + p)) s
      ∙ closed_block all card (placed (saved_of (state_of n l card)) sound_before_lem).apart (entry_in (sheet_at l i))
      (here i lt) p h
      (omega (arith, k.room, (k.sound.fine i).inside)) (omega (arith, k.room, few_held))
      ∙ k.blocks i p h

  pub kept_closed : Matches n (closed_in l) (closed_card all card)
  kept_closed = record {
    low = k.low;
    high = k.high;
    some_sheet = omega (arith, closed_length l, k.some_sheet);
    few_sheets = omega (arith, closed_length l, k.few_sheets);
    sound = sound_then;
    room = closed_card_length all card ∙ k.room;
    blocks = λ i p h. at-sheet i p (subst (λ (x : Sheet). p < length_in x) (closed_at l i) h);
  }
    where
      at-sheet : (i p : ℕ) → p < length_in (moved l (sheet_at l i))
          → block_of (closed_card all card) (start_in (sheet_at (closed_in l) i) + p)
          ≡ block_in i p (place_at (closed_in l) i p)
      at-sheet i p h =
          let len : length_in (moved l (sheet_at l i)) ≡ length_in (sheet_at l i) =
          same_length (below_in l (start_in (sheet_at l i))) (sheet_at l i) in
          ap (λ (x : Sheet). block_of (closed_card all card) (start_in x + p)) (closed_at l i)
          ∙ block_then i p (omega arith)
          ∙ ap (block_in i p) (sym (ap (λ (x : Sheet). get_or (places_in x) p Blank) (closed_at l i)
          ∙ ap (λ (ps : List Place). get_or ps p Blank) (same_places (below_in l (start_in (sheet_at l i))) (sheet_at l i))))
