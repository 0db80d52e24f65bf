-- An accepted call's change of one sheet: what the state that the ledger calls for is afterwards, and that what holds after
-- every list still holds.
-- Assumes nothing.
use Prim.Native.Nat.{ℕ, zero, suc, ◌+◌, ◌-◌, ◌*◌, ◌≤◌, ◌<◌}
use mathlib.Core.Path.{◌≡◌, refl, sym, ap, subst, ◌∙◌}
use mathlib.Core.Logic.{◌≢◌, ◌⊎◌, inl, inr}
use mathlib.Core.Bool.{Bool, true, false}
use mathlib.Core.List.{List, [], ◌∷◌, ◌++◌, map}
use native.Mathlib.Nat.{not-suc-le-zero}
use native.Mathlib.Omega.{arith}
use lib.Dec.{eqb}
use lib.ListN.{length, get_or, set, replicate, length-set, length-map, length-append, length-replicate, get_or-append}
use lib.ListN.{get_or-replicate}
use lib.Seq.{get_or-set_same, get_or-set_other, get_or-append-add}
use borrow.Author.Tests.{eqb-true, eqb-false}
use Rattle.map_blocks.specs.Blocks.{fit}
use Rattle.map_blocks.specs.Maps.{in_run, marked}
use Rattle.laws.proofs.Bools.{clash, order}
use Rattle.blocks_of_card.specs.Card.{block_of, with_block, zeroed}
use Rattle.block_seals.specs.Sealed.{sealed}
use Rattle.blocks_of_card.proofs.Card.{same_block, other_block, length_with_block, length_zeroed, zeroed_inside, zeroed_before}
use Rattle.blocks_of_card.proofs.Card.{zeroed_after}
use Rattle.block_seals.proofs.Sealed.{sealed_length}
use Rattle.catalogue.specs.declared.Entry.{Entry}
use Rattle.refusals.proofs.Room.{fit_inside}
use Rattle.ledger.specs.Ledger.{Place, Blank, Payload, Sheet, Absent, Open, Complete, start_in, length_in, places_in}
use Rattle.ledger.specs.Ledger.{bytes_of, sheet_at, place_at, covers, cover, free_in, spare_in}
use Rattle.ledger.specs.Claim.{entry_in, block_in}
use Rattle.ledger.proofs.Agreement.{map_in, Matches}
use Rattle.ledger.proofs.Cover.{in_run_lem, run_in, covers_in, covers_out, covers_absent, cover_set, cover_at, cover_two}
use Rattle.ledger.proofs.Cover.{held_set}
use Rattle.ledger.proofs.Listed.{spare_is}
use Rattle.ledger.proofs.Marks.{map_kept, map_taken, map_given}
use Rattle.ledger.proofs.Sheets.{Fine, Sound, set_cases, fit_free, sound_none, reserved, grown, completed, putting}

pub entries_set : (l : List Sheet) (i : ℕ) (x : Sheet) → set (map entry_in l) i (entry_in x) ≡ map entry_in (set l i x)
entries_set [] i x = refl
entries_set (y ∷ l) zero x = refl
entries_set (y ∷ l) (suc i) x = ap (λ (r : List Entry). entry_in y ∷ r) (entries_set l i x)

-- the blocks of a sheet, on a card
abbrev Filled : List ℕ → ℕ → Sheet → Type 0
Filled card j x = (p : ℕ) → p < length_in x → block_of card (start_in x + p) ≡ block_in j p (get_or (places_in x) p Blank)

-- what an accepted change of sheet i to x leaves: the free count, the map and what holds
pub record Changed (n : ℕ) (l : List Sheet) (i : ℕ) (x : Sheet) (spare : ℕ) (marks : List ℕ) (card : List ℕ) : Type 0 where
  pub spare_left : spare ≡ spare_in n (set l i x)
  pub map_left_lem : marks ≡ map_in n (set l i x)
  pub kept_left : Matches n (set l i x) card

module _ (n : ℕ) (l : List Sheet) (card : List ℕ) (k : Matches n l card) (i : ℕ) (lt : i < length l) where
  keep : (x : Sheet) (card' : List ℕ) → Sound n (set l i x) → length card' ≡ 512 * n → Filled card' i x
      → ((j : ℕ) → j ≢ i → Filled card' j (sheet_at l j))
      → Matches n (set l i x) card'
  keep x card' ok room new old =
      let len : length (set l i x) ≡ length l = length-set l i x in
      record {
        low = k.low;
        high = k.high;
        some_sheet = omega (arith, k.some_sheet);
        few_sheets = omega (arith, k.few_sheets);
        sound = ok;
        room = room;
        blocks = set_cases (Filled card') l i x lt new old;
      }

  -- free blocks and the sheet's come to what they were
  spare_set : (x : Sheet) → Sound n (set l i x) → spare_in n (set l i x) + length_in x ≡ spare_in n l + length_in (sheet_at l i)
  spare_set x ok = omega (arith, spare_is n l k.sound, spare_is n (set l i x) ok, held_set l i x lt)

  cover_rest : (x : Sheet) (b : ℕ) → covers x b ≡ covers (sheet_at l i) b → cover (set l i x) b ≡ cover l b
  cover_rest x b e = omega (arith, cover_set l i x b lt, e)

  -- no sheet has a block in a run that is free
  others : (s m : ℕ) → s + m ≤ n → ((b : ℕ) → s ≤ b → b < s + m → cover l b ≡ 0) → (j : ℕ)
      → Filled (zeroed card s m) j (sheet_at l j)
  others s m inside unheld j p lp = go (order b s)
    where
      b : ℕ
      b = start_in (sheet_at l j) + p

      fits : 512 * (s + m) ≤ length card
      fits = omega (arith, k.room)

      here : covers (sheet_at l j) b ≡ 1
      here = covers_in (sheet_at l j) b (omega arith) (omega arith)

      after : s + m ≤ b → block_of (zeroed card s m) b ≡ block_in j p (place_at l j p)
      after q = zeroed_after card s m b fits q ∙ k.blocks j p lp

      go : (b < s) ⊎ (s ≤ b) → block_of (zeroed card s m) b ≡ block_in j p (place_at l j p)
      go (inl q) = zeroed_before card s m b fits q ∙ k.blocks j p lp
      go (inr q) = past (order b (s + m))
        where
          past : (b < s + m) ⊎ (s + m ≤ b) → block_of (zeroed card s m) b ≡ block_in j p (place_at l j p)
          past (inl r) = absurd (omega (arith, unheld b q r, cover_at l j b, here))
          past (inr r) = after r

  -- sheet i had nothing, and takes a fit
  pub keep_reserve : (m s : ℕ) → sheet_at l i ≡ Absent → 0 < m → fit (free_in n l) 0 n 1 m s ≡ true
      → Changed n l i (Open s (replicate m Blank)) (spare_in n l - m) (marked (map_in n l) s m false) (zeroed card s m)
  keep_reserve m s gone pos f =
      let x : Sheet = Open s (replicate m Blank) in
      let w : length (replicate m Blank) ≡ m = length-replicate m Blank in
      let inside : s + m ≤ n = fit_inside (free_in n l) n m s f in
      let fits : 512 * (s + m) ≤ length card = omega (arith, k.room) in
      let ok : Sound n (set l i x) = reserved n l k.sound i lt m s pos f in
      let bare : (b : ℕ) → covers (sheet_at l i) b ≡ 0 = λ b. ap (λ (y : Sheet). covers y b) gone ∙ covers_absent b in
      let z : length_in (sheet_at l i) ≡ 0 = ap length_in gone in
      record {
        spare_left = omega (arith, spare_set x ok);
        map_left_lem =
            map_taken n l (set l i x) s m inside
            (λ b e q. let r = in_run_lem s m b e in omega (
              arith,
              cover_set l i x b lt,
              bare b,
              covers_in x b r.0 (omega (arith, r.1)),
            ))
            (λ b e. cover_rest x b (covers_out x b (λ r. clash (in_run s m b) (run_in s m b r.0 (omega (arith, r.1))) e)
            ∙ sym (bare b)));
        kept_left =
            keep x (zeroed card s m) ok (length_zeroed card s m fits ∙ k.room)
            (λ p lp. zeroed_inside card s m (s + p) fits (omega arith) (omega arith)
            ∙ sym (ap (block_in i p) (get_or-replicate m p Blank Blank (omega arith))))
            (λ j ne. others s m inside (fit_free n l m s f) j);
      }

  -- sheet i becomes one that has the same places, the card as it was
  pub keep_places : (x : Sheet) → Sound n (set l i x) → start_in x ≡ start_in (sheet_at l i) → length_in x
      ≡ length_in (sheet_at l i)
      → places_in x ≡ places_in (sheet_at l i)
      → Changed n l i x (spare_in n l) (map_in n l) card
  keep_places x ok es el ep =
      record {
        spare_left = omega (arith, spare_set x ok);
        map_left_lem = map_kept n l (set l i x) (λ b. cover_rest x b (rw (es, el)));
        kept_left = keep x card ok k.room (rw (es, el, ep) (k.blocks i)) (λ j ne. k.blocks j);
      }

  -- sheet i gives its blocks back
  pub keep_release : Changed n l i Absent (spare_in n l + length_in (sheet_at l i))
      (marked (map_in n l) (start_in (sheet_at l i)) (length_in (sheet_at l i)) true) card
  keep_release =
      let x : Sheet = sheet_at l i in
      let inside : start_in x + length_in x ≤ n = (k.sound.fine i).inside in
      let ok : Sound n (set l i Absent) = sound_none n l k.sound i lt Absent
      (record { inside = omega arith; needed = omega arith; sized = λ p. tt }) refl in
      record {
        spare_left = omega (arith, spare_set Absent ok);
        map_left_lem =
            map_given n l (set l i Absent) (start_in x) (length_in x) inside
            (λ b e. let r = in_run_lem (start_in x) (length_in x) b e in (
              omega (arith, r.1),
              omega (arith, cover_set l i Absent b lt, covers_absent b, covers_in x b r.0 r.1, k.sound.once b),
            ))
            (λ b e. cover_rest Absent b (covers_absent b
            ∙ sym (covers_out x b (λ r. clash (in_run (start_in x) (length_in x) b)
            (run_in (start_in x) (length_in x) b r.0 r.1) e))));
        kept_left = keep Absent card ok k.room (λ p lp. absurd (not-suc-le-zero lp)) (λ j ne. k.blocks j);
      }

  module _ (s : ℕ) (ps : List Place) (was : sheet_at l i ≡ Open s ps) where
    had : (p : ℕ) → p < length ps → block_of card (s + p) ≡ block_in i p (get_or ps p Blank)
    had p = subst (λ (y : Sheet). p < length_in y → block_of card (start_in y + p)
        ≡ block_in i p (get_or (places_in y) p Blank)) was
        (k.blocks i p)

    held-before : length_in (sheet_at l i) ≡ length ps
    held-before = ap length_in was

    -- sheet i takes the blocks after its extent
    pub keep-grow : (m : ℕ) → 0 < m → fit (free_in n l) 0 n 1 m (s + length ps) ≡ true
        → Changed n l i (Open s (ps ++ replicate m Blank)) (spare_in n l - m) (marked (map_in n l) (s + length ps) m false)
        (zeroed card (s + length ps) m)
    keep-grow m pos f =
        record {
          spare_left = omega (arith, spare_set x ok, held-before, wide);
          map_left_lem =
              map_taken n l (set l i x) at m inside
              (λ b e q. let r = in_run_lem at m b e in
              let out : covers (Open s ps) b ≡ 0 = covers_out (Open s ps) b (λ h. omega (arith, h.1, r.0)) in
              omega (arith, cover_set l i x b lt, old b, covers_in x b (omega (arith, r.0)) (omega (arith, r.1, wide))))
              (λ b e. cover_rest x b (outside b e ∙ sym (old b)));
          kept_left =
              keep x (zeroed card at m) ok (length_zeroed card at m fits ∙ k.room)
              (λ p lp. new p (order p (length ps)) (omega (arith, wide)))
              (λ j ne. others at m inside (fit_free n l m at f) j);
        }
      where
        at : ℕ
        at = s + length ps

        x : Sheet
        x = Open s (ps ++ replicate m Blank)

        wide : length (ps ++ replicate m Blank) ≡ length ps + m
        wide = length-append ps (replicate m Blank) ∙ ap (λ (k : ℕ). length ps + k) (length-replicate m Blank)

        inside : at + m ≤ n
        inside = fit_inside (free_in n l) n m at f

        fits : 512 * (at + m) ≤ length card
        fits = omega (arith, k.room, inside)

        ok : Sound n (set l i x)
        ok = grown n l k.sound i lt s ps was m pos f

        old : (b : ℕ) → covers (sheet_at l i) b ≡ covers (Open s ps) b
        old b = ap (λ (y : Sheet). covers y b) was

        outside : (b : ℕ) → in_run at m b ≡ false → covers x b ≡ covers (Open s ps) b
        outside b e = go (in_run s (length ps) b) refl
          where
            two : (s ≤ b) × (b < s + length (ps ++ replicate m Blank)) → (b < at) ⊎ (at ≤ b) → in_run s (length ps) b ≡ false
                → ⊥
            two r (inl h) q = clash (in_run s (length ps) b) (run_in s (length ps) b r.0 h) q
            two r (inr h) q = clash (in_run at m b) (run_in at m b h (omega (arith, r.1, wide))) e

            go : (t : Bool) → in_run s (length ps) b ≡ t → covers x b ≡ covers (Open s ps) b
            go true q = let r = in_run_lem s (length ps) b q in
                covers_in x b r.0 (omega (arith, r.1, wide)) ∙ sym (covers_in (Open s ps) b r.0 r.1)
            go false q =
                covers_out x b (λ r. two r (order b at) q)
                ∙ sym (covers_out (Open s ps) b (λ r. clash (in_run s (length ps) b) (run_in s (length ps) b r.0 r.1) q))

        new : (p : ℕ) → (p < length ps) ⊎ (length ps ≤ p) → p < length ps + m
            → block_of (zeroed card at m) (s + p) ≡ block_in i p (get_or (ps ++ replicate m Blank) p Blank)
        new p (inl lp) h =
            zeroed_before card at m (s + p) fits (omega arith) ∙ had p lp
            ∙ ap (block_in i p) (sym (get_or-append ps (replicate m Blank) Blank p lp))
        new p (inr ge) h =
            let q : length ps + (p - length ps) ≡ p = omega arith in
            let g : get_or (ps ++ replicate m Blank) p Blank ≡ Blank =
            ap (λ (j : ℕ). get_or (ps ++ replicate m Blank) j Blank) (sym q)
            ∙ get_or-append-add ps (replicate m Blank) (p - length ps) Blank
            ∙ get_or-replicate m (p - length ps) Blank Blank (omega arith) in
            zeroed_inside card at m (s + p) fits (omega arith) (omega arith) ∙ sym (ap (block_in i p) g)

    -- every place was filled
    pub keep-complete : map Payload (map bytes_of ps) ≡ ps
        → Changed n l i (Complete s (map bytes_of ps)) (spare_in n l) (map_in n l) card
    keep-complete full =
        keep_places (Complete s (map bytes_of ps)) (completed n l k.sound i lt s ps was full) (sym (ap start_in was))
        (length-map ps bytes_of ∙ sym held-before) (full ∙ sym (ap places_in was))

    -- a place is filled
    pub keep-put : (p : ℕ) (payload : List ℕ) → p < length ps → length payload ≡ 496
        → Changed n l i (Open s (set ps p (Payload payload))) (spare_in n l) (map_in n l)
        (with_block card (s + p) (sealed i p payload))
    keep-put p payload lp len =
        record {
          spare_left = omega (arith, spare_set x ok, held-before, w);
          map_left_lem = map_kept n l (set l i x) (λ b. cover_rest x b (rw (was, w)));
          kept_left =
              keep x card' ok (length_with_block card bytes (s + p) big whole ∙ k.room)
              (λ q lq. new q (eqb q p) refl (omega (arith, w)))
              (λ j ne q lq. other_block card bytes (s + p) big whole (start_in (sheet_at l j) + q) (elsewhere j ne q lq)
              ∙ k.blocks j q lq);
        }
      where
        x : Sheet
        x = Open s (set ps p (Payload payload))

        bytes : List ℕ
        bytes = sealed i p payload

        card' : List ℕ
        card' = with_block card (s + p) bytes

        whole : length bytes ≡ 512
        whole = sealed_length i p payload len

        w : length (set ps p (Payload payload)) ≡ length ps
        w = length-set ps p (Payload payload)

        ok : Sound n (set l i x)
        ok = putting n l k.sound i lt s ps was p payload len

        before-it : Fine n (Open s ps)
        before-it = subst (Fine n) was (k.sound.fine i)

        big : 512 * (s + p) + 512 ≤ length card
        big = omega (arith, k.room, before-it.inside)

        elsewhere : (j : ℕ) → j ≢ i → (q : ℕ) → q < length_in (sheet_at l j) → start_in (sheet_at l j) + q ≡ s + p → ⊥
        elsewhere j ne q lq e =
            omega (
              arith,
              cover_two l j i (s + p) ne,
              k.sound.once (s + p),
              covers_in (sheet_at l j) (s + p) (omega arith) (omega arith),
              ap (λ (y : Sheet). covers y (s + p)) was,
              covers_in (Open s ps) (s + p) (omega arith) (omega arith),
            )

        new : (q : ℕ) (t : Bool) → eqb q p ≡ t → q < length ps
            → block_of card' (s + q) ≡ block_in i q (get_or (set ps p (Payload payload)) q Blank)
        new q true e lq = rw (eqb-true q p e, get_or-set_same ps p (Payload payload) Blank lp)
            (same_block card bytes (s + p) big whole)
        new q false e lq =
            other_block card bytes (s + p) big whole (s + q) (λ r. omega (arith, eqb-false q p e)) ∙ had q lq
            ∙ ap (block_in i q) (sym (get_or-set_other ps p q (Payload payload) Blank (eqb-false q p e)))
