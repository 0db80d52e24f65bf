-- The ledger alone: what an accepted call has shown of its sheet, and that its change leaves every sheet inside the card
-- and no block covered twice.
-- Assumes nothing.
use Prim.Native.Nat.{ℕ, zero, suc, ◌+◌, ◌≤◌, ◌<◌}
use mathlib.Core.Path.{◌≡◌, refl, ap, subst, ◌∙◌}
use mathlib.Core.Logic.{◌≢◌}
use mathlib.Core.Bool.{Bool, true, false, true≢false}
use mathlib.Core.List.{List, [], ◌∷◌, ◌++◌, map}
use native.Mathlib.Nat.{not-suc-le-zero}
use native.Mathlib.Omega.{arith}
use lib.Dec.{eqb, ltb}
use lib.ListN.{length, get_or, set, replicate, length-set, length-map, length-append, length-replicate}
use lib.Seq.{get_or-set_same, get_or-set_other}
use borrow.Author.Tests.{ltb-true, ltb-false, eqb-true, eqb-false}
use Rattle.map_blocks.specs.Blocks.{fit}
use Rattle.map_blocks.specs.Maps.{in_run}
use Rattle.laws.proofs.Bools.{and_right}
use Rattle.map_blocks.proofs.Fits.{fit_is}
use Rattle.map_blocks.proofs.Runs.{all_elim}
use Rattle.catalogue_standings.specs.Standings.{is_absent, is_paused, is_open, is_complete}
use Rattle.refusals.proofs.Room.{fit_inside}
use Rattle.ledger.specs.Ledger.{Place, Blank, Payload, Sheet, Absent, Paused, PausedWith, Open, Complete, standing_in}
use Rattle.ledger.specs.Ledger.{start_in, length_in, places_in, is_blank, bytes_of, sheet_at, covers, cover, free_in}
use Rattle.ledger.proofs.Cover.{in_run_lem, covers_in, covers_out, cover_set}

-- ---- what an accepted call has shown of the sheet's standing

pub was_absent : (x : Sheet) → is_paused (standing_in x) ≡ false → is_open (standing_in x) ≡ false
    → is_complete (standing_in x) ≡ false → x ≡ Absent
was_absent Absent p o c = refl
was_absent Paused p o c = absurd (true≢false p)
was_absent (PausedWith s xs) p o c = absurd (true≢false p)
was_absent (Open s ps) p o c = absurd (true≢false o)
was_absent (Complete s xs) p o c = absurd (true≢false c)

pub was_open : (x : Sheet) → is_absent (standing_in x) ≡ false → is_paused (standing_in x) ≡ false
    → is_complete (standing_in x) ≡ false
    → (at : ℕ) × (ps : List Place) × (x ≡ Open at ps)
was_open Absent a p c = absurd (true≢false a)
was_open Paused a p c = absurd (true≢false p)
was_open (PausedWith s xs) a p c = absurd (true≢false p)
was_open (Open s ps) a p c = (s, ps, refl)
was_open (Complete s xs) a p c = absurd (true≢false c)

pub was_complete : (x : Sheet) → is_absent (standing_in x) ≡ false → is_paused (standing_in x) ≡ false
    → is_open (standing_in x) ≡ false
    → (at : ℕ) × (xs : List (List ℕ)) × (x ≡ Complete at xs)
was_complete Absent a p o = absurd (true≢false a)
was_complete Paused a p o = absurd (true≢false p)
was_complete (PausedWith s xs) a p o = absurd (true≢false p)
was_complete (Open s ps) a p o = absurd (true≢false o)
was_complete (Complete s xs) a p o = (s, xs, refl)

-- a fit's blocks are covered by none
pub fit_free : (n : ℕ) (l : List Sheet) (k s : ℕ) → fit (free_in n l) 0 n 1 k s ≡ true → (b : ℕ) → s ≤ b → b < s + k
    → cover l b ≡ 0
fit_free n l k s h b p q =
    eqb-true (cover l b) 0 (and_right (ltb b n) _ (all_elim (free_in n l) s k (fit_is (free_in n l) 0 n 1 k s h).free b p q))

-- ---- a sheet by itself

-- payloads are 496 bytes long
abbrev pub Sized : Place → Type 0
Sized Blank = Unit {0}
Sized (Payload bytes) = length bytes ≡ 496

-- Open and Complete have a place, and so has a pause with blocks
abbrev pub needs : Sheet → ℕ
needs Absent = 0
needs Paused = 0
needs (PausedWith s xs) = 1
needs (Open s ps) = 1
needs (Complete s xs) = 1

pub record Fine (n : ℕ) (x : Sheet) : Type 0 where
  pub inside : start_in x + length_in x ≤ n
  pub needed : needs x ≤ length_in x
  pub sized : (p : ℕ) → Sized (get_or (places_in x) p Blank)

sized_blanks : (k p : ℕ) → Sized (get_or (replicate k Blank) p Blank)
sized_blanks zero p = tt
sized_blanks (suc k) zero = tt
sized_blanks (suc k) (suc p) = sized_blanks k p

sized_more : (ps : List Place) (k : ℕ) → ((p : ℕ) → Sized (get_or ps p Blank)) → (p : ℕ)
    → Sized (get_or (ps ++ replicate k Blank) p Blank)
sized_more [] k h p = sized_blanks k p
sized_more (x ∷ ps) k h zero = h 0
sized_more (x ∷ ps) k h (suc p) = sized_more ps k (λ q. h (suc q)) p

sized_set : (ps : List Place) (q : ℕ) (x : Place) → Sized x → ((p : ℕ) → Sized (get_or ps p Blank)) → (p : ℕ)
    → Sized (get_or (set ps q x) p Blank)
sized_set [] q x s h p = tt
sized_set (y ∷ ps) zero x s h zero = s
sized_set (y ∷ ps) zero x s h (suc p) = h (suc p)
sized_set (y ∷ ps) (suc q) x s h zero = h 0
sized_set (y ∷ ps) (suc q) x s h (suc p) = sized_set ps q x s (λ r. h (suc r)) p

-- places without a blank are those of their payloads
pub refilled : (ps : List Place) → ((p : ℕ) → p < length ps → is_blank (get_or ps p Blank) ≡ false)
    → map Payload (map bytes_of ps) ≡ ps
refilled [] h = refl
refilled (Blank ∷ ps) h = absurd (true≢false (h 0 (omega arith)))
refilled (Payload x ∷ ps) h = ap (λ (r : List Place). Payload x ∷ r) (refilled ps (λ p l. h (suc p) (omega arith)))

pub payload_at : (xs : List (List ℕ)) (p : ℕ) → p < length xs → is_blank (get_or (map Payload xs) p Blank) ≡ false
payload_at [] p h = absurd (not-suc-le-zero h)
payload_at (x ∷ xs) zero h = refl
payload_at (x ∷ xs) (suc p) h = payload_at xs p (omega arith)

-- it has places
abbrev pub holding : Sheet → Bool
holding Absent = false
holding Paused = false
holding (PausedWith s xs) = true
holding (Open s ps) = true
holding (Complete s xs) = true

-- a sheet's place is m, if the sheet has places
abbrev pub Has : ℕ → Place → Sheet → Type 0
Has p m x = holding x ≡ true → get_or (places_in x) p Blank ≡ m

pub blanks_at : (k p : ℕ) → get_or (replicate k Blank) p Blank ≡ Blank
blanks_at zero p = refl
blanks_at (suc k) zero = refl
blanks_at (suc k) (suc p) = blanks_at k p

pub more_at : (ps : List Place) (k p : ℕ) → get_or (ps ++ replicate k Blank) p Blank ≡ get_or ps p Blank
more_at [] k p = blanks_at k p
more_at (x ∷ ps) k zero = refl
more_at (x ∷ ps) k (suc p) = more_at ps k p

-- ---- the sheets together

pub record Sound (n : ℕ) (l : List Sheet) : Type 0 where
  pub once : (b : ℕ) → cover l b ≤ 1
  pub fine : (i : ℕ) → Fine n (sheet_at l i)

-- what holds of every sheet, after one has changed
pub set_cases : (P : ℕ → Sheet → Type 0) (l : List Sheet) (i : ℕ) (x : Sheet) → i < length l → P i x
    → ((j : ℕ) → j ≢ i → P j (sheet_at l j))
    → (j : ℕ) → P j (sheet_at (set l i x) j)
set_cases P l i x h new old j = go (eqb j i) refl
  where
    go : (t : Bool) → eqb j i ≡ t → P j (sheet_at (set l i x) j)
    go true e = rw (eqb-true j i e, get_or-set_same l i x Absent h) new
    go false e = rw (get_or-set_other l i j x Absent (eqb-false j i e)) (old j (eqb-false j i e))

module _ (n : ℕ) (l : List Sheet) (ok : Sound n l) (i : ℕ) (lt : i < length l) where
  sound_set : (x : Sheet) → Fine n x → ((b : ℕ) → cover l b + covers x b ≤ 1 + covers (sheet_at l i) b) → Sound n (set l i x)
  sound_set x f c = record {
    once = λ b. omega (arith, cover_set l i x b lt, c b);
    fine = set_cases (λ j y. Fine n y) l i x lt f (λ j ne. ok.fine j);
  }

  -- a sheet that covers nothing
  pub sound_none : (x : Sheet) → Fine n x → length_in x ≡ 0 → Sound n (set l i x)
  sound_none x f e = sound_set x f (λ b. omega (arith, covers_out x b (λ q. omega (arith, q.0, q.1)), ok.once b))

  -- a sheet that covers what it did
  pub sound_same : (x : Sheet) → Fine n x → ((b : ℕ) → covers x b ≡ covers (sheet_at l i) b) → Sound n (set l i x)
  sound_same x f e = sound_set x f (λ b. omega (arith, e b, ok.once b))

  -- a reserve at a fit
  pub reserved : (k s : ℕ) → 0 < k → fit (free_in n l) 0 n 1 k s ≡ true → Sound n (set l i (Open s (replicate k Blank)))
  reserved k s pos f =
      let e : length (replicate k Blank) ≡ k = length-replicate k Blank in
      sound_set (Open s (replicate k Blank))
      (record { inside = omega (arith, fit_inside (free_in n l) n k s f); needed = omega arith; sized = sized_blanks k })
      (λ b. go b (in_run s (length (replicate k Blank)) b) refl)
    where
      go : (b : ℕ) (t : Bool) → in_run s (length (replicate k Blank)) b ≡ t
          → cover l b + covers (Open s (replicate k Blank)) b ≤ 1 + covers (sheet_at l i) b
      go b true e =
          let r = in_run_lem s (length (replicate k Blank)) b e in
          rw e (omega (arith, fit_free n l k s f b r.0 (omega (arith, r.1, length-replicate k Blank))))
      go b false e = rw e (omega (arith, ok.once b))

  module _ (s : ℕ) (ps : List Place) (was : sheet_at l i ≡ Open s ps) where
    before-it : Fine n (Open s ps)
    before-it = subst (Fine n) was (ok.fine i)

    -- a grow at the blocks after the extent
    pub grown : (m : ℕ) → 0 < m → fit (free_in n l) 0 n 1 m (s + length ps) ≡ true
        → Sound n (set l i (Open s (ps ++ replicate m Blank)))
    grown m pos f =
        sound_set (Open s (ps ++ replicate m Blank))
        (record {
          inside = omega (arith, wide, fit_inside (free_in n l) n m (s + length ps) f);
          needed = omega (arith, wide);
          sized = sized_more ps m before-it.sized;
        })
        (λ b. go b (in_run s (length (ps ++ replicate m Blank)) b) refl)
      where
        wide : length (ps ++ replicate m Blank) ≡ length ps + m
        wide = length-append ps (replicate m Blank) ∙ ap (λ (k : ℕ). length ps + k) (length-replicate m Blank)

        go : (b : ℕ) (t : Bool) → in_run s (length (ps ++ replicate m Blank)) b ≡ t
            → cover l b + covers (Open s (ps ++ replicate m Blank)) b ≤ 1 + covers (sheet_at l i) b
        go b true w = rw (w, was) (within (ltb b (s + length ps)) refl)
          where
            r : (s ≤ b) × (b < s + length (ps ++ replicate m Blank))
            r = in_run_lem s (length (ps ++ replicate m Blank)) b w

            within : (t : Bool) → ltb b (s + length ps) ≡ t → cover l b + 1 ≤ 1 + covers (Open s ps) b
            within true q = omega (arith, covers_in (Open s ps) b r.0 (ltb-true b (s + length ps) q), ok.once b)
            within false q =
                omega (arith, fit_free n l m (s + length ps) f b (ltb-false b (s + length ps) q) (omega (arith, r.1, wide)))
        go b false w = rw w (omega (arith, ok.once b))

    pub completed : map Payload (map bytes_of ps) ≡ ps → Sound n (set l i (Complete s (map bytes_of ps)))
    completed full =
        let w : length (map bytes_of ps) ≡ length ps = length-map ps bytes_of in
        sound_same (Complete s (map bytes_of ps))
        (record {
          inside = omega (arith, before-it.inside);
          needed = omega (arith, before-it.needed);
          sized = λ p. rw full (before-it.sized p);
        })
        (λ b. rw (was, w))

    pub putting : (p : ℕ) (payload : List ℕ) → length payload ≡ 496 → Sound n (set l i (Open s (set ps p (Payload payload))))
    putting p payload len =
        let w : length (set ps p (Payload payload)) ≡ length ps = length-set ps p (Payload payload) in
        sound_same (Open s (set ps p (Payload payload)))
        (record {
          inside = omega (arith, before-it.inside);
          needed = omega (arith, before-it.needed);
          sized = sized_set ps p (Payload payload) len before-it.sized;
        })
        (λ b. rw (was, w))
