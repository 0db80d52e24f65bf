-- What the loop over entries in a window gives and leaves, one by one, as it goes; and that the scratch keeps its length.
-- Assumes nothing.
use mathlib.Core.Path.{◌≡◌, refl, sym, ap, ap₂, subst, ◌∙◌}
use mathlib.Core.Logic.{⊎_elim}
use mathlib.Core.Bool.{Bool, true, false, ◌&&◌, cond}
use mathlib.Core.List.{List, [], ◌∷◌}
use Prim.Native.Nat.{ℕ, zero, suc, ◌+◌, ◌-◌, ◌≤◌, ◌<◌}
use native.Mathlib.Omega.{arith}
use native.Mathlib.Numerals.{add-one}
use lib.ListN.{length, get_or, set, drop}
use Rattle.std.proofs.Math.Bool.{and_assoc, and-true}
use Rattle.std.proofs.lemmas.List.{drop_all}
use Rattle.catalogue.specs.Entries.{zeros}
use lib.Seq.{drop-cons, ext_get_or, get_or-set_same, get_or-set_other}
use Rattle.map_blocks.specs.Maps.{marked}
use Rattle.laws.proofs.Bools.{order}
use Rattle.map_blocks.proofs.Maps.{marked_length}
use Rattle.catalogue.specs.declared.Entry.{Entry}
use Rattle.image_soundness.specs.Windows.{words_from, part_from, part_to, touches, part_taken}
use Rattle.image_soundness.specs.Windows.{part_stands, scratch_after, parts_stand, scratch_over}

-- entry by entry
pub stand_none : (lo : ℕ) (scratch : List ℕ) → parts_stand [] lo scratch ≡ true
unfolding parts_stand
stand_none lo scratch = refl

pub stand_more : (e : Entry) (es : List Entry) (lo : ℕ) (scratch : List ℕ)
    → parts_stand (e ∷ es) lo scratch ≡ (part_stands lo scratch e && parts_stand es lo (scratch_after lo scratch e))
unfolding parts_stand
stand_more e es lo scratch = refl

pub left_none : (lo : ℕ) (scratch : List ℕ) → scratch_over [] lo scratch ≡ scratch
unfolding scratch_over
left_none lo scratch = refl

pub left_more : (e : Entry) (es : List Entry) (lo : ℕ) (scratch : List ℕ)
    → scratch_over (e ∷ es) lo scratch ≡ scratch_over es lo (scratch_after lo scratch e)
unfolding scratch_over
left_more e es lo scratch = refl

-- and by the place of an entry
module _ (es : List Entry) (i lo : ℕ) (scratch : List ℕ) where
  module _ (so still : Bool) (next : List ℕ) (h : i < length es)
      (er : still ≡ (so && part_stands lo scratch (get_or es i zeros)))
      (en : next ≡ scratch_after lo scratch (get_or es i zeros)) where
    pub stand_step : (still && parts_stand (drop (i + 1) es) lo next) ≡ (so && parts_stand (drop i es) lo scratch)
    stand_step =
        ap₂ (λ (b : Bool) (l : List ℕ). b && parts_stand (drop (i + 1) es) lo l) er en
        ∙ and_assoc so (part_stands lo scratch (get_or es i zeros)) _
        ∙ ap (λ (b : Bool). so && b)
        (rw (drop-cons es i zeros h, add-one) (sym (stand_more (get_or es i zeros) _ lo scratch)))

    pub left_step : scratch_over (drop (i + 1) es) lo next ≡ scratch_over (drop i es) lo scratch
    left_step =
        ap (scratch_over (drop (i + 1) es) lo) en
        ∙ rw (drop-cons es i zeros h, add-one) (sym (left_more (get_or es i zeros) _ lo scratch))

  pub stand_end : (so : Bool) → length es ≤ i → so ≡ (so && parts_stand (drop i es) lo scratch)
  stand_end so h = rw (drop_all i es h) (sym (ap (λ (b : Bool). so && b) (stand_none lo scratch) ∙ and-true so))

  pub left_end : length es ≤ i → scratch ≡ scratch_over (drop i es) lo scratch
  left_end h = rw (drop_all i es h) (sym (left_none lo scratch))

-- the scratch is as long as before
pub words_length : (map : List ℕ) (a m : ℕ) → length (words_from map a m) ≡ m
unfolding words_from
words_length map a zero = refl
words_length map a (suc m) = ap suc (words_length map (suc a) m)

pub words_at_lem : (map : List ℕ) (a m i : ℕ) → i < m → get_or (words_from map a m) i 0 ≡ get_or map (a + i) 0
unfolding words_from
words_at_lem map a zero i h = absurd (omega arith)
words_at_lem map a (suc m) zero h = let z : a ≡ a + 0 = omega arith in ap (λ (x : ℕ). get_or map x 0) z
words_at_lem map a (suc m) (suc i) h =
    let z : suc a + i ≡ a + suc i = omega arith in
    words_at_lem map (suc a) m i (omega arith) ∙ ap (λ (x : ℕ). get_or map x 0) z

-- copied one by one
pub words_more : (map to : List ℕ) (a i v : ℕ) → i < length to → v ≡ get_or map (a + i) 0
    → ((j : ℕ) → j < i → get_or to j 0 ≡ get_or map (a + j) 0)
    → (j : ℕ) → j < i + 1 → get_or (set to i v) j 0 ≡ get_or map (a + j) 0
words_more map to a i v h e before j l =
    ⊎_elim
    (λ (u : j < i). get_or-set_other to i j v 0 (λ q. omega arith) ∙ before j u)
    (λ (u : i ≤ j).
    let z : i ≡ j = omega arith in
    subst (λ (k : ℕ). get_or (set to i v) k 0 ≡ get_or map (a + k) 0) z (get_or-set_same to i v 0 h ∙ e)) (order j i)

pub words_all : (map to : List ℕ) (a i m : ℕ) → length to ≡ m → m ≤ i
    → ((j : ℕ) → j < i → get_or to j 0 ≡ get_or map (a + j) 0) → to ≡ words_from map a m
words_all map to a i m long h all =
    ext_get_or 0 to (words_from map a m) (long ∙ sym (words_length map a m))
    (λ j l. all j (omega arith) ∙ sym (words_at_lem map a m j (omega arith)))

pub after_length : (lo : ℕ) (scratch : List ℕ) (e : Entry) → length (scratch_after lo scratch e) ≡ length scratch
unfolding scratch_after
after_length lo scratch e = by (touches lo e) (part_taken lo scratch e)
  where
    by : (a b : Bool) → length (cond a (cond b
        (marked scratch (part_from lo e - lo) (part_to lo e - part_from lo e) true) scratch) scratch)
        ≡ length scratch
    by true true = marked_length scratch (part_from lo e - lo) (part_to lo e - part_from lo e) true
    by true false = refl
    by false b = refl

pub over_length : (es : List Entry) (lo : ℕ) (scratch : List ℕ) → length (scratch_over es lo scratch) ≡ length scratch
unfolding scratch_over
over_length [] lo scratch = refl
over_length (e ∷ es) lo scratch =
    over_length es lo (scratch_after lo scratch e) ∙ after_length lo scratch e
