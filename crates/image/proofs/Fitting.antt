-- The tests of limits and lengths, one after the other, and what they show.
-- Assumes nothing.
use mathlib.Core.Path.{◌≡◌, refl, sym, ap, ap₂, ◌∙◌}
use mathlib.Core.Bool.{Bool, true, false, ◌&&◌}
use Prim.Native.Nat.{ℕ, ◌*◌, ◌/◌, ◌%◌, ◌≤◌, ◌<◌}
use native.Mathlib.Omega.{arith}
use lib.Dec.{eqb, leb}
use borrow.Author.Tests.{eqb-true, leb-true, eq-eqb, le-leb}
use Rattle.map_blocks.specs.Maps.{words_for}
use Rattle.laws.proofs.Bools.{and_left, and_right}
use Rattle.catalogue_standings.specs.Limits.{shape_fits, sheets_fit}
use Rattle.catalogue_standings.proofs.Limits.{Fits, fits}
use Rattle.image_soundness.specs.Scratch.{scratch_words}
use Rattle.image.specs.Image.{frames_for}
use Rattle.image.specs.Table.{save_fits, whole_blocks, head_fits, load_fits}

pub record Sheets (c : ℕ) : Type 0 where
  pub some : 1 ≤ c
  pub few : c ≤ 1024

sheets : (c : ℕ) → sheets_fit c ≡ true → Sheets c
unfolding sheets_fit
sheets c e = record {
  some = leb-true 1 c (and_left (leb 1 c) (leb c 1024) e);
  few = leb-true c 1024 (and_right (leb 1 c) (leb c 1024) e);
}

-- row 1 of save
pub record SaveFits (n spare c maplen scratchlen : ℕ) : Type 0 where
  pub shape : shape_fits n spare maplen ≡ true
  pub limits : Fits n spare maplen
  pub listed : sheets_fit c ≡ true
  pub count : Sheets c
  pub scratch : scratchlen ≡ scratch_words maplen

module _ (n spare c maplen scratchlen : ℕ) where
  module _ (s : shape_fits n spare maplen ≡ true) where
    pub save-by-scratch : sheets_fit c ≡ true → (v : ℕ) → v ≡ scratch_words maplen
        → eqb scratchlen v ≡ save_fits n spare c maplen scratchlen
    unfolding save_fits
    save-by-scratch t v ev = ap (eqb scratchlen) ev
        ∙ sym (ap₂ (λ (a b : Bool). a && b && eqb scratchlen (scratch_words maplen)) s t)

  pub save_fits_to : save_fits n spare c maplen scratchlen ≡ true → SaveFits n spare c maplen scratchlen
  unfolding save_fits
  save_fits_to e =
      let a : Bool = shape_fits n spare maplen in
      let b : Bool = sheets_fit c in
      let d : Bool = eqb scratchlen (scratch_words maplen) in
      let s = and_left a b (and_left (a && b) d e) in
      record {
        shape = s;
        limits = fits n spare maplen s;
        listed = and_right a b (and_left (a && b) d e);
        count = sheets c (and_right a b (and_left (a && b) d e));
        scratch = eqb-true scratchlen (scratch_words maplen) (and_right (a && b) d e);
      }

  pub to_save_fits : shape_fits n spare maplen ≡ true → sheets_fit c ≡ true → scratchlen ≡ scratch_words maplen
      → save_fits n spare c maplen scratchlen ≡ true
  to_save_fits s t e = sym (save-by-scratch s t (scratch_words maplen) refl) ∙ eq-eqb scratchlen (scratch_words maplen) e

-- row 12 of load
pub record Whole (bytes : ℕ) : Type 0 where
  pub exact : bytes ≡ 512 * (bytes / 512)
  pub some : 1 ≤ bytes / 512
  pub few : bytes / 512 ≤ 91

module _ (bytes : ℕ) where
  module _ (z : bytes % 512 ≡ 0) where
    pub whole-by-few : leb 1 (bytes / 512) ≡ true → leb (bytes / 512) 91 ≡ whole_blocks bytes
    unfolding whole_blocks
    whole-by-few h = sym (ap₂ (λ (a b : Bool). a && b && leb (bytes / 512) 91) (eq-eqb (bytes % 512) 0 z) h)

  pub whole_to : whole_blocks bytes ≡ true → Whole bytes
  unfolding whole_blocks
  whole_to e =
      let a : Bool = eqb (bytes % 512) 0 in
      let b : Bool = leb 1 (bytes / 512) in
      let d : Bool = leb (bytes / 512) 91 in
      let z : bytes % 512 ≡ 0 = eqb-true (bytes % 512) 0 (and_left a b (and_left (a && b) d e)) in
      record {
        exact = omega arith;
        some = leb-true 1 (bytes / 512) (and_right a b (and_left (a && b) d e));
        few = leb-true (bytes / 512) 91 (and_right (a && b) d e);
      }

pub to_whole : (bytes : ℕ) → Whole bytes → whole_blocks bytes ≡ true
to_whole bytes w =
    let z : bytes % 512 ≡ 0 = omega (arith, w.exact) in
    sym (whole-by-few bytes z (le-leb 1 (bytes / 512) w.some)) ∙ le-leb (bytes / 512) 91 w.few

-- row 14 of load for the head
pub record Head (n spare c total : ℕ) : Type 0 where
  pub shape : shape_fits n spare (words_for n) ≡ true
  pub limits : Fits n spare (words_for n)
  pub listed : sheets_fit c ≡ true
  pub count : Sheets c
  pub exact : total ≡ frames_for n c

module _ (n spare c total : ℕ) where
  pub head_unshaped : shape_fits n spare (words_for n) ≡ false → false ≡ head_fits n spare c total
  unfolding head_fits
  head_unshaped s = sym (ap (λ (a : Bool). a && sheets_fit c && eqb total (frames_for n c)) s)

  pub head_large : 262144 < n → false ≡ head_fits n spare c total
  head_large h =
      head_unshaped (not-true' (shape_fits n spare (words_for n))
      (λ e. let l = fits n spare (words_for n) e in omega (arith, l.limit)))
    where
      not-true' : (a : Bool) → (a ≡ true → ⊥) → a ≡ false
      not-true' true h = absurd (h refl)
      not-true' false h = refl

  module _ (s : shape_fits n spare (words_for n) ≡ true) where
    pub head-uncounted : sheets_fit c ≡ false → false ≡ head_fits n spare c total
    unfolding head_fits
    head-uncounted t = sym (ap₂ (λ (a b : Bool). a && b && eqb total (frames_for n c)) s t)

    pub head-by-total : sheets_fit c ≡ true → (t : ℕ) → t ≡ frames_for n c → eqb total t ≡ head_fits n spare c total
    unfolding head_fits
    head-by-total k t e = ap (eqb total) e ∙ sym (ap₂ (λ (a b : Bool). a && b && eqb total (frames_for n c)) s k)

  pub sheets_few : sheets_fit c ≡ true → c ≤ 1024
  sheets_few e = (sheets c e).few

  pub head_to : head_fits n spare c total ≡ true → Head n spare c total
  unfolding head_fits
  head_to e =
      let a : Bool = shape_fits n spare (words_for n) in
      let b : Bool = sheets_fit c in
      let d : Bool = eqb total (frames_for n c) in
      let s = and_left a b (and_left (a && b) d e) in
      record {
        shape = s;
        limits = fits n spare (words_for n) s;
        listed = and_right a b (and_left (a && b) d e);
        count = sheets c (and_right a b (and_left (a && b) d e));
        exact = eqb-true total (frames_for n c) (and_right (a && b) d e);
      }

pub to_head : (n spare c total : ℕ) → shape_fits n spare (words_for n) ≡ true → sheets_fit c ≡ true → total ≡ frames_for n c
    → head_fits n spare c total ≡ true
to_head n spare c total s k e = sym (head-by-total n spare c total s k (frames_for n c) refl) ∙ eq-eqb total (frames_for n c) e

-- row 1 of load
pub record LoadFits (n c maplen count scratchlen : ℕ) : Type 0 where
  pub words : maplen ≡ words_for n
  pub entries : count ≡ c
  pub scratch : scratchlen ≡ scratch_words (words_for n)

module _ (n c maplen count scratchlen w : ℕ) (ew : w ≡ words_for n) where
  module _ (e : maplen ≡ w) where
    pub load-by-scratch : count ≡ c → (v : ℕ) → v ≡ scratch_words (words_for n)
        → eqb scratchlen v ≡ load_fits n c maplen count scratchlen
    unfolding load_fits
    load-by-scratch h v ev = ap (eqb scratchlen) ev
        ∙ sym (ap₂ (λ (a b : Bool). a && b && eqb scratchlen (scratch_words (words_for n)))
        (eq-eqb maplen (words_for n) (e ∙ ew))
        (eq-eqb count c h))

pub load_fits_to : (n c maplen count scratchlen : ℕ) → load_fits n c maplen count scratchlen ≡ true
    → LoadFits n c maplen count scratchlen
unfolding load_fits
load_fits_to n c maplen count scratchlen e =
    let a : Bool = eqb maplen (words_for n) in
    let b : Bool = eqb count c in
    let d : Bool = eqb scratchlen (scratch_words (words_for n)) in
    record {
      words = eqb-true maplen (words_for n) (and_left a b (and_left (a && b) d e));
      entries = eqb-true count c (and_right a b (and_left (a && b) d e));
      scratch = eqb-true scratchlen (scratch_words (words_for n)) (and_right (a && b) d e);
    }

pub to_load_fits : (n c maplen count scratchlen : ℕ) → LoadFits n c maplen count scratchlen
    → load_fits n c maplen count scratchlen ≡ true
to_load_fits n c maplen count scratchlen l =
    sym (load-by-scratch n c maplen count scratchlen (words_for n) refl l.words l.entries (scratch_words (words_for n)) refl)
    ∙ eq-eqb scratchlen (scratch_words (words_for n)) l.scratch
