-- The saved image, of a shape's methods (document 01, "Saved image"). What a save was given, a load of what it wrote gives
-- back: shape, map and entries (`saved_loads`). An image that load accepts is the image of what it gives, so it is the only
-- one (`loaded_only`), and a save writes it again (`loaded_saves`). A refusal hands the shape back as it came and changes
-- nothing but the scratch (`save_refused`, `load_refused`).
-- Assumes nothing.
use mathlib.Core.Path.{◌≡◌, refl, sym, ap, subst, ◌∙◌}
use mathlib.Core.Bool.{Bool, true, false, cond}
use mathlib.Core.List.{List}
use Prim.Native.Nat.{ℕ}
use native.Mathlib.Omega.{arith}
use lib.Dec.{eqb}
use lib.ListN.{length, replicate}
use borrow.Author.Tests.{eqb-true, ne_eqb}
use Rattle.catalogue_standings.specs.Rows.{Verdict, accepted, refused, settle, row_number}
use Rattle.catalogue_standings.specs.declared.Answer.TheVariants.{Done, Refused}
use Rattle.catalogue.specs.declared.Entry.{Entry}
use Rattle.image_soundness.specs.Scratch.{scratch_words}
use Rattle.image_frames.specs.Frames.{Bytes}
use Rattle.image.specs.Effects as images
use Rattle.image.specs.Effects.{load_result}
use Rattle.image.specs.Image.{image_of, state_in}
use Rattle.image.specs.Table.{save_verdict, load_verdict}
use Rattle.image.specs.Effects.{Answered}
use Rattle.image.proofs.Journey.{Words}
use Rattle.image.proofs.ReturnJourney as journey
use Rattle.image.proofs.Verdicts.{save_accepted, load_accepted}
use Rattle.card.specs.declared.Outcome.{Outcome}
use Rattle.card.specs.declared.Shape.{Shape}
use Rattle.card.specs.Calls.{told, is_done, load_outcome_by, saved_state, save_outcome, save_scratch, save_image, load_outcome}
use Rattle.card.specs.Calls.{load_map, load_entries, load_scratch}

never_accepted : (number : ℕ) → refused number ≡ accepted → ⊥
never_accepted number e = let z : ◌≡◌ {A = ℕ} 0 1 = cc in omega arith

never_done : false ≡ true → ⊥
never_done e = let z : ◌≡◌ {A = ℕ} 1 0 = ap (λ (x : Bool). cond x 0 1) e in omega arith

-- a save or a load that was done has the number 0
done_save : (shape : Shape) (number : ℕ) → is_done (cond (eqb number 0) Done (Refused number)) ≡ true → number ≡ 0
done_save shape number d = by (eqb number 0) refl d
  where
    by : (b : Bool) → eqb number 0 ≡ b → is_done (cond b Done (Refused number)) ≡ true → number ≡ 0
    by true e h = eqb-true number 0 e
    by false e h = absurd (never_done h)

done_load : (shape : Shape) (given : Answered) → is_done (load_outcome_by shape given).answer ≡ true → given.number ≡ 0
done_load shape given d = by (eqb given.number 0) refl d
  where
    by : (b : Bool) → eqb given.number 0 ≡ b
        → is_done (cond b (told (record { blocks = given.blocks; free = given.free }) Done)
        (told shape (Refused given.number))).answer ≡ true → given.number ≡ 0
    by true e h = eqb-true given.number 0 e
    by false e h = absurd (never_done h)

-- what a save of `map` and `entries` wrote, loaded into other buffers of their lengths, whatever shape the load takes
module _ (turned : Bool) (shape other : Shape) (map : List ℕ) (entries : List Entry) (scratch buffer map' : List ℕ) (entries' :
    List Entry)
    (scratch' : List ℕ) where
  abbrev written : List ℕ
  written = save_image turned shape map entries scratch buffer

  pub record LoadsBack : Type 0 where
    pub outcome : load_outcome false other written map' entries' scratch' ≡ told shape Done
    pub words : load_map false other written map' entries' scratch' ≡ map
    pub sheets : load_entries false other written map' entries' scratch' ≡ entries
    pub zeros : load_scratch false other written map' entries' scratch' ≡ replicate (length scratch') 0

  pub saved_loads : Words map → save_outcome turned shape map entries scratch buffer ≡ told shape Done
      → length map' ≡ length map → length entries' ≡ length entries → length scratch' ≡ scratch_words (length map)
      → LoadsBack
  saved_loads words e lm le ls =
      let z = done_save shape (images.save_number turned shape.blocks shape.free map entries scratch buffer)
      (ap (λ (o : Outcome). is_done o.answer) e) in
      let g = journey.saved_loads turned shape.blocks shape.free map entries scratch buffer map' entries' scratch' words
      z lm le
      ls in
      record { outcome = ap (load_outcome_by other) g.result; words = g.words; sheets = g.sheets; zeros = g.zeros }

-- what a load gives, and the image that it was
module _ (turned : Bool) (shape : Shape) (image map : List ℕ) (entries : List Entry) (scratch : List ℕ) (bytes : Bytes image)
  where
    abbrev given : Answered
    given = load_result turned image map entries scratch

    abbrev handed : Outcome
    handed = load_outcome turned shape image map entries scratch

    abbrev map' : List ℕ
    map' = load_map turned shape image map entries scratch

    abbrev entries' : List Entry
    entries' = load_entries turned shape image map entries scratch

    same_shape : given.number ≡ 0 → handed.shape ≡ record { blocks = given.blocks; free = given.free }
    same_shape z =
        ap (λ (k : ℕ). (cond (eqb k 0) (told (record { blocks = given.blocks; free = given.free }) Done)
        (told shape (Refused k))).shape) z

    pub loaded_only : is_done handed.answer ≡ true → image_of (saved_state handed.shape map' entries') ≡ image
    loaded_only d =
        let z = done_load shape given d in
        ap (λ (s : Shape). image_of (saved_state s map' entries')) (same_shape z)
        ∙ journey.loaded_only turned image map entries scratch bytes z

    -- a save of what was loaded is done, and writes the image again
    pub loaded_saves : is_done handed.answer ≡ true → (other buffer : List ℕ)
        → length other ≡ scratch_words (length map') → length buffer ≡ length image
        → (save_outcome false handed.shape map' entries' other buffer ≡ told handed.shape Done)
        × (save_image false handed.shape map' entries' other buffer ≡ image)
    loaded_saves d other buffer lo lb =
        let z = done_load shape given d in
        let again = journey.loaded_saves turned image map entries scratch bytes z other buffer lo lb in
        subst (λ (s : Shape). (save_outcome false s map' entries' other buffer ≡ told s Done)
        × (save_image false s map' entries' other buffer ≡ image)) (sym (same_shape z)) (
          ap (λ (k : ℕ). told (record { blocks = given.blocks; free = given.free }) (cond (eqb k 0) Done (Refused k)))
              again.0,
          again.1,
        )

pub scratch_zeros : (turned : Bool) (shape : Shape) (map : List ℕ) (entries : List Entry) (scratch buffer : List ℕ)
    → save_scratch turned shape map entries scratch buffer ≡ replicate (length scratch) 0
unfolding images.save_scratch
scratch_zeros turned shape map entries scratch buffer = refl

-- a refusal hands the shape back as it came and changes nothing but the scratch
pub save_refused : (turned : Bool) (shape : Shape) (map : List ℕ) (entries : List Entry) (scratch buffer : List ℕ) (number : ℕ)
    → save_verdict turned (saved_state shape map entries) (length scratch) (length buffer) ≡ refused number
    → (save_outcome turned shape map entries scratch buffer ≡ told shape (Refused number))
    × (save_image turned shape map entries scratch buffer ≡ buffer)
    × (save_scratch turned shape map entries scratch buffer ≡ replicate (length scratch) 0)
unfolding images.save_number images.save_image images.save_scratch
save_refused turned shape map entries scratch buffer number v =
    let some : eqb number 0 ≡ false =
    ne_eqb number 0
    (λ z. never_accepted number (sym v ∙ save_accepted turned (saved_state shape map entries) (length scratch) (length buffer)
    (ap row_number v ∙ z))) in (
      ap (λ (w : Verdict). told shape (cond (eqb (row_number w) 0) Done (Refused (row_number w)))) v
          ∙ ap (λ (t : Bool). told shape (cond t Done (Refused number))) some,
      ap (λ (w : Verdict). settle w (image_of (saved_state shape map entries)) (λ k. buffer)) v,
      refl,
    )

pub load_refused : (turned : Bool) (shape : Shape) (image map : List ℕ) (entries : List Entry) (scratch : List ℕ) (number : ℕ)
    → load_verdict turned image (length map) (length entries) (length scratch) ≡ refused number
    → (load_outcome turned shape image map entries scratch ≡ told shape (Refused number))
    × (load_map turned shape image map entries scratch ≡ map) × (load_entries turned shape image map entries scratch ≡ entries)
    × (load_scratch turned shape image map entries scratch ≡ replicate (length scratch) 0)
unfolding images.load_result images.load_map images.load_entries images.load_scratch
load_refused turned shape image map entries scratch number v =
    let some : eqb number 0 ≡ false =
    ne_eqb number 0
    (λ z. never_accepted number (sym v ∙ load_accepted turned image (length map) (length entries) (length scratch)
    (ap row_number v ∙ z))) in (
      ap (λ (w : Verdict). load_outcome_by shape (settle w
          (record { number = 0; blocks = (state_in image).blocks; free = (state_in image).spare })
          (λ k. record { number = k; blocks = 0; free = 0 }))) v
          ∙ ap (λ (t : Bool). cond t (told (record { blocks = 0; free = 0 }) Done) (told shape (Refused number))) some,
      ap (λ (w : Verdict). settle w (state_in image).map (λ k. map)) v,
      ap (λ (w : Verdict). settle w (state_in image).entries (λ k. entries)) v,
      refl,
    )
