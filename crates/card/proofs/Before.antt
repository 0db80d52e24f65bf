-- Images written before document 02 (g), of the public calls, made by one who may: save and load answer as they did, and give
-- the
-- same bytes and the same state (`still-saved`, `still_loaded`); where no sheet is paused with blocks they also refuse as they
-- did (`save-refused-as-before`, `load-refused-as-before`). The rule as it was is in crates/image/specs/Before.antt.
-- Assumes nothing.
use mathlib.Core.Path.{◌≡◌, refl, ap, ◌∙◌}
use mathlib.Core.Bool.{Bool, true, false, not, cond}
use mathlib.Core.List.{List, []}
use Prim.Native.Nat.{ℕ}
use lib.Dec.{eqb}
use lib.ListN.{length}
use Rattle.catalogue_standings.specs.Rows.{Verdict, accepted, refused, settle, row_number}
use Rattle.catalogue_standings.specs.declared.Answer.TheVariants.{Done, Refused}
use Rattle.roles.specs.Roles as roles
use Rattle.roles.specs.Roles.{may}
use Rattle.image.specs.Before.{save_verdict_before, load_verdict_before, no_paused_blocks}
use Rattle.image.specs.Effects as images
use Rattle.image.specs.Effects.{zeros_for}
use Rattle.image.specs.Image.{image_of, state_in}
use Rattle.image.specs.Table.{save_verdict, load_verdict}
use Rattle.image_soundness.specs.Sound.{State}
use Rattle.image.proofs.Before.{saves_as_before, loads_as_before, still_saves, still_loads}
use Rattle.card.specs.Calls.{Kept, told, load_outcome_by, saved_state}
use Rattle.card.specs.Public.{save, load, kind_of, Manner, Beside, with_scratch, ending, telling, refused_end}
use Rattle.card.specs.Public.{end_save, end_load, ends}
use Rattle.card.specs.declared.Shape.{Shape}
use Rattle.card.proofs.Images.{save_refused, load_refused}
use Rattle.card.proofs.TurnedAway.{put_together}

-- what a save and a load come to that are not turned away, by the verdict
module _ (guided : Bool) (s : Kept) (b : Beside) where
  abbrev state : State
  state = saved_state s.shape s.map s.entries

  abbrev saved_to : List ℕ → Beside
  saved_to image = record { summary = b.summary; scratch = zeros_for b.scratch; image = image }

  saved : save_verdict false state (length b.scratch) (length b.image) ≡ accepted
      → end_save false guided s b ≡ telling s (saved_to (image_of state)) (told s.shape Done) []
  unfolding images.save_number images.save_image images.save_scratch
  saved v =
      ap (λ (w : Verdict). telling s (saved_to (settle w (image_of state) (λ k. b.image)))
      (told s.shape (cond (eqb (row_number w) 0) Done (Refused (row_number w)))) []) v

  not_saved : (number : ℕ) → save_verdict false state (length b.scratch) (length b.image) ≡ refused number
      → end_save false guided s b ≡ refused_end number s b (kind_of save)
  not_saved number v =
      let same = save_refused false s.shape s.map s.entries b.scratch b.image number v in
      put_together same.0 refl refl refl
      (λ x. record { summary = b.summary; scratch = same.2 x; image = same.1 x })

  -- the shape that stands in an image
  abbrev pub shape_in : List ℕ → Shape
  shape_in image = record { blocks = (state_in image).blocks; free = (state_in image).spare }

  loaded : (image : List ℕ)
      → load_verdict false image (length s.map) (length s.entries) (length b.scratch) ≡ accepted
      → end_load false guided s b image
      ≡ ending (told (shape_in image) Done) (state_in image).map (state_in image).entries s.card []
      (with_scratch (zeros_for b.scratch) b)
  unfolding images.load_result images.load_map images.load_entries images.load_scratch
  loaded image v =
      ap (λ (w : Verdict). ending (load_outcome_by s.shape (settle w
      (record { number = 0; blocks = (state_in image).blocks; free = (state_in image).spare })
      (λ k. record { number = k; blocks = 0; free = 0 })))
      (settle w (state_in image).map (λ k. s.map)) (settle w (state_in image).entries (λ k. s.entries)) s.card []
      (with_scratch (zeros_for b.scratch) b)) v

  not_loaded : (image : List ℕ) (number : ℕ)
      → load_verdict false image (length s.map) (length s.entries) (length b.scratch) ≡ refused number
      → end_load false guided s b image ≡ refused_end number s b (kind_of (load image))
  not_loaded image number v =
      let same = load_refused false s.shape image s.map s.entries b.scratch number v in
      put_together same.0 same.1 same.2 refl (ap (λ (zeros : List ℕ). with_scratch zeros b) same.3)

-- ---- what was accepted, and what was refused

module _ (m : Manner) (s : Kept) (b : Beside) where
  module _ (may-save : may m.role roles.save ≡ true) where
    not-turned-save : ends m s b save ≡ end_save false m.guided s b
    not-turned-save = ap (λ (u : Bool). end_save u m.guided s b) (ap not may-save)

    -- a state that could be saved is saved, and its image is the same bytes
    pub still-saved : save_verdict_before (state m.guided s b) (length b.scratch) (length b.image) ≡ accepted
        → ends m s b save
        ≡ telling s (saved_to m.guided s b (image_of (state m.guided s b))) (told s.shape Done) []
    still-saved v =
        not-turned-save ∙ saved m.guided s b (still_saves (state m.guided s b) (length b.scratch) (length b.image)
        v)

    pub save-refused-as-before : (number : ℕ) → no_paused_blocks s.entries ≡ true
        → save_verdict_before (state m.guided s b) (length b.scratch) (length b.image) ≡ refused number
        → ends m s b save ≡ refused_end number s b (kind_of save)
    save-refused-as-before number bare v =
        not-turned-save
        ∙ not_saved m.guided s b number
        (saves_as_before (state m.guided s b) (length b.scratch) (length b.image) bare ∙ v)

  module _ (may_load : may m.role roles.load ≡ true) (image : List ℕ) where
    not-turned-load : ends m s b (load image) ≡ end_load false m.guided s b image
    not-turned-load = ap (λ (u : Bool). end_load u m.guided s b image) (ap not may_load)

    -- an image that could be loaded is loaded, to the same state
    pub still_loaded : load_verdict_before image (length s.map) (length s.entries) (length b.scratch) ≡ accepted
        → ends m s b (load image)
        ≡ ending (told (shape_in m.guided s b image) Done) (state_in image).map (state_in image).entries s.card []
        (with_scratch (zeros_for b.scratch) b)
    still_loaded v =
        not-turned-load ∙ loaded m.guided s b image
        (still_loads image (length s.map) (length s.entries) (length b.scratch) v)

    pub load-refused-as-before : (number : ℕ) → no_paused_blocks (state_in image).entries ≡ true
        → load_verdict_before image (length s.map) (length s.entries) (length b.scratch) ≡ refused number
        → ends m s b (load image) ≡ refused_end number s b (kind_of (load image))
    load-refused-as-before number bare v =
        not-turned-load ∙ not_loaded m.guided s b image number
        (loads_as_before image (length s.map) (length s.entries) (length b.scratch) bare ∙ v)
