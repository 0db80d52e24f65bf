-- The saved image, of the public calls (document 01, "Saved image"; demand 2): what is saved loads back the same
-- (`saved_loads`),
-- an image that load accepts is the only one of its state (`loaded_only`), and a save of that state writes it again
-- (`loaded_saves`). Each is said of `ends`, which the contracts of the methods and of the C functions are read off
-- (Contracts.antt); the laws of the definitions are in Images.antt.
-- Assumes nothing.
use mathlib.Core.Path.{◌≡◌, refl, ap, ◌∙◌}
use mathlib.Core.Bool.{Bool, true, false, not}
use mathlib.Core.List.{List, []}
use Prim.Native.Nat.{ℕ}
use lib.ListN.{length}
use Rattle.catalogue_standings.specs.declared.Answer.TheVariants.{Done}
use Rattle.roles.specs.Roles as roles
use Rattle.roles.specs.Roles.{may}
use Rattle.image_soundness.specs.Scratch.{scratch_words}
use Rattle.image_frames.specs.Frames.{Bytes}
use Rattle.image.specs.Effects.{zeros_for}
use Rattle.image.specs.Image.{image_of}
use Rattle.image.proofs.Journey.{Words}
use Rattle.card.specs.Calls.{Kept, told, is_done, saved_state}
use Rattle.card.specs.Public.{save, load, Manner, Beside, with_scratch, ending, telling, kept_after, end_save, end_load, ends}
use Rattle.card.proofs.Images as images
use Rattle.card.proofs.TurnedAway.{put_together}

-- one who may make a call is not turned away
allowed : (role name : ℕ) → may role name ≡ true → not (may role name) ≡ false
allowed role name e = ap not e

module _ (m : Manner) (s : Kept) (b : Beside) (done : (ends m s b save).outcome.answer ≡ Done) where
  abbrev written : List ℕ
  written = (ends m s b save).beside.image

  -- whatever the load is lent, of the lengths that the image asks for
  pub saved_loads : Words s.map → (other : Manner) (t : Kept) (lent : Beside) → may other.role roles.load ≡ true
      → length t.map ≡ length s.map → length t.entries ≡ length s.entries
      → length lent.scratch ≡ scratch_words (length s.map)
      → ends other t lent (load written)
      ≡ ending (told s.shape Done) s.map s.entries t.card [] (with_scratch (zeros_for lent.scratch) lent)
  saved_loads words other t lent may_load lm le ls =
      let back = images.saved_loads _ s.shape t.shape s.map s.entries b.scratch b.image t.map t.entries
      lent.scratch words (ap (told s.shape) done) lm le ls in
      ap (λ (u : Bool). end_load u other.guided t lent written) (allowed other.role roles.load may_load)
      ∙ put_together back.outcome back.words back.sheets refl
      (ap (λ (zeros : List ℕ). with_scratch zeros lent) back.zeros)

module _ (m : Manner) (s : Kept) (b : Beside) (image : List ℕ) (bytes : Bytes image)
    (done : (ends m s b (load image)).outcome.answer ≡ Done) where
  abbrev loaded : Kept
  loaded = kept_after (ends m s b (load image))

  was_done_lem : is_done (ends m s b (load image)).outcome.answer ≡ true
  was_done_lem = ap is_done done

  pub loaded_only : image_of (saved_state loaded.shape loaded.map loaded.entries) ≡ image
  loaded_only = images.loaded_only _ s.shape image s.map s.entries b.scratch bytes was_done_lem

  pub loaded_saves : (other : Manner) (lent : Beside) → may other.role roles.save ≡ true
      → length lent.scratch ≡ scratch_words (length loaded.map) → length lent.image ≡ length image
      → ends other loaded lent save
      ≡ telling loaded (record { summary = lent.summary; scratch = zeros_for lent.scratch; image = image })
      (told loaded.shape Done) []
  loaded_saves other lent may-save ls li =
      let again = images.loaded_saves _ s.shape image s.map s.entries b.scratch bytes was_done_lem lent.scratch
      lent.image ls li in
      ap (λ (u : Bool). end_save u other.guided loaded lent) (allowed other.role roles.save may-save)
      ∙ put_together again.0 refl refl refl
      (λ x. record {
        summary = lent.summary;
        scratch = images.scratch_zeros false loaded.shape loaded.map loaded.entries lent.scratch lent.image x;
        image = again.1 x;
      })
