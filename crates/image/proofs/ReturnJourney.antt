-- The two theorems of the saved image, of what save and load give and leave. What a save was given, a load of what it wrote
-- gives back (`saved_loads`). And an image that a load accepts is the image of what the load gives, so that no other image
-- gives it, and a save of it writes that image again (`loaded_only`, `loaded_saves`). The call that comes behind the other is
-- one that is not turned away.
-- Assumes nothing.
use mathlib.Core.Path.{◌≡◌, refl, sym, ap, ap₂, subst, ◌∙◌}
use mathlib.Core.Bool.{Bool, false}
use mathlib.Core.List.{List}
use Prim.Native.Nat.{ℕ, ◌*◌}
use lib.ListN.{length, replicate}
use Rattle.map_blocks.specs.Maps.{words_for}
use Rattle.catalogue_standings.specs.Rows.{Verdict, accepted, refused, settle, row_number}
use Rattle.catalogue.specs.declared.Entry.{Entry}
use Rattle.image_frames.specs.Frames.{Bytes, total_of}
use Rattle.image_soundness.specs.Scratch.{scratch_words}
use Rattle.image_soundness.specs.Sound.{State}
use Rattle.image.specs.Effects.{Answered, save_number, save_image, load_result, load_map, load_entries, load_scratch}
use Rattle.image.specs.Image.{frames_for, image_of, blocks_in, free_count_in, sheets_in, state_in}
use Rattle.image.specs.Table.{save_fits, save_verdict, load_verdict}
use Rattle.image.proofs.Fitting.{to_save_fits, whole_to, head_to}
use Rattle.image.proofs.Journey.{Words, saved_state_lem, saved_accepted, loaded_image, entries_length, map_length}
use Rattle.image.proofs.Verdicts.{to_saved, save_accepted, accepted_to, load_accepted}

abbrev state : ℕ → ℕ → List Entry → List ℕ → State
state n spare entries map = record { blocks = n; spare = spare; entries = entries; map = map }

abbrev loaded : ℕ → ℕ → ℕ → Answered
loaded number n spare = record { number = number; blocks = n; free = spare }

-- a load gives n, the free count, the map and the entries, and leaves zeros in the scratch
pub record Gives (turned : Bool) (n spare : ℕ) (map : List ℕ) (entries : List Entry) (image map' : List ℕ)
    (entries' : List Entry) (scratch' : List ℕ) : Type 0 where
  pub result : load_result turned image map' entries' scratch' ≡ loaded 0 n spare
  pub words : load_map turned image map' entries' scratch' ≡ map
  pub sheets : load_entries turned image map' entries' scratch' ≡ entries
  pub zeros : load_scratch turned image map' entries' scratch' ≡ replicate (length scratch') 0

-- an accepted load
module _ (turned : Bool) (image map : List ℕ) (entries : List Entry) (scratch : List ℕ) where
  abbrev ruling : Verdict
  ruling = load_verdict turned image (length map) (length entries) (length scratch)

  accepted_gives : ruling ≡ accepted → Gives turned (blocks_in image) (free_count_in image) (state_in image).map
      (state_in image).entries image map entries scratch
  unfolding load_result load_map load_entries load_scratch
  accepted_gives v = record {
    result = ap (λ (w : Verdict). settle w (loaded 0 (blocks_in image) (free_count_in image)) (λ number. loaded number 0 0)) v;
    words = ap (λ (w : Verdict). settle w (state_in image).map (λ number. map)) v;
    sheets = ap (λ (w : Verdict). settle w (state_in image).entries (λ number. entries)) v;
    zeros = refl;
  }

  number_accepts : (load_result turned image map entries scratch).number ≡ 0 → ruling ≡ accepted
  unfolding load_result
  number_accepts e = load_accepted turned image (length map) (length entries) (length scratch) (sym (by ruling) ∙ e)
    where
      by : (v : Verdict) → (settle v (loaded 0 (blocks_in image) (free_count_in image)) (λ number. loaded number 0 0)).number
          ≡ row_number v
      by accepted = refl
      by (refused k) = refl

-- what was saved is loaded back
module _ (turned : Bool) (n spare : ℕ) (map : List ℕ) (entries : List Entry) (scratch buffer map' : List ℕ)
    (entries' : List Entry) (scratch' : List ℕ) where
  pub saved_loads : Words map → save_number turned n spare map entries scratch buffer ≡ 0 → length map' ≡ length map
      → length entries' ≡ length entries → length scratch' ≡ scratch_words (length map)
      → Gives false n spare map entries (save_image turned n spare map entries scratch buffer) map' entries' scratch'
  unfolding save_number save_image
  saved_loads words e lm le ls =
      let s : State = state n spare entries map in
      let v : save_verdict turned s (length scratch) (length buffer) ≡ accepted =
      save_accepted turned s (length scratch) (length buffer) e in
      let written : settle (save_verdict turned s (length scratch) (length buffer)) (image_of s) (λ number. buffer)
      ≡ image_of s =
      ap (λ (w : Verdict). settle w (image_of s) (λ number. buffer)) v in
      let same = saved_state_lem turned s (length scratch) (length buffer) words v in
      let a : load_verdict false (image_of s) (length map') (length entries') (length scratch') ≡ accepted =
      ap₂ (λ (x y : ℕ). load_verdict false (image_of s) x y (length scratch')) lm le
      ∙ ap (load_verdict false (image_of s) (length map) (length entries)) ls
      ∙ saved_accepted turned s (length scratch) (length buffer) words v in
      let g = accepted_gives false (image_of s) map' entries' scratch' a in
      subst (λ (i : List ℕ). Gives false n spare map entries i map' entries' scratch') (sym written) (record {
        result = g.result ∙ ap (λ (x : State). loaded 0 x.blocks x.spare) same;
        words = g.words ∙ ap (λ (x : State). x.map) same;
        sheets = g.sheets ∙ ap (λ (x : State). x.entries) same;
        zeros = g.zeros;
      })

-- what is loaded is in no other image
module _ (turned : Bool) (image map : List ℕ) (entries : List Entry) (scratch : List ℕ) (bytes : Bytes image)
    (done : (load_result turned image map entries scratch).number ≡ 0) where
  abbrev given : State
  given = state (load_result turned image map entries scratch).blocks (load_result turned image map entries scratch).free
      (load_entries turned image map entries scratch) (load_map turned image map entries scratch)

  same_given : state_in image ≡ given
  same_given =
      let g = accepted_gives turned image map entries scratch (number_accepts turned image map entries scratch done) in
      sym (ap₂ (λ (x : Answered) (l : List Entry). state x.blocks x.free l (load_map turned image map entries scratch)) g.result
      g.sheets
      ∙ ap (state (blocks_in image) (free_count_in image) (state_in image).entries) g.words)

  pub loaded_only : image_of given ≡ image
  loaded_only = ap image_of (sym same_given) ∙ loaded_image turned image (length map) (length entries) (length scratch) bytes
      (number_accepts turned image map entries scratch done)

  -- a save of it is accepted, and writes the image again
  pub loaded_saves : (other buffer : List ℕ) → length other ≡ scratch_words (length given.map)
      → length buffer ≡ length image
      → (save_number false given.blocks given.spare given.map given.entries other buffer ≡ 0)
      × (save_image false given.blocks given.spare given.map given.entries other buffer ≡ image)
  unfolding save_number save_image
  loaded_saves other buffer lo lb =
      let v = accepts (length other) (length buffer) lo lb in
      (ap row_number v, ap (λ (w : Verdict). settle w (image_of given) (λ number. buffer)) v ∙ loaded_only)
    where
      accepts : (scratchlen bufferlen : ℕ) → scratchlen ≡ scratch_words (length given.map) → bufferlen ≡ length image
          → save_verdict false given scratchlen bufferlen ≡ accepted
      accepts scratchlen bufferlen ls lb =
          let p = accepted_to turned image (length map) (length entries) (length scratch)
          (number_accepts turned image map entries scratch done) in
          let w = whole_to (length image) p.blocks in
          let h = head_to (blocks_in image) (free_count_in image) (sheets_in image) (total_of image) p.first in
          subst (λ (s : State). save_verdict false s scratchlen bufferlen ≡ accepted) same_given
          (to_saved false (state_in image) scratchlen bufferlen (record {
            admitted = refl;
            lengths = ap₂ (λ (x y : ℕ). save_fits (blocks_in image) (free_count_in image) x y scratchlen)
                (entries_length image (sheets_in image)) (map_length image (blocks_in image) (sheets_in image))
                ∙ to_save_fits (blocks_in image) (free_count_in image) (sheets_in image) (words_for (blocks_in image))
                scratchlen
                h.shape h.listed
                (ls ∙ ap (λ (x : State). scratch_words (length x.map)) (sym same_given)
                ∙ ap scratch_words (map_length image (blocks_in image) (sheets_in image)));
            whole = p.whole;
            exact = lb ∙ w.exact ∙ ap (λ (k : ℕ). 512 * k)
                (h.exact ∙ ap (frames_for (blocks_in image)) (sym (entries_length image (sheets_in image))));
          }))
