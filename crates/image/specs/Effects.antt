-- What save and load answer and leave (document 01, "Saved image"). A refusal changes nothing but the scratch, which is all
-- zeros after every save and load.
-- Assumes nothing.
use Rattle.std.specs.Prelude.{◌≡◌, Bool, List, ℕ, Result, Ok, Err, length, replicate}
use Rattle.catalogue_standings.specs.Refusals.{number, number_in}
use Rattle.catalogue_standings.specs.Rows.{settle, row_number}
use Rattle.catalogue_standings.specs.declared.Refusal.{Refusal}
use Rattle.catalogue.specs.declared.Entry.{Entry}
use Rattle.image_soundness.specs.Sound.{State}
use Rattle.image.specs.Image.{image_of, state_in}
use Rattle.image.specs.Table.{save_verdict, load_verdict}
use Rattle.image.specs.declared.Loaded.{Loaded}

-- zeros, as many as the scratch has words
abbrev pub zeros_for : List ℕ → List ℕ
zeros_for scratch = replicate (length scratch) 0

-- Save, of whether it is turned away, n, the free count, the map and the entries, with a scratch and a buffer.
module _ (turned : Bool) (n spare : ℕ) (map : List ℕ) (entries : List Entry) (scratch buffer : List ℕ) where
  abbrev pub lent_state : State
  lent_state = record { blocks = n; spare = spare; entries = entries; map = map }

  unfoldable pub save_number : ℕ
  unfolding save_verdict
  save_number = row_number (save_verdict turned lent_state (length scratch) (length buffer))

  unfoldable pub save_scratch : List ℕ
  save_scratch = zeros_for scratch

  unfoldable pub save_image : List ℕ
  unfolding save_verdict
  save_image = settle (save_verdict turned lent_state (length scratch) (length buffer)) (image_of lent_state) (λ number. buffer)

  abbrev pub Saves : Result (Unit {0}) Refusal → List ℕ → List ℕ → Type 0
  Saves r scratch' buffer' = (number_in r ≡ save_number) × (scratch' ≡ save_scratch) × (buffer' ≡ save_image)

-- What a load answers: 0, n and the free count of the image, or the number of the row.
pub record Answered : Type 0 where
  pub number : ℕ
  pub blocks : ℕ
  pub free : ℕ

abbrev pub answered : Result Loaded Refusal → Answered
answered (Ok loaded) = record { number = 0; blocks = loaded.blocks; free = loaded.free }
answered (Err refusal) = record { number = number refusal; blocks = 0; free = 0 }

-- Load, of whether it is turned away, of an image into a map, a catalogue and a scratch.
module _ (turned : Bool) (image map : List ℕ) (entries : List Entry) (scratch : List ℕ) where
  unfoldable pub load_result : Answered
  unfolding load_verdict
  load_result =
      settle (load_verdict turned image (length map) (length entries) (length scratch))
      (record { number = 0; blocks = (state_in image).blocks; free = (state_in image).spare })
      (λ number. record { number = number; blocks = 0; free = 0 })

  unfoldable pub load_map : List ℕ
  unfolding load_verdict
  load_map = settle (load_verdict turned image (length map) (length entries) (length scratch)) (state_in image).map (λ number.
      map)

  unfoldable pub load_entries : List Entry
  unfolding load_verdict
  load_entries = settle (load_verdict turned image (length map) (length entries) (length scratch)) (state_in image).entries
      (λ number. entries)

  unfoldable pub load_scratch : List ℕ
  load_scratch = zeros_for scratch

  abbrev pub Loads : Result Loaded Refusal → List ℕ → List Entry → List ℕ → Type 0
  Loads r map' entries' scratch' = (answered r ≡ load_result) × (map' ≡ load_map) × (entries' ≡ load_entries)
      × (scratch' ≡ load_scratch)
