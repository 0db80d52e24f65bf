-- What a load gives and leaves, by its number.
-- Assumes nothing.
use mathlib.Core.Path.{◌≡◌, refl, sym, ap, ap₂, ◌∙◌}
use mathlib.Core.Bool.{Bool}
use mathlib.Core.List.{List}
use Prim.Native.Nat.{ℕ, zero, suc, ◌+◌, ◌*◌, ◌≤◌, ◌<◌}
use native.Mathlib.Omega.{arith}
use lib.ListN.{length, get_or, replicate}
use lib.Seq.{ext_get_or}
use Rattle.std.specs.Prelude.{Result, Ok, Err, MatchResult}
use Rattle.catalogue_standings.specs.Refusals.{number, number_in}
use Rattle.catalogue_standings.specs.Rows.{Verdict, accepted, refused, settle, row_number}
use Rattle.catalogue_standings.specs.declared.Refusal.{Refusal}
use Rattle.catalogue.specs.Entries.{zeros}
use Rattle.catalogue.specs.declared.Entry.{Entry}
use Rattle.image_frames.specs.Frames.{body_of}
use Rattle.image_frames.specs.Numbers.{words_at}
use Rattle.image.specs.Effects.{Answered, load_result, load_map, load_entries, load_scratch, Loads}
use Rattle.image.specs.Image.{blocks_in, free_count_in, sheets_in, entry_from, entries_from, entries_in, state_in, map_in}
use Rattle.image.specs.Table.{load_verdict}
use Rattle.image.specs.declared.Loaded.{Loaded}
use Rattle.image.proofs.Fitting.{head_to, load_fits_to}
use Rattle.image.proofs.Refused.{not_zero}
use Rattle.image.proofs.Verdicts.{load_accepted, accepted_to}
use Rattle.image_load.proofs.Heads.{map_read}

-- the entries that stand in an image, one by one
entries_long : (bytes : List ℕ) (at c : ℕ) → length (entries_from bytes at c) ≡ c
unfolding entries_from
entries_long bytes at zero = refl
entries_long bytes at (suc c) = ap suc (entries_long bytes (at + 12) c)

entries_at : (bytes : List ℕ) (at c i : ℕ) → i < c → get_or (entries_from bytes at c) i zeros ≡ entry_from bytes (at + 12 * i)
unfolding entries_from
entries_at bytes at zero i h = absurd (omega arith)
entries_at bytes at (suc c) zero h = let e : at ≡ at + 12 * 0 = omega arith in ap (entry_from bytes) e
entries_at bytes at (suc c) (suc i) h =
    let e : at + 12 + 12 * i ≡ at + 12 * suc i = omega arith in
    entries_at bytes (at + 12) c i (omega arith) ∙ ap (entry_from bytes) e

abbrev answer : ℕ → ℕ → ℕ → Answered
answer number n spare = record { number = number; blocks = n; free = spare }

module _ (turned : Bool) (image map : List ℕ) (entries : List Entry) (scratch : List ℕ) where
  abbrev verdict : Verdict
  verdict = load_verdict turned image (length map) (length entries) (length scratch)

  -- a refusal: nothing is changed
  pub refused_load : (r : Refusal) → number r ≡ row_number verdict
      → (answer (number r) 0 0 ≡ load_result turned image map entries scratch)
      × (map ≡ load_map turned image map entries scratch) × (entries ≡ load_entries turned image map entries scratch)
  unfolding load_result load_map load_entries
  refused_load r e = by verdict (number r) e (not_zero r)
    where
      by : (v : Verdict) (k : ℕ) → k ≡ row_number v → (k ≡ 0 → ⊥)
          → (answer k 0 0 ≡ settle v (answer 0 (blocks_in image) (free_count_in image)) (λ number. answer number 0 0))
          × (map ≡ settle v (state_in image).map (λ number. map))
          × (entries ≡ settle v (state_in image).entries (λ number. entries))
      by accepted k e h = absurd (h e)
      by (refused j) k e h = (ap (λ (x : ℕ). answer x 0 0) e, refl, refl)

  pub cleared : (left : List ℕ) → left ≡ replicate (length scratch) 0 → left ≡ load_scratch turned image map entries scratch
  unfolding load_scratch
  cleared left e = e

  -- an accepted load
  module _ (zero : 0 ≡ row_number verdict) where
    is_accepted : verdict ≡ accepted
    is_accepted = load_accepted turned image (length map) (length entries) (length scratch) (sym zero)

    pub lengths : (length entries ≤ 1024) × (length map ≤ 4096)
    lengths =
        let p = accepted_to turned image (length map) (length entries) (length scratch) is_accepted in
        let h = head_to (blocks_in image) (free_count_in image) (sheets_in image) _ p.first in
        let l = load_fits_to (blocks_in image) (sheets_in image) (length map) (length entries) (length scratch) p.lengths in
        (omega (arith, h.count.few, l.entries), omega (arith, h.limits.limit, l.words))

    pub loaded_answer : (n spare : ℕ) → n ≡ blocks_in image → spare ≡ free_count_in image
        → answer 0 n spare ≡ load_result turned image map entries scratch
    unfolding load_result
    loaded_answer n spare en es =
        ap₂ (answer 0) en es
        ∙ ap (λ (v : Verdict). settle v (answer 0 (blocks_in image) (free_count_in image)) (λ k. answer k 0 0))
        (sym is_accepted)

    pub loaded_map : (words : List ℕ) → words ≡ words_at (body_of image) (4 * (3 + 3 * length entries)) (length map)
        → words ≡ load_map turned image map entries scratch
    unfolding load_map
    loaded_map words e =
        let p = accepted_to turned image (length map) (length entries) (length scratch) is_accepted in
        let l = load_fits_to (blocks_in image) (sheets_in image) (length map) (length entries) (length scratch) p.lengths in
        map_read image (blocks_in image) (length entries) (length map) words l.words e
        ∙ ap (map_in image (blocks_in image)) l.entries
        ∙ ap (λ (v : Verdict). settle v (state_in image).map (λ k. map)) (sym is_accepted)

    pub loaded_entries : (now : List Entry) (i : ℕ) → length now ≡ length entries → length entries ≤ i
        → ((j : ℕ) → j < i → get_or now j zeros ≡ entry_from (body_of image) (4 * (3 + 3 * j)))
        → now ≡ load_entries turned image map entries scratch
    unfolding load_entries entries_in
    loaded_entries now i long h read =
        let p = accepted_to turned image (length map) (length entries) (length scratch) is_accepted in
        let l = load_fits_to (blocks_in image) (sheets_in image) (length map) (length entries) (length scratch) p.lengths in
        ext_get_or zeros now (entries_from (body_of image) 12 (length entries))
        (long ∙ sym (entries_long (body_of image) 12 (length entries)))
        (λ j u.
        let a : 4 * (3 + 3 * j) ≡ 12 + 12 * j = omega arith in
        read j (omega arith) ∙ ap (entry_from (body_of image)) a
        ∙ sym (entries_at (body_of image) 12 (length entries) j (omega arith)))
        ∙ ap (entries_from (body_of image) 12) l.entries
        ∙ ap (λ (v : Verdict). settle v (state_in image).entries (λ k. entries)) (sym is_accepted)

  -- what was read of the image: n and the free count, the words and the entries
  pub record Read (loaded : Loaded) (words : List ℕ) (now : List Entry) : Type 0 where
    pub blocks : loaded.blocks ≡ blocks_in image
    pub free : loaded.free ≡ free_count_in image
    pub map_words : words ≡ words_at (body_of image) (4 * (3 + 3 * length entries)) (length map)
    pub long : length now ≡ length entries
    pub listed : (j : ℕ) → j < length entries → get_or now j zeros ≡ entry_from (body_of image) (4 * (3 + 3 * j))

  -- what a load answers, with the scratch cleared: done, what was read is the state of the image, and refused, what was lent
  pub loads : (r : Result Loaded Refusal) (words : List ℕ) (now : List Entry) (left : List ℕ)
      → number_in r ≡ row_number verdict → left ≡ replicate (length scratch) 0
      → MatchResult r (λ loaded. Read loaded words now) (λ _. (words ≡ map) × (now ≡ entries))
      → Loads turned image map entries scratch r words now left
  loads (Ok l) words now left e z read = (
    loaded_answer e l.blocks l.free read.blocks read.free,
    loaded_map e words read.map_words,
    loaded_entries e now (length entries) read.long (omega arith) read.listed,
    cleared left z,
  )
  loads (Err why) words now left e z same =
      let r = refused_load why e in
      (r.0, same.0 ∙ r.1, same.1 ∙ r.2, cleared left z)
