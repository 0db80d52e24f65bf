-- The image of a state that save accepts holds that state, and load accepts it; an image that load accepts is the image of the
-- state that stands in it.
-- Assumes nothing.
use mathlib.Core.Path.{◌≡◌, refl, sym, ap, ap₂, ◌∙◌}
use mathlib.Core.Bool.{Bool, true, false}
use mathlib.Core.List.{List, [], ◌∷◌, ◌++◌, append_assoc}
use Prim.Native.Nat.{ℕ, zero, suc, ◌+◌, ◌-◌, ◌*◌, ◌≤◌, ◌<◌}
use native.Mathlib.Omega.{arith}
use lib.ListN.{length, get_or, take, drop, replicate, length-append, length-replicate, length-drop, take-append-drop}
use lib.Seq.{take-add, drop_at, drop-drop}
use Rattle.map_blocks.specs.Maps.{words_for}
use Rattle.map_blocks.specs.Blocks.{free}
use Rattle.block_bytes.specs.Numbers.{bytes4, number_at}
use Rattle.block_seals.specs.Sealed.{blank}
use Rattle.block_seals.proofs.Blank.{blank_zeros, blank_is_zeros}
use Rattle.block_bytes.proofs.Numbers.{bytes4_length, number_at_lem}
use Rattle.catalogue_standings.specs.Rows.{accepted}
use Rattle.catalogue_standings.specs.Limits.{shape_fits}
use Rattle.catalogue.specs.declared.Entry.{Entry}
use Rattle.image_frames.specs.Frames.{Bytes, frames, body_of, total_of, framed, sealed_image}
use Rattle.image_frames.specs.Numbers.{word_bytes, words_at}
use Rattle.image_frames.proofs.Bodies.{body_length}
use Rattle.image_frames.proofs.Framing.{frames_length, frames_total, frames_body, frames_hold, framed_back, bytes_back}
use Rattle.image_frames.proofs.Recovered.{body_bytes, words_back, words_stored}
use Rattle.image_frames.proofs.Stored.{word_bytes_length, words_at_length}
use Rattle.image_soundness.specs.Scratch.{scratch_words}
use Rattle.image_soundness.specs.Sound.{State, sound, undamaged}
use Rattle.image_soundness.proofs.Covers.{head_undamaged, tail_undamaged}
use Rattle.image_soundness.proofs.Damage.{extent_inside, mark_small}
use Rattle.image_soundness.proofs.WhenSound.{sound_to}
use Rattle.image.specs.Image.{content_length, frames_for, entry_bytes, body, image_of, entries_from, blocks_in, free_count_in}
use Rattle.image.specs.Image.{sheets_in, entries_in, map_in, state_in, filled}
use Rattle.image.specs.Table.{save_verdict, head_fits, load_fits, load_verdict}
use Rattle.image.proofs.Fitting.{SaveFits, save_fits_to, whole_to, to_whole, Head, head_to, to_head, to_load_fits}
use Rattle.image.proofs.Verdicts.{Saved, saved_to_lem, Accepted, accepted_to, to_accepted}

-- every element fits a 64-bit word, as those of a map do
abbrev pub Words : List ℕ → Type 0
Words words = (i : ℕ) → get_or words i 0 < 18446744073709551616

pub entry_bytes_length : (es : List Entry) → length (entry_bytes es) ≡ 12 * length es
unfolding entry_bytes bytes4
entry_bytes_length [] = refl
entry_bytes_length (e ∷ es) = let h = entry_bytes_length es in omega arith

entries_from_length : (bytes : List ℕ) (at c : ℕ) → length (entries_from bytes at c) ≡ c
unfolding entries_from
entries_from_length bytes at zero = refl
entries_from_length bytes at (suc c) = ap suc (entries_from_length bytes (at + 12) c)

pub entries_length : (image : List ℕ) (c : ℕ) → length (entries_in image c) ≡ c
unfolding entries_in
entries_length image c = entries_from_length (body_of image) 12 c

pub map_length : (image : List ℕ) (n c : ℕ) → length (map_in image n c) ≡ words_for n
unfolding map_in
map_length image n c = words_at_length (body_of image) (12 + 12 * c) (words_for n)

-- ---- entries that are stored, and the bytes of entries that are read

abbrev entry : ℕ → ℕ → ℕ → Entry
entry m s l = record { mark = m; start = s; length = l }

entries_stored : (n : ℕ) (f : ℕ → Bool) (p : List ℕ) (es : List Entry) (q : List ℕ) (at : ℕ) → n ≤ 262144
    → undamaged n f es ≡ true → length p ≡ at
    → entries_from (p ++ (entry_bytes es ++ q)) at (length es) ≡ es
unfolding entry_bytes entries_from
entries_stored n f p [] q at h u e = refl
entries_stored n f p (x ∷ es) q at h u e =
    let d = head_undamaged n f x es u in
    let i = extent_inside n x f d in
    let k = mark_small n x f d in
    let m : List ℕ = bytes4 x.mark in
    let s : List ℕ = bytes4 x.start in
    let l : List ℕ = bytes4 x.length in
    let rest : List ℕ = entry_bytes es ++ q in
    let lm = bytes4_length x.mark in
    let ls = bytes4_length x.start in
    let ll = bytes4_length x.length in
    let l1 = length-append p m in
    let l2 = length-append (p ++ m) s in
    let l3 = length-append ((p ++ m) ++ s) l in
    let all : p ++ ((((m ++ s) ++ l) ++ entry_bytes es) ++ q) ≡ p ++ (m ++ (s ++ (l ++ rest))) = simp append_assoc in
    let b1 : p ++ (m ++ (s ++ (l ++ rest))) ≡ (p ++ m) ++ (s ++ (l ++ rest)) = sym (append_assoc p m (s ++ (l ++ rest))) in
    let b2 : p ++ (m ++ (s ++ (l ++ rest))) ≡ ((p ++ m) ++ s) ++ (l ++ rest) = b1 ∙ sym (append_assoc (p ++ m) s (l ++ rest)) in
    let b3 : p ++ (m ++ (s ++ (l ++ rest))) ≡ (((p ++ m) ++ s) ++ l) ++ rest = b2 ∙ sym (append_assoc ((p ++ m) ++ s) l rest) in
    let e0 : number_at (p ++ (m ++ (s ++ (l ++ rest)))) at ≡ x.mark =
    number_at_lem p (s ++ (l ++ rest)) x.mark at e (omega arith) in
    let e1 : number_at (p ++ (m ++ (s ++ (l ++ rest)))) (at + 4) ≡ x.start =
    ap (λ (b : List ℕ). number_at b (at + 4)) b1 ∙ number_at_lem (p ++ m) (l ++ rest) x.start (at + 4) (omega arith)
    (omega arith) in
    let e2 : number_at (p ++ (m ++ (s ++ (l ++ rest)))) (at + 8) ≡ x.length =
    ap (λ (b : List ℕ). number_at b (at + 8)) b2 ∙ number_at_lem ((p ++ m) ++ s) rest x.length (at + 8) (omega arith)
    (omega arith) in
    ap (λ (b : List ℕ). entry (number_at b at) (number_at b (at + 4)) (number_at b (at + 8))
    ∷ entries_from b (at + 12) (length es))
    all
    ∙ ap₂ (λ (y : Entry) (ys : List Entry). y ∷ ys)
    (ap₂ (λ (a b : ℕ). entry a b (number_at (p ++ (m ++ (s ++ (l ++ rest)))) (at + 8))) e0 e1
    ∙ ap (entry x.mark x.start) e2)
    (ap (λ (b : List ℕ). entries_from b (at + 12) (length es)) b3
    ∙ entries_stored n f (((p ++ m) ++ s) ++ l) es q (at + 12) h (tail_undamaged n f x es u) (omega arith))

entries_back : (bytes : List ℕ) (at c : ℕ) → Bytes bytes → at + 12 * c ≤ length bytes
    → entry_bytes (entries_from bytes at c) ≡ take (12 * c) (drop at bytes)
unfolding entry_bytes entries_from
entries_back bytes at zero small h = refl
entries_back bytes at (suc c) small h =
    let e : 4 + (4 + (4 + 12 * c)) ≡ 12 * suc c = omega arith in
    let a8 : at + 4 + 4 ≡ at + 8 = omega arith in
    let a12 : at + 8 + 4 ≡ at + 12 = omega arith in
    let m : List ℕ = bytes4 (number_at bytes at) in
    let s : List ℕ = bytes4 (number_at bytes (at + 4)) in
    let l : List ℕ = bytes4 (number_at bytes (at + 8)) in
    let rest : List ℕ = entry_bytes (entries_from bytes (at + 12) c) in
    let d4 : drop (at + 4) bytes ≡ drop 4 (drop at bytes) = sym (drop-drop 4 at bytes) in
    let d8 : drop (at + 8) bytes ≡ drop 4 (drop 4 (drop at bytes)) = ap (λ (x : ℕ). drop x bytes) (sym a8)
    ∙ sym (drop-drop 4 (at + 4) bytes) ∙ ap (drop 4) d4 in
    let d12 : drop (at + 12) bytes ≡ drop 4 (drop 4 (drop 4 (drop at bytes))) = ap (λ (x : ℕ). drop x bytes) (sym a12)
    ∙ sym (drop-drop 4 (at + 8) bytes) ∙ ap (drop 4) d8 in
    let shape : ((m ++ s) ++ l) ++ rest ≡ m ++ (s ++ (l ++ rest)) = simp append_assoc in
    shape
    ∙ ap₂ ◌++◌ (bytes_back bytes at small (omega arith))
    (ap₂ ◌++◌ (bytes_back bytes (at + 4) small (omega arith) ∙ ap (take 4) d4)
    (ap₂ ◌++◌ (bytes_back bytes (at + 8) small (omega arith) ∙ ap (take 4) d8)
    (entries_back bytes (at + 12) c small (omega arith) ∙ ap (take (12 * c)) d12)
    ∙ sym (take-add 4 (12 * c) (drop 4 (drop 4 (drop at bytes)))))
    ∙ sym (take-add 4 (4 + 12 * c) (drop 4 (drop at bytes))))
    ∙ sym (take-add 4 (4 + (4 + 12 * c)) (drop at bytes)) ∙ ap (λ (x : ℕ). take x (drop at bytes)) e

abbrev state : ℕ → ℕ → List Entry → List ℕ → State
state n spare entries map = record { blocks = n; spare = spare; entries = entries; map = map }

-- ---- an image that load accepts

module _ (turned : Bool) (image : List ℕ) (maplen count scratchlen : ℕ) (small : Bytes image)
    (v : load_verdict turned image maplen count scratchlen ≡ accepted) where
  facts : Accepted turned image maplen count scratchlen
  facts = accepted_to turned image maplen count scratchlen v

  abbrev n : ℕ
  n = blocks_in image

  abbrev c : ℕ
  c = sheets_in image

  abbrev b : List ℕ
  b = body_of image

  abbrev entries : List Entry
  entries = entries_in image c

  abbrev map : List ℕ
  map = map_in image n c

  head : Head n (free_count_in image) c (total_of image)
  head = head_to n (free_count_in image) c (total_of image) facts.first

  long : length b ≡ 496 * frames_for n c
  long = body_length image ∙ ap (λ (k : ℕ). 496 * k) head.exact

  bytes : Bytes b
  bytes = body_bytes image small

  first_bytes : bytes4 n ++ bytes4 (free_count_in image) ++ bytes4 c ≡ take 12 b
  unfolding blocks_in free_count_in sheets_in
  first_bytes =
      let l = long in
      ap₂ (λ (x y : List ℕ). (x ++ y) ++ bytes4 (number_at b 8)) (bytes_back b 0 bytes (omega arith))
      (bytes_back b 4 bytes (omega arith))
      ∙ ap (λ (x : List ℕ). (take 4 (drop 0 b) ++ take 4 (drop 4 b)) ++ x) (bytes_back b 8 bytes (omega arith))
      ∙ ap (λ (x : List ℕ). x ++ take 4 (drop 8 b)) (sym (take-add 4 4 b)) ∙ sym (take-add 8 4 b)

  entry_bytes_lem : entry_bytes entries ≡ take (12 * c) (drop 12 b)
  unfolding entries_in
  entry_bytes_lem = let l = long in entries_back b 12 c bytes (omega arith)

  word_bytes_lem : word_bytes map ≡ take (8 * words_for n) (drop (12 + 12 * c) b)
  unfolding map_in
  word_bytes_lem = let l = long in words_back b (12 + 12 * c) (words_for n) bytes (omega arith)

  fill_bytes : replicate (496 * frames_for n c - content_length n c) 0 ≡ drop (content_length n c) b
  unfolding filled
  fill_bytes =
      let l : length (drop (content_length n c) b) ≡ 496 * frames_for n c - content_length n c = length-drop
      (content_length n c) b
      ∙ ap (λ (k : ℕ). k - content_length n c) long in
      sym (blank_is_zeros (drop (content_length n c) b) facts.fill ∙ ap (λ (k : ℕ). replicate k 0) l)

  body_back : body (state_in image) ≡ b
  unfolding body
  body_back =
      ap (λ (k : ℕ). (bytes4 n ++ bytes4 (free_count_in image) ++ bytes4 k) ++ entry_bytes entries ++ word_bytes map
      ++ replicate (496 * frames_for n k - content_length n k) 0) (entries_length image c)
      ∙ ap₂ (λ (x y : List ℕ). x ++ y ++ word_bytes map ++ replicate (496 * frames_for n c - content_length n c) 0) first_bytes
      entry_bytes_lem
      ∙ ap₂ (λ (x y : List ℕ). x ++ y ++ replicate (496 * frames_for n c - content_length n c) 0)
      (sym (take-add 12 (12 * c) b)) word_bytes_lem
      ∙ ap₂ ◌++◌ (sym (take-add (12 + 12 * c) (8 * words_for n) b)) fill_bytes
      ∙ take-append-drop (content_length n c) b

  -- it is the image of the state that it gives
  pub loaded_image : image_of (state_in image) ≡ image
  unfolding image_of sealed_image
  loaded_image =
      let w = whole_to (length image) facts.blocks in
      let t : frames_for n (length entries) ≡ total_of image = ap (frames_for n) (entries_length image c) ∙ sym head.exact in
      ap₂ (λ (k : ℕ) (l : List ℕ). frames k 0 k l) t body_back ∙ framed_back image small w.exact facts.frames

-- ---- a state that save accepts

module _ (turned : Bool) (s : State) (scratchlen bufferlen : ℕ) (words : Words s.map)
    (v : save_verdict turned s scratchlen bufferlen ≡ accepted) where
  saved : Saved turned s scratchlen bufferlen
  saved = saved_to_lem turned s scratchlen bufferlen v

  fit : SaveFits s.blocks s.spare (length s.entries) (length s.map) scratchlen
  fit = save_fits_to s.blocks s.spare (length s.entries) (length s.map) scratchlen saved.lengths

  abbrev N : ℕ
  N = s.blocks

  abbrev C : ℕ
  C = length s.entries

  abbrev T : ℕ
  T = frames_for N C

  abbrev E : List ℕ
  E = entry_bytes s.entries

  abbrev M : List ℕ
  M = word_bytes s.map

  abbrev Z : List ℕ
  Z = replicate (496 * T - content_length N C) 0

  abbrev H : List ℕ
  H = bytes4 N ++ bytes4 s.spare ++ bytes4 C

  H-length : length H ≡ 12
  H-length = omega (
    arith,
    length-append (bytes4 N ++ bytes4 s.spare) (bytes4 C),
    length-append (bytes4 N) (bytes4 s.spare),
    bytes4_length N,
    bytes4_length s.spare,
    bytes4_length C,
  )

  HE-length : length (H ++ E) ≡ 12 + 12 * C
  HE-length = omega (arith, length-append H E, H-length, entry_bytes_length s.entries)

  HEM-length : length (H ++ E ++ M) ≡ content_length N C
  HEM-length = let w = fit.limits.words in omega (arith, length-append (H ++ E) M, HE-length, word_bytes_length s.map)

  saved_body : body s ≡ H ++ E ++ M ++ Z
  unfolding body
  saved_body = refl

  body_long : length (body s) ≡ 496 * T
  body_long = ap length saved_body ∙ omega (
    arith,
    length-append (H ++ E ++ M) Z,
    HEM-length,
    length-replicate {A = ℕ} (496 * T - content_length N C) 0,
  )

  abbrev image : List ℕ
  image = image_of s

  image_body : body_of image ≡ H ++ E ++ M ++ Z
  unfolding image_of
  image_body = frames_body T (body s) body_long ∙ saved_body

  image_total : total_of image ≡ T
  unfolding image_of
  image_total = frames_total T (body s) body_long

  image_length : length image ≡ 512 * T
  unfolding image_of
  image_length = frames_length T 0 T (body s) body_long

  few : T ≤ 91
  few = omega (arith, fit.limits.limit, fit.count.few)

  image_framed : framed image ≡ true
  unfolding image_of
  image_framed = frames_hold T (body s) body_long (omega (arith, few))

  -- what stands in the image
  image_blocks : blocks_in image ≡ N
  unfolding blocks_in
  image_blocks =
      let a : H ++ E ++ M ++ Z ≡ bytes4 N ++ (bytes4 s.spare ++ (bytes4 C ++ (E ++ (M ++ Z)))) = simp append_assoc in
      ap (λ (l : List ℕ). number_at l 0) (image_body ∙ a)
      ∙ number_at_lem [] (bytes4 s.spare ++ (bytes4 C ++ (E ++ (M ++ Z)))) N 0 refl (omega (arith, fit.limits.limit))

  image_spare : free_count_in image ≡ s.spare
  unfolding free_count_in
  image_spare =
      let a : H ++ E ++ M ++ Z ≡ bytes4 N ++ (bytes4 s.spare ++ (bytes4 C ++ (E ++ (M ++ Z)))) = simp append_assoc in
      ap (λ (l : List ℕ). number_at l 4) (image_body ∙ a)
      ∙ number_at_lem (bytes4 N) (bytes4 C ++ (E ++ (M ++ Z))) s.spare 4 (bytes4_length N)
      (omega (arith, fit.limits.limit, fit.limits.spare))

  image_sheets : sheets_in image ≡ C
  unfolding sheets_in
  image_sheets =
      let a : H ++ E ++ M ++ Z ≡ (bytes4 N ++ bytes4 s.spare) ++ (bytes4 C ++ (E ++ (M ++ Z))) = simp append_assoc in
      ap (λ (l : List ℕ). number_at l 8) (image_body ∙ a)
      ∙ number_at_lem (bytes4 N ++ bytes4 s.spare) (E ++ (M ++ Z)) C 8
      (omega (arith, length-append (bytes4 N) (bytes4 s.spare), bytes4_length N, bytes4_length s.spare))
      (omega (arith, fit.count.few))

  image_entries : entries_in image C ≡ s.entries
  unfolding entries_in
  image_entries =
      let a : H ++ E ++ M ++ Z ≡ H ++ (E ++ (M ++ Z)) = append_assoc (H ++ E) M Z ∙ append_assoc H E (M ++ Z) in
      ap (λ (l : List ℕ). entries_from l 12 C) (image_body ∙ a)
      ∙ entries_stored N (free s.map) H s.entries (M ++ Z) 12 fit.limits.limit
      (sound_to s saved.whole).whole H-length

  image_map : map_in image N C ≡ s.map
  unfolding map_in
  image_map =
      let a : H ++ E ++ M ++ Z ≡ (H ++ E) ++ (M ++ Z) = append_assoc (H ++ E) M Z in
      ap₂ (λ (l : List ℕ) (k : ℕ). words_at l (12 + 12 * C) k) (image_body ∙ a) (sym fit.limits.words)
      ∙ words_stored (H ++ E) s.map Z (12 + 12 * C) HE-length words

  image_filled : filled image N C ≡ true
  unfolding filled
  image_filled =
      ap (λ (l : List ℕ). blank (drop (content_length N C) l)) image_body
      ∙ ap blank (drop_at (H ++ E ++ M) Z (content_length N C) HEM-length) ∙ blank_zeros (496 * T - content_length N C)

  -- the state that stands in the image is the one saved
  pub saved_state_lem : state_in image ≡ s
  saved_state_lem =
      ap₂ (λ (x y : ℕ). state x (free_count_in image) (entries_in image y) (map_in image x y)) image_blocks image_sheets
      ∙ ap₂ (λ (x : ℕ) (l : List Entry). state N x l (map_in image N C)) image_spare image_entries
      ∙ ap (state N s.spare s.entries) image_map

  -- and a load that is not turned away accepts it
  pub saved_accepted : load_verdict false image (length s.map) C (scratch_words (length s.map)) ≡ accepted
  saved_accepted =
      let w = fit.limits.words in
      to_accepted false image (length s.map) C (scratch_words (length s.map)) (record {
        admitted = refl;
        blocks =
            to_whole (length image)
            (record {
              exact = omega (arith, image_length);
              some = omega (arith, image_length);
              few = omega (arith, image_length, few);
            });
        frames = image_framed;
        first = ap₂ (λ (x y : ℕ). head_fits x (free_count_in image) y (total_of image)) image_blocks image_sheets
            ∙ ap₂ (λ (x t : ℕ). head_fits N x C t) image_spare image_total
            ∙ to_head N s.spare C T (ap (shape_fits N s.spare) (sym w) ∙ fit.shape) fit.listed refl;
        lengths = ap₂ (λ (x y : ℕ). load_fits x y (length s.map) C (scratch_words (length s.map))) image_blocks image_sheets
            ∙ to_load_fits N C (length s.map) C (scratch_words (length s.map))
            (record { words = w; entries = refl; scratch = ap scratch_words w });
        whole = ap sound saved_state_lem ∙ saved.whole;
        fill = ap₂ (filled image) image_blocks image_sheets ∙ image_filled;
      })
