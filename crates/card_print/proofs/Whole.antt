-- In a text of 32,768 bytes or more, what is to be printed of an image is written whole, and no byte of it is cut off. Of the
-- image of a state that can be saved, that is the text of the state.
-- Assumes nothing.
use Prim.Native.Nat.{ℕ, zero, suc, ◌*◌, ◌≤◌, ◌<◌}
use mathlib.Core.Path.{◌≡◌, refl, ap, subst, ◌∙◌}
use mathlib.Core.Bool.{Bool, true, false}
use mathlib.Core.List.{List, [], ◌∷◌}
use native.Mathlib.Omega.{arith}
use lib.ListN.{length}
use Rattle.map_blocks.specs.Blocks.{free}
use Rattle.survey_bytes.specs.Runs.{head_of, longest_of}
use Rattle.survey_bytes.proofs.Bytes.{runs_length}
use Rattle.survey.specs.Survey.{blocks, counts_of}
use Rattle.catalogue.specs.declared.Entry.{Entry}
use Rattle.catalogue_standings.specs.Rows.{Row, row, Verdict, accepted, refused, first_of, settle, row_number}
use Rattle.image_soundness.specs.Scratch.{scratch_words}
use Rattle.image_soundness.specs.Sound.{State, undamaged, sound}
use Rattle.image_soundness.proofs.Covers.{head_undamaged, tail_undamaged}
use Rattle.image_soundness.proofs.Damage.{extent_inside}
use Rattle.image_soundness.proofs.WhenSound.{sound_to}
use Rattle.image_frames.specs.Frames.{total_of}
use Rattle.image.specs.Image.{frames_for, image_of, blocks_in, free_count_in, sheets_in, state_in}
use Rattle.image.specs.Table.{save_fits, save_verdict, load_rows, load_verdict}
use Rattle.image.proofs.Fitting.{head_to}
use Rattle.image.proofs.Journey.{Words, entries_length, saved_state_lem, saved_accepted}
use Rattle.image.proofs.Verdicts.{accepted_to, to_saved}
use Rattle.roles.specs.Roles as names
use Rattle.roles.specs.Roles.{turned_away, service, may, service_may}
use Rattle.card.specs.declared.Shape.{Shape}
use Rattle.printer.specs.Text.{AllNumbers, Printable, state_text, refusal_text}
use Rattle.printer.proofs.Room.{card_whole, refusal_whole}
use Rattle.printer.specs.Writing.{Writes}
use Rattle.card_print.specs.Printed.{printed_of, Prints, room, Begins}

-- ---- the number of a refusal

small_row : (number : ℕ) (test : Bool) (rows : List Row) → number ≤ 21 → row_number (first_of rows) ≤ 21
    → row_number (first_of (row number test ∷ rows)) ≤ 21
unfolding first_of
small_row number true rows n f = n
small_row number false rows n f = f

no_row : row_number (first_of []) ≤ 21
unfolding first_of
no_row = omega arith

-- no row of load has a number above 21
load_number : (turned : Bool) (image : List ℕ) (maplen count scratchlen : ℕ)
    → row_number (load_verdict turned image maplen count scratchlen) ≤ 21
unfolding load_verdict load_rows
load_number turned image maplen count scratchlen =
    small_row 21 _ _ (omega arith) (small_row 12 _ _ (omega arith) (small_row 13 _ _ (omega arith)
    (small_row 14 _ _ (omega arith) (small_row 1 _ _ (omega arith) (small_row 14 _ [] (omega arith) no_row)))))

-- ---- the numbers of a sound state

head_length : (xs : List Bool) → head_of xs ≤ length xs
unfolding head_of
head_length [] = omega arith
head_length (true ∷ xs) = omega (arith, head_length xs)
head_length (false ∷ xs) = omega arith

-- no run of a list is longer than the list
longest_length : (xs : List Bool) → longest_of xs ≤ length xs
unfolding longest_of
longest_length [] = omega arith
longest_length (x ∷ xs) = omega (arith, head_length (x ∷ xs), longest_length xs)

blocks_length : (f : ℕ → Bool) (s m : ℕ) → length (blocks f s m) ≡ m
unfolding blocks
blocks_length f s zero = refl
blocks_length f s (suc m) = ap suc (blocks_length f (suc s) m)

-- the survey of n blocks counts at most n runs, and none longer than n
counts_small : (f : ℕ → Bool) (n : ℕ) → ((counts_of f n).runs ≤ n) × ((counts_of f n).longest ≤ n)
unfolding counts_of
counts_small f n = (
  omega (arith, runs_length (blocks f 0 n), blocks_length f 0 n),
  omega (arith, longest_length (blocks f 0 n), blocks_length f 0 n),
)

-- an extent that is not damaged lies inside the card
numbers_inside : (n : ℕ) (f : ℕ → Bool) (es : List Entry) → n < 4294967296 → undamaged n f es ≡ true → AllNumbers es
numbers_inside n f [] h u i = (omega arith, omega arith)
numbers_inside n f (e ∷ es) h u zero = let l = extent_inside n e f (head_undamaged n f e es u) in
    (omega (arith, l), omega (arith, l))
numbers_inside n f (e ∷ es) h u (suc i) = numbers_inside n f es h (tail_undamaged n f e es u) i

printable : (s : State) → s.blocks ≤ 262144 → s.spare ≤ s.blocks → length s.entries ≤ 1024 → sound s ≡ true
    → Printable s.blocks s.spare (counts_of (free s.map) s.blocks) s.entries
printable s n spare c whole =
    let counts = counts_small (free s.map) s.blocks in
    record {
      blocks = omega (arith, n);
      free = omega (arith, n, spare);
      runs = omega (arith, n, counts.0);
      longest = omega (arith, n, counts.1);
      sheets = c;
      numbers = numbers_inside s.blocks (free s.map) s.entries (omega (arith, n)) (sound_to s whole).whole;
    }

-- ---- what is printed of an image

module _ (turned : Bool) (image : List ℕ) (maplen count scratchlen : ℕ) where
  abbrev card : List ℕ
  card = state_text (state_in image).blocks (state_in image).spare (state_in image).map (state_in image).entries

  loaded_printable : load_verdict turned image maplen count scratchlen ≡ accepted
      → Printable (state_in image).blocks (state_in image).spare (counts_of (free (state_in image).map) (state_in image).blocks)
      (state_in image).entries
  loaded_printable e =
      let a = accepted_to turned image maplen count scratchlen e in
      let h = head_to (blocks_in image) (free_count_in image) (sheets_in image) (total_of image) a.first in
      printable (state_in image) h.limits.limit h.limits.spare
      (omega (arith, h.count.few, entries_length image (sheets_in image))) a.whole

  pub printed_whole : (text text' : List ℕ) (r : ℕ) → room ≤ length text
      → Writes (printed_of turned image maplen count scratchlen) text 0 r text'
      → Begins (printed_of turned image maplen count scratchlen) r text'
  printed_whole text text' r h w = go (load_verdict turned image maplen count scratchlen) refl w
    where
      go : (v : Verdict) → load_verdict turned image maplen count scratchlen ≡ v
          → Writes (settle v card refusal_text) text 0 r text'
          → Begins (settle v card refusal_text) r text'
      go accepted e w =
          card_whole (state_in image).blocks (state_in image).spare
          (counts_of (free (state_in image).map) (state_in image).blocks) (state_in image).entries text text' r
          (loaded_printable e) (omega (arith, h)) w
      go (refused number) e w =
          let l : number ≤ 21 = subst (λ (v : Verdict). row_number v ≤ 21) e (load_number turned image maplen count scratchlen)
          in
          refusal_whole number text text' r (omega (arith, l)) (omega (arith, h)) w

-- in the words of the contract of `print_image`
pub prints_whole : (shape : Shape) (role : ℕ) (image map : List ℕ) (entries : List Entry) (scratch text : List ℕ) (r : ℕ) (map'
    : List ℕ)
    (entries' : List Entry) (scratch' text' : List ℕ)
    → room ≤ length text → Prints shape role image map entries scratch text r map' entries' scratch' text'
    → Begins (printed_of (turned_away role names.load) image (length map) (length entries) (length scratch)) r text'
prints_whole shape role image map entries scratch text r map' entries' scratch' text' h w =
    printed_whole (turned_away role names.load) image (length map) (length entries) (length scratch) text text' r h w.0

-- the printer loads as service, which is not turned away
pub service_loads : turned_away service names.load ≡ false
unfolding may service_may
service_loads = refl

-- ---- what is printed of the image of a state that can be saved

module _ (s : State) (words : Words s.map)
    (fit : save_fits s.blocks s.spare (length s.entries) (length s.map) (scratch_words (length s.map)) ≡ true)
    (whole : sound s ≡ true) where
  abbrev printed : List ℕ
  printed = printed_of false (image_of s) (length s.map) (length s.entries) (scratch_words (length s.map))

  abbrev text_of : State → List ℕ
  text_of s = state_text s.blocks s.spare s.map s.entries

  abbrev image_length : ℕ
  image_length = 512 * frames_for s.blocks (length s.entries)

  saves : save_verdict false s (scratch_words (length s.map)) image_length ≡ accepted
  saves = to_saved false s (scratch_words (length s.map)) image_length (record {
    admitted = refl;
    lengths = fit;
    whole = whole;
    exact = refl;
  })

  pub saved_printed : printed ≡ text_of s
  saved_printed =
      ap (λ (v : Verdict). settle v (text_of (state_in (image_of s))) refusal_text)
      (saved_accepted false s (scratch_words (length s.map)) image_length words saves)
      ∙ ap text_of (saved_state_lem false s (scratch_words (length s.map)) image_length words saves)

  -- so its text stands there, whole
  pub saved_whole : (text text' : List ℕ) (r : ℕ) → room ≤ length text → Writes printed text 0 r text'
      → Begins (text_of s) r text'
  saved_whole text text' r h w =
      subst (λ (bytes : List ℕ). Begins bytes r text') saved_printed
      (printed_whole false (image_of s) (length s.map) (length s.entries) (scratch_words (length s.map)) text text' r h
      w)
