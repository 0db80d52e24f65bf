-- What the writing of an image comes to: the image of the state. And what a save leaves, by its number.
-- Assumes nothing.
use mathlib.Core.Path.{◌≡◌, refl, sym, ap, ap₂, subst, ◌∙◌}
use mathlib.Core.Bool.{Bool}
use mathlib.Core.List.{List, [], ◌∷◌, ◌++◌, append_assoc, append-nil}
use Prim.Native.Nat.{ℕ, ◌+◌, ◌-◌, ◌*◌, ◌/◌, ◌≤◌, ◌<◌}
use native.Mathlib.Numerals.{add-one}
use native.Mathlib.Omega.{arith}
use lib.ListN.{length, get_or, take, replicate, length-append, length-replicate}
use lib.Seq.{take-suc, take_all, length-take-le}
use Rattle.std.specs.Prelude.{Result, Ok, Err, MatchResult}
use Rattle.map_blocks.specs.Maps.{words_for}
use Rattle.block_bytes.specs.Numbers.{bytes4}
use Rattle.block_bytes.proofs.Numbers.{bytes4_length}
use Rattle.catalogue.specs.Entries.{zeros}
use Rattle.catalogue.specs.declared.Entry.{Entry}
use Rattle.image_frames.specs.Frames.{frames, body_of, total_of, sealed_image}
use Rattle.block_bytes.specs.Replaced.{replaced}
use Rattle.image_frames.specs.Numbers.{with_number, word_bytes}
use Rattle.image_frames.proofs.Bodies.{body_length}
use Rattle.block_bytes.proofs.Replaced.{replaced_all, replaced_more}
use Rattle.image_frames.proofs.Stored.{Written, written_none, written_number, word_bytes_length}
use Rattle.image_soundness.specs.Sound.{State}
use Rattle.catalogue_standings.specs.Refusals.{number, number_in}
use Rattle.catalogue_standings.specs.Rows.{Verdict, accepted, refused, settle, row_number}
use Rattle.catalogue_standings.specs.declared.Refusal.{Refusal}
use Rattle.image.specs.Effects.{save_number, save_scratch, save_image, Saves}
use Rattle.image.specs.Table.{save_verdict}
use Rattle.image.proofs.Fitting.{save_fits_to}
use Rattle.image.proofs.Refused.{not_zero}
use Rattle.image.proofs.Verdicts.{saved_to_lem, save_accepted}
use Rattle.image.specs.Image.{content_length, frames_for, entry_bytes, body, image_of}
use Rattle.image.proofs.Journey.{entry_bytes_length}

-- ---- the entries, written behind what stands there

entry_bytes_append : (xs ys : List Entry) → entry_bytes (xs ++ ys) ≡ entry_bytes xs ++ entry_bytes ys
unfolding entry_bytes
entry_bytes_append [] ys = refl
entry_bytes_append (x ∷ xs) ys =
    ap (λ (l : List ℕ). (bytes4 x.mark ++ bytes4 x.start ++ bytes4 x.length) ++ l) (entry_bytes_append xs ys)
    ∙ sym (append_assoc (bytes4 x.mark ++ bytes4 x.start ++ bytes4 x.length) (entry_bytes xs) (entry_bytes ys))

abbrev pub with_entry : List ℕ → ℕ → Entry → List ℕ
with_entry image k e = with_number (with_number (with_number image k e.mark) (k + 1) e.start) (k + 2) e.length

-- the first i entries are written behind the head
abbrev pub Listed : List ℕ → List ℕ → List Entry → ℕ → List ℕ → Type 0
Listed first head es i image = Written first 0 (head ++ entry_bytes (take i es)) image

module _ (first head : List ℕ) (es : List Entry) (twelve : length head ≡ 12)
    (room : 3 + 3 * length es ≤ 124 * total_of first) where
  pub listed_none : (image : List ℕ) → Written first 0 head image → Listed first head es 0 image
  unfolding entry_bytes
  listed_none image w = subst (λ (l : List ℕ). Written first 0 l image) (sym (append-nil head)) w

  behind : (i : ℕ) → i < length es → let e = get_or es i zeros in
      (((head ++ entry_bytes (take i es)) ++ bytes4 e.mark) ++ bytes4 e.start) ++ bytes4 e.length
      ≡ head ++ entry_bytes (take (i + 1) es)
  unfolding entry_bytes
  behind i h =
      let e = get_or es i zeros in
      let E : List ℕ = entry_bytes (take i es) in
      let news : List ℕ = bytes4 e.mark ++ bytes4 e.start ++ bytes4 e.length in
      let flat : (((head ++ E) ++ bytes4 e.mark) ++ bytes4 e.start) ++ bytes4 e.length ≡ head ++ (E ++ (news ++ [])) =
      simp (append_assoc, append-nil) in
      flat ∙ ap (λ (l : List ℕ). head ++ l) (sym (entry_bytes_append (take i es) (e ∷ [])) ∙ ap entry_bytes
      (sym (take-suc es i zeros h) ∙ ap (λ (n : ℕ). take n es) (sym (add-one i))))

  pub listed_more : (i : ℕ) (image next : List ℕ) → i < length es → next ≡ with_entry image (3 + 3 * i) (get_or es i zeros)
      → Listed first head es i image → Listed first head es (i + 1) next
  listed_more i image next h said w =
      let e = get_or es i zeros in
      let k : ℕ = 3 + 3 * i in
      let E : List ℕ = head ++ entry_bytes (take i es) in
      let le : length (head ++ entry_bytes (take i es)) ≡ 12 + 12 * i =
      omega (
        arith,
        length-append head (entry_bytes (take i es)),
        entry_bytes_length (take i es),
        length-take-le i es (omega arith),
      )
      in
      let l1 = length-append E (bytes4 e.mark) in
      let l2 = length-append (E ++ bytes4 e.mark) (bytes4 e.start) in
      let lm = bytes4_length e.mark in
      let ls = bytes4_length e.start in
      let w1 = written_number first 0 E image _ k e.mark (omega arith) (omega arith) refl w in
      let w2 = written_number first 0 (E ++ bytes4 e.mark) _ _ (k + 1) e.start (omega arith) (omega arith) refl w1 in
      let w3 = written_number first 0 ((E ++ bytes4 e.mark) ++ bytes4 e.start) _ next (k + 2) e.length (omega arith)
      (omega arith)
      said w2 in
      subst (λ (l : List ℕ). Written first 0 l next) (behind i h) w3

  pub listed_all : (i : ℕ) (image : List ℕ) → length es ≤ i → Listed first head es i image
      → Written first 0 (head ++ entry_bytes es) image
  listed_all i image h w = subst (λ (l : List Entry). Written first 0 (head ++ entry_bytes l) image) (take_all i es h) w

-- ---- the whole image

module _ (s : State) (image : List ℕ) (n_high : s.blocks ≤ 262144) (c_high : length s.entries ≤ 1024)
    (words : length s.map ≡ words_for s.blocks)
    (exact : length image ≡ 512 * frames_for s.blocks (length s.entries)) where
  abbrev c : ℕ
  c = length s.entries

  abbrev T : ℕ
  T = frames_for s.blocks c

  total : total_of image ≡ T
  total = omega arith

  abbrev pub head_bytes : List ℕ
  head_bytes = bytes4 s.blocks ++ bytes4 s.spare ++ bytes4 c

  pub head_length : length head_bytes ≡ 12
  head_length =
      omega (
        arith,
        length-append (bytes4 s.blocks ++ bytes4 s.spare) (bytes4 c),
        length-append (bytes4 s.blocks) (bytes4 s.spare),
        bytes4_length s.blocks,
        bytes4_length s.spare,
        bytes4_length c,
      )

  pub head_written : (one two three : List ℕ) → one ≡ with_number image 0 s.blocks → two ≡ with_number one 1 s.spare
      → three ≡ with_number two 2 c → Written image 0 head_bytes three
  head_written one two three e1 e2 e3 =
      let t = total in
      let lb = bytes4_length s.blocks in
      let ls = bytes4_length s.spare in
      let l2 = length-append (bytes4 s.blocks) (bytes4 s.spare) in
      written_number image 0 (bytes4 s.blocks ++ bytes4 s.spare) two three 2 c (omega arith) (omega arith) e3
      (written_number image 0 (bytes4 s.blocks) one two 1 s.spare (omega arith) (omega arith) e2
      (written_number image 0 [] image one 0 s.blocks refl (omega arith) e1 (written_none image 0)))

  pub room : 3 + 3 * c ≤ 124 * total_of image
  room = let t = total in omega arith

  abbrev end : ℕ
  end = 3 + 3 * c + 2 * length s.map

  fill_law : (k : ℕ) → k ≡ T → 496 * k - 4 * end ≡ 496 * T - content_length s.blocks c
  fill_law k e = omega arith

  -- the body that is written
  whole_body : (b : List ℕ) → b ≡ replaced (body_of image) (4 * 0) (head_bytes ++ entry_bytes s.entries)
      → replaced (replaced b (4 * (3 + 3 * c)) (word_bytes s.map)) (4 * end)
      (replicate (496 * T - content_length s.blocks c) 0) ≡ body s
  unfolding body
  whole_body b e =
      let t = total in
      let E : List ℕ = entry_bytes s.entries in
      let W : List ℕ = word_bytes s.map in
      let Z : List ℕ = replicate (496 * T - content_length s.blocks c) 0 in
      let lh = head_length in
      let le = entry_bytes_length s.entries in
      let lw = word_bytes_length s.map in
      let lz : length {A = ℕ} (replicate (496 * T - content_length s.blocks c) 0) ≡ 496 * T - content_length s.blocks c =
      length-replicate {A = ℕ} (496 * T - content_length s.blocks c) 0 in
      let l1 = length-append head_bytes E in
      let l2 = length-append (head_bytes ++ E) W in
      let l3 = length-append ((head_bytes ++ E) ++ W) Z in
      let lb = body_length image in
      let a1 : 4 * (3 + 3 * c) ≡ 4 * 0 + length (head_bytes ++ E) = omega arith in
      let a2 : 4 * end ≡ 4 * 0 + length ((head_bytes ++ E) ++ W) = omega arith in
      ap₂ (λ (x : List ℕ) (y : ℕ). replaced (replaced x y W) (4 * end) Z) e a1
      ∙ ap₂ (λ (x : List ℕ) (y : ℕ). replaced x y Z) (replaced_more (body_of image) (4 * 0) (head_bytes ++ E) (omega arith) W)
      a2
      ∙ replaced_more (body_of image) (4 * 0) ((head_bytes ++ E) ++ W) (omega arith) Z
      ∙ replaced_all (body_of image) (((head_bytes ++ E) ++ W) ++ Z) (omega arith)

  -- as its parts were written, one after the other
  pub image_written : (listed worded filled last : List ℕ) → Written image 0 (head_bytes ++ entry_bytes s.entries) listed
      → length worded ≡ length image → length filled ≡ length image
      → body_of worded ≡ replaced (body_of listed) (4 * (3 + 3 * c)) (word_bytes s.map)
      → body_of filled ≡ replaced (body_of worded) (4 * end) (replicate (496 * total_of worded - 4 * end) 0)
      → last ≡ sealed_image filled → last ≡ image_of s
  unfolding sealed_image image_of
  image_written listed worded filled last w lw lf ew ef el =
      let tw : total_of worded ≡ T = ap (λ (k : ℕ). k / 512) lw ∙ total in
      let tf : total_of filled ≡ T = ap (λ (k : ℕ). k / 512) lf ∙ total in
      el ∙ ap₂ (λ (t : ℕ) (b : List ℕ). frames t 0 t b) tf
      (ef ∙ ap₂ (λ (b : List ℕ) (z : ℕ). replaced b (4 * end) (replicate z 0)) ew (fill_law (total_of worded) tw)
      ∙ whole_body (body_of listed) w.bytes)

-- ---- what a save leaves in the image, by its number

-- a number that is not 0 is a refusal's
kept : (v : Verdict) (a b : List ℕ) → (row_number v ≡ 0 → ⊥) → b ≡ settle v a (λ number. b)
kept accepted a b n = absurd (n refl)
kept (refused k) a b n = refl

module _ (turned : Bool) (n spare : ℕ) (map : List ℕ) (entries : List Entry) (scratch image : List ℕ) where
  abbrev state : State
  state = record { blocks = n; spare = spare; entries = entries; map = map }

  abbrev verdict : Verdict
  verdict = save_verdict turned state (length scratch) (length image)

  pub refused_image : (r : Refusal) → number r ≡ save_number turned n spare map entries scratch image
      → image ≡ save_image turned n spare map entries scratch image
  unfolding save_number save_image
  refused_image r e = kept verdict (image_of state) image (λ z. not_zero r (e ∙ z))

  pub cleared : (left : List ℕ) → left ≡ replicate (length scratch) 0 → left
      ≡ save_scratch turned n spare map entries scratch image
  unfolding save_scratch
  cleared left e = e

  module _ (zero : 0 ≡ save_number turned n spare map entries scratch image) where
    is_accepted : verdict ≡ accepted
    unfolding save_number
    is_accepted = save_accepted turned state (length scratch) (length image) (sym zero)

    pub fitting : (n ≤ 262144) × (length entries ≤ 1024) × (length map ≡ words_for n)
        × (length image ≡ 512 * frames_for n (length entries))
    fitting =
        let p = saved_to_lem turned state (length scratch) (length image) is_accepted in
        let l = save_fits_to n spare (length entries) (length map) (length scratch) p.lengths in
        (l.limits.limit, l.count.few, l.limits.words, p.exact)

    pub saved_image : (last : List ℕ) → last ≡ image_of state → last ≡ save_image turned n spare map entries scratch image
    unfolding save_image
    saved_image last e = e ∙ sym (ap (λ (v : Verdict). settle v (image_of state) (λ number. image)) is_accepted)

  -- what a save answers, with the scratch cleared: done, the image is that of the state, and refused, what was lent
  pub saves : (r : Result (Unit {0}) Refusal) (left last : List ℕ)
      → number_in r ≡ save_number turned n spare map entries scratch image → left ≡ replicate (length scratch) 0
      → MatchResult r (λ _. last ≡ image_of state) (λ _. last ≡ image)
      → Saves turned n spare map entries scratch image r left last
  saves (Ok done) left last e z i = (e, cleared left z, saved_image e last i)
  saves (Err why) left last e z i = (e, cleared left z, i ∙ refused_image why e)
