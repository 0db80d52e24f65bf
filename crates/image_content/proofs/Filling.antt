-- The words of a window, read from an image.
-- Assumes nothing.
use mathlib.Core.Path.{◌≡◌, sym, ap, ap₂, ◌∙◌}
use mathlib.Core.Logic.{⊎_elim}
use mathlib.Core.List.{List, ◌++◌}
use Prim.Native.Nat.{ℕ, zero, suc, ◌+◌, ◌-◌, ◌*◌, ◌/◌, ◌≤◌, ◌<◌, min}
use native.Mathlib.Omega.{arith}
use lib.ListN.{length, get_or, take, drop, replicate, length-append, length-replicate, get_or-replicate}
use lib.ListN.{get_or-append, get_or-eq_default}
use lib.Seq.{length-take-le, get_or-append-add}
use Rattle.map_blocks.specs.Maps.{words_for}
use Rattle.block_bytes.specs.Numbers.{number_at}
use Rattle.laws.proofs.Bools.{order}
use Rattle.image_frames.specs.Frames.{body_of}
use Rattle.image_frames.specs.Numbers.{words_at}
use Rattle.image_frames.proofs.Stored.{words_at_length, words_at_at}
use Rattle.image.proofs.Journey.{map_length}
use Rattle.image_soundness.specs.Windows.{words_from}
use Rattle.image_soundness.proofs.Rounds.{words_all}
use Rattle.image.specs.Image.{map_in}

drop_zeros : (m k : ℕ) → drop k (replicate {A = ℕ} m 0) ≡ replicate (m - k) 0
drop_zeros m zero = let z : m ≡ m - 0 = omega arith in ap (λ (x : ℕ). replicate {A = ℕ} x 0) z
drop_zeros zero (suc k) = let z : 0 ≡ 0 - suc k = omega arith in ap (λ (x : ℕ). replicate {A = ℕ} x 0) z
drop_zeros (suc m) (suc k) =
    let z : m - k ≡ suc m - suc k = omega arith in drop_zeros m k ∙ ap (λ (x : ℕ). replicate {A = ℕ} x 0) z

-- the words of a window: those that the image has, and zeros behind them
module _ (image : List ℕ) (n c a w : ℕ) (lo : ℕ) (scratch : List ℕ)
    (ea : a ≡ min (lo / 64) (words_for n)) (ew : w ≡ min (words_for n - a) (length scratch)) where
  word_in : (i : ℕ) → i < w → get_or (words_at (body_of image) (4 * (3 + 3 * c + 2 * a)) w) i 0
      ≡ get_or (map_in image n c) (lo / 64 + i) 0
  unfolding map_in
  word_in i h =
      let e : 4 * (3 + 3 * c + 2 * a) + 8 * i ≡ 12 + 12 * c + 8 * (lo / 64 + i) = omega arith in
      words_at_at (body_of image) (4 * (3 + 3 * c + 2 * a)) w i h
      ∙ ap (λ (x : ℕ). number_at (body_of image) x * 4294967296 + number_at (body_of image) (x + 4)) e
      ∙ sym (words_at_at (body_of image) (12 + 12 * c) (words_for n) (lo / 64 + i) (omega arith))

  word_past : (i : ℕ) → w ≤ i → i < length scratch → 0 ≡ get_or (map_in image n c) (lo / 64 + i) 0
  word_past i h l =
      sym (get_or-eq_default (map_in image n c) 0 {n = lo / 64 + i} (omega (arith, map_length image n c)))

  abbrev there : List ℕ
  there = words_at (body_of image) (4 * (3 + 3 * c + 2 * a)) w

  abbrev behind : List ℕ
  behind = replicate (length scratch - w) 0

  word_at : (i : ℕ) → i < length scratch → get_or (there ++ behind) i 0 ≡ get_or (map_in image n c) (lo / 64 + i) 0
  word_at i h =
      let long : length there ≡ w = words_at_length (body_of image) (4 * (3 + 3 * c + 2 * a)) w in
      ⊎_elim
      (λ (u : i < w). get_or-append there behind 0 i (omega arith) ∙ word_in i u)
      (λ (u : w ≤ i).
      let e : i ≡ length there + (i - w) = omega arith in
      ap (λ (x : ℕ). get_or (there ++ behind) x 0) e ∙ get_or-append-add there behind (i - w) 0
      ∙ get_or-replicate (length scratch - w) (i - w) 0 0 (omega arith) ∙ word_past i u h) (order i w)

  joined : there ++ behind ≡ words_from (map_in image n c) (lo / 64) (length scratch)
  joined =
      let long : length there ≡ w = words_at_length (body_of image) (4 * (3 + 3 * c + 2 * a)) w in
      let rest : length {A = ℕ} (replicate (length scratch - w) 0) ≡ length scratch - w =
      length-replicate {A = ℕ} (length scratch - w) 0 in
      words_all (map_in image n c) (there ++ behind) (lo / 64) (length scratch) (length scratch)
      (length-append there behind ∙ omega arith) (omega arith) word_at

  -- read over a scratch that is cleared
  pub window_read : (zeros first : List ℕ) → zeros ≡ replicate (length scratch) 0
      → first ≡ words_at (body_of image) (4 * (3 + 3 * c + 2 * a)) (length (take w zeros))
      → first ++ drop w zeros ≡ words_from (map_in image n c) (lo / 64) (length scratch)
  window_read zeros first ez e =
      let lz : length zeros ≡ length scratch = ap length ez ∙ length-replicate (length scratch) 0 in
      let lw : length (take w zeros) ≡ w = length-take-le w zeros (omega arith) in
      ap₂ ◌++◌ (e ∙ ap (words_at (body_of image) (4 * (3 + 3 * c + 2 * a))) lw)
      (ap (drop w) ez ∙ drop_zeros (length scratch) w) ∙ joined
