-- One window: it passes exactly where each of its blocks is free or covered once below n, and neither from n on.
-- Assumes nothing.
use mathlib.Core.Path.{◌≡◌, refl, sym, ap, ap₂, ◌∙◌}
use mathlib.Core.Bool.{Bool, true, false, ◌&&◌}
use mathlib.Core.List.{List}
use Prim.Native.Nat.{ℕ, ◌+◌, ◌-◌, ◌*◌, ◌/◌, ◌%◌, ◌^◌, ◌≤◌, ◌<◌, min}
use native.Mathlib.Omega.{arith}
use lib.Dec.{eqb, ltb}
use lib.ListN.{length, get_or}
use borrow.Author.Tests.{ltb-true, lt-ltb, le-leb, lt-leb}
use Rattle.map_blocks.specs.Blocks.{free}
use Rattle.map_blocks.specs.Maps.{in_state, is_fresh}
use Rattle.laws.proofs.Bools.{and_left, and_right, and_both, both_ways}
use Rattle.map_blocks.proofs.Maps.{in_state_lem, state_of}
use Rattle.map_blocks.proofs.Runs.{all_intro, all_elim, all_break}
use Rattle.catalogue.specs.declared.Entry.{Entry}
use Rattle.image_soundness.specs.Windows.{words_from, parts_stand, scratch_over, window_passes, windows_pass}
use Rattle.image_soundness.specs.Windows.{window_start, state_window_passes, state_windows_pass}
use Rattle.image_soundness.specs.Sound.{coverings, undamaged}
use Rattle.image_soundness.proofs.Covers.{one, same_one}
use Rattle.image_soundness.proofs.Parts.{over_adds, over-passes}
use Rattle.image_soundness.proofs.Rounds.{words_length, words_at_lem, over_length}

-- a fresh scratch, block by block
fresh_to : (n : ℕ) (scratch : List ℕ) → is_fresh scratch n ≡ true → (b : ℕ) → b < 64 * length scratch → free scratch b ≡ ltb b n
unfolding is_fresh
fresh_to n scratch e b h = in_state_lem scratch (ltb b n) b
    (all_elim (λ b. in_state scratch (ltb b n) b) 0 (64 * length scratch) e b (omega arith) (omega arith))

to_fresh : (n : ℕ) (scratch : List ℕ) → ((b : ℕ) → b < 64 * length scratch → free scratch b ≡ ltb b n)
    → is_fresh scratch n ≡ true
unfolding is_fresh
to_fresh n scratch h = all_intro (λ b. in_state scratch (ltb b n) b) 0 (64 * length scratch)
    (λ b l u. state_of scratch (ltb b n) b (h b (omega arith)))

-- the words of a window
words_free : (map : List ℕ) (a m b : ℕ) → b < 64 * m → free (words_from map a m) b ≡ free map (64 * a + b)
unfolding free
words_free map a m b h =
    let i : a + b / 64 ≡ (64 * a + b) / 64 = omega arith in
    let j : b % 64 ≡ (64 * a + b) % 64 = omega arith in
    ap₂ (λ (x y : ℕ). eqb (x / 2 ^ (63 - y) % 2) 1)
    (words_at_lem map a m (b / 64) (omega arith) ∙ ap (λ (x : ℕ). get_or map x 0) i) j

-- a window, by what it was found to be
module _ (map : List ℕ) (es : List Entry) (m n lo : ℕ) (words used : List ℕ) (stand : Bool)
    (ew : words ≡ words_from map (lo / 64) m) (st : stand ≡ parts_stand es lo words)
    (eu : stand ≡ true → used ≡ scratch_over es lo words) where
  pub window_told : (stand && is_fresh used (n - lo)) ≡ window_passes map es m n lo
  unfolding window_passes
  window_told =
      by stand st eu ∙ ap (λ (l : List ℕ). parts_stand es lo l && is_fresh (scratch_over es lo l) (n - lo)) ew
    where
      by : (s : Bool) → s ≡ parts_stand es lo words → (s ≡ true → used ≡ scratch_over es lo words)
          → (s && is_fresh used (n - lo)) ≡ (parts_stand es lo words && is_fresh (scratch_over es lo words) (n - lo))
      by true s u = ap₂ (λ (b : Bool) (l : List ℕ). b && is_fresh l (n - lo)) s (u refl)
      by false s u = ap (λ (b : Bool). b && is_fresh (scratch_over es lo words) (n - lo)) s

-- all of them
module _ (map : List ℕ) (es : List Entry) (m n : ℕ) where
  pub window_fails : (i lo : ℕ) → lo ≡ 4096 * i → i < (n + 4095) / 4096 → window_passes map es m n lo ≡ false
      → false ≡ windows_pass map es m n
  unfolding windows_pass
  window_fails i lo e h f =
      sym (all_break (λ i. window_passes map es m n (4096 * i)) 0 ((n + 4095) / 4096) i (omega arith) (omega arith)
      (ap (window_passes map es m n) (sym e) ∙ f))

  pub windows_told : (count : ℕ) → (n + 4095) / 4096 ≤ count → ((i : ℕ) → i < count → window_passes map es m n (4096 * i)
      ≡ true)
      → true ≡ windows_pass map es m n
  unfolding windows_pass
  windows_told count h good =
      sym (all_intro (λ i. window_passes map es m n (4096 * i)) 0 ((n + 4095) / 4096) (λ i a l. good i (omega arith)))

module _ (map : List ℕ) (es : List Entry) (n lo m : ℕ) (few : m ≤ 64) (aligned : lo ≡ 64 * (lo / 64)) where
  abbrev words : List ℕ
  words = words_from map (lo / 64) m

  abbrev used : List ℕ
  used = scratch_over es lo words

  -- each block of the window is free or covered once below n, and neither from n on
  abbrev pub Good : Type 0
  Good = (b : ℕ) → b < 64 * m → coverings es (lo + b) + one (free map (lo + b)) ≡ one (ltb (lo + b) n)

  words_long : length words ≡ m
  words_long = words_length map (lo / 64) m

  used_long : length used ≡ m
  used_long = over_length es lo words ∙ words_long

  same_free : (b : ℕ) → b < 64 * m → free words b ≡ free map (lo + b)
  same_free b h = words_free map (lo / 64) m b h ∙ ap (λ (x : ℕ). free map (x + b)) (sym aligned)

  ends : (b : ℕ) → ltb b (n - lo) ≡ ltb (lo + b) n
  ends b =
      both_ways (ltb b (n - lo)) (ltb (lo + b) n)
      (λ q. let l = ltb-true b (n - lo) q in lt-ltb (lo + b) n (omega arith))
      (λ q. let l = ltb-true (lo + b) n q in lt-ltb b (n - lo) (omega arith))

  pub window_good : window_passes map es m n lo ≡ true → Good
  unfolding window_passes
  window_good o b h =
      let fresh : is_fresh used (n - lo) ≡ true = and_right (parts_stand es lo words) (is_fresh used (n - lo)) o in
      let f : free used b ≡ ltb b (n - lo) = fresh_to (n - lo) used fresh b (omega (arith, used_long)) in
      let adds = over_adds lo es words (and_left (parts_stand es lo words) (is_fresh used (n - lo)) o) b
      (omega (arith, words_long)) (omega arith) in
      ap (λ (x : Bool). coverings es (lo + b) + one x) (sym (same_free b h)) ∙ adds ∙ ap one (f ∙ ends b)

  pub good_window : undamaged n (λ b. false) es ≡ true → min n (lo + 4096) ≤ lo + 64 * m → Good
      → window_passes map es m n lo ≡ true
  unfolding window_passes
  good_window u room good =
      let once : (b : ℕ) → b < 64 * m → coverings es (lo + b) + one (free words b) ≡ one (ltb b (n - lo)) =
      λ b h. ap (λ (x : Bool). coverings es (lo + b) + one x) (same_free b h) ∙ good b h ∙ ap one (sym (ends b)) in
      let o : parts_stand es lo words ≡ true = over-passes lo n es words u (omega (arith, words_long)) (λ b h k.
      omega (arith, once b (omega (arith, words_long)), at_most (ltb b (n - lo)))) in
      and_both (parts_stand es lo words) (is_fresh used (n - lo)) o
      (to_fresh (n - lo) used (λ b h.
      let k : b < 64 * m = omega (arith, used_long) in
      same_one (free used b) (ltb b (n - lo))
      (sym (over_adds lo es words o b (omega (arith, words_long)) (omega arith)) ∙ once b k)))
    where
      at_most : (x : Bool) → one x ≤ 1
      at_most true = omega arith
      at_most false = omega arith

-- ---- the same of a state

-- a window with a scratch that is too long, and with another
module _ (map : List ℕ) (es : List Entry) (m n lo : ℕ) where
  pub window_long : 64 < m → false ≡ state_window_passes map es m n lo
  unfolding state_window_passes
  window_long h = simp (lt-leb m 64 h)

  pub state_window_is : m ≤ 64 → window_passes map es m n lo ≡ state_window_passes map es m n lo
  unfolding window_passes state_window_passes
  state_window_is few =
      ap (λ (b : Bool). b && parts_stand es lo (words_from map (lo / 64) m)
      && is_fresh (scratch_over es lo (words_from map (lo / 64) m)) (n - lo)) (sym (le-leb m 64 few))

-- by what it was found to be
module _ (map : List ℕ) (es : List Entry) (m n lo : ℕ) (words used : List ℕ) (stand : Bool)
    (few : m ≤ 64) (ew : words ≡ words_from map (lo / 64) m) (st : stand ≡ parts_stand es lo words)
    (eu : used ≡ scratch_over es lo words) where
  pub state_window_told : (stand && is_fresh used (n - lo)) ≡ state_window_passes map es m n lo
  state_window_told =
      window_told map es m n lo words used stand ew st (λ t. eu) ∙ state_window_is map es m n lo few

-- all of them
module _ (map : List ℕ) (es : List Entry) (m n : ℕ) where
  abbrev passes : ℕ → Bool
  passes i = state_window_passes map es m n (window_start i)

  abbrev count : ℕ
  count = (n + 4095) / 4096

  pub state_window_fails : (i lo : ℕ) → lo ≡ window_start i → i < (n + 4095) / 4096
      → state_window_passes map es m n lo ≡ false → false ≡ state_windows_pass map es m n
  unfolding state_windows_pass
  state_window_fails i lo e h f =
      sym (all_break passes 0 count i (omega arith) (omega arith) (ap (state_window_passes map es m n) (sym e) ∙ f))

  pub state_windows_told : (count : ℕ) → (n + 4095) / 4096 ≤ count
      → ((i : ℕ) → i < count → state_window_passes map es m n (window_start i) ≡ true) → true ≡ state_windows_pass map es m n
  unfolding state_windows_pass
  state_windows_told most h good = sym (all_intro passes 0 count (λ i a l. good i (omega arith)))

  -- up to block 270336 all windows begin where they stand
  pub state_windows_are : m ≤ 64 → n ≤ 270336 → windows_pass map es m n ≡ state_windows_pass map es m n
  unfolding windows_pass state_windows_pass
  state_windows_are few limit =
      both_ways (windows_pass map es m n) (state_windows_pass map es m n)
      (λ h. all_intro passes 0 count (λ i a l. sym (same i (omega arith))
      ∙ all_elim (λ i. window_passes map es m n (4096 * i)) 0 count h i (omega arith) (omega arith)))
      (λ h. all_intro (λ i. window_passes map es m n (4096 * i)) 0 count (λ i a l. same i (omega arith)
      ∙ all_elim passes 0 count h i (omega arith) (omega arith)))
    where
      same : (i : ℕ) → i < count → window_passes map es m n (4096 * i) ≡ passes i
      same i h =
          let e : 4096 * i ≡ window_start i = omega (arith, limit) in
          state_window_is map es m n (4096 * i) few ∙ ap (state_window_passes map es m n) e

-- and block by block
module _ (map : List ℕ) (es : List Entry) (n lo m : ℕ) (few : m ≤ 64) (aligned : lo ≡ 64 * (lo / 64)) where
  pub state_window_good : state_window_passes map es m n lo ≡ true → Good map es n lo m few aligned
  state_window_good o = window_good map es n lo m few aligned (state_window_is map es m n lo few ∙ o)

  pub state_good_window : undamaged n (λ b. false) es ≡ true → min n (lo + 4096) ≤ lo + 64 * m
      → Good map es n lo m few aligned → state_window_passes map es m n lo ≡ true
  state_good_window u room good =
      sym (state_window_is map es m n lo few) ∙ good_window map es n lo m few aligned u room good
