-- The test of each entry alone and then window by window is soundness (`tested_sound`), and so is that of a state
-- (`state_tested_sound`).
-- Assumes nothing.
use mathlib.Core.Path.{◌≡◌, refl, sym, ap, ap₂, subst, ◌∙◌}
use mathlib.Core.Logic.{⊎_elim}
use mathlib.Core.Bool.{Bool, true, false, ◌&&◌, true≢false, not}
use mathlib.Core.List.{List}
use Prim.Native.Nat.{ℕ, ◌+◌, ◌-◌, ◌*◌, ◌/◌, ◌%◌, ◌^◌, ◌≤◌, ◌<◌}
use native.Mathlib.Nat.{zero-div}
use native.Mathlib.Omega.{arith}
use lib.Dec.{eqb, leb, ltb}
use Rattle.std.specs.Prelude.{Option, Some, None}
use Rattle.std.specs.Option.{SomeIff, option_and_then, option_eq}
use Rattle.map_blocks.proofs.Runs.{all_intro, all_elim}
use lib.ListN.{length, get_or-eq_default}
use borrow.Author.Tests.{eqb-true, lt-ltb, le-ltb, le-leb, lt-leb}
use Rattle.map_blocks.specs.Blocks.{free}
use Rattle.laws.proofs.Bools.{and_left, and_right, and_both, both_ways, order}
use Rattle.catalogue.specs.Entries.{held}
use Rattle.catalogue.specs.declared.Entry.{Entry}
use Rattle.catalogue_standings.specs.Limits.{shape_fits}
use Rattle.catalogue_standings.proofs.Limits.{Fits, fits}
use Rattle.image_soundness.specs.Scratch.{scratch_words}
use Rattle.image_soundness.specs.Sound.{State, coverings, undamaged, sound}
use Rattle.image_soundness.specs.Windows.{tally_of, window_passes, windows_pass, tested, state_windows_pass, state_tested}
use Rattle.image_soundness.proofs.Covers.{one, same_one, cover_outside, still_all}
use Rattle.image_soundness.proofs.Counted.{tally_counted, counted_tally}
use Rattle.image_soundness.proofs.WhenSound.{Tidy, sound_to, to_sound, tidy_sound, sound_tidy}
use Rattle.image_soundness.proofs.Windowed.{Good, window_good, good_window, state_windows_are}

-- no block past the end of a map is free
free_past : (map : List ℕ) (x : ℕ) → 64 * length map ≤ x → free map x ≡ false
unfolding free
free_past map x h =
    ap (λ (v : ℕ). eqb (v / 2 ^ (63 - x % 64) % 2) 1) (get_or-eq_default map 0 {n = x / 64} (omega arith))
    ∙ zero_bit (63 - x % 64)
  where
    zero_bit : (k : ℕ) → eqb (0 / 2 ^ k % 2) 1 ≡ false
    zero_bit k = ap (λ (x : ℕ). eqb (x % 2) 1) (zero-div (2 ^ k))

-- every entry counted, and nothing left
left_none : (r : Option ℕ) → option_eq eqb r (Some 0) ≡ true → r ≡ Some 0
left_none (Some x) e = ap Some (eqb-true x 0 e)
left_none None e = absurd (true≢false (sym e))

not_not : (b : Bool) → not (not b) ≡ b
not_not true = refl
not_not false = refl

-- the test, as it goes: a scratch that is too long, entries that do not make the blocks, and then the windows
module _ (map : List ℕ) (es : List Entry) (m n blocks : ℕ) where
  pub tested_long : 64 < m → false ≡ tested map es m n blocks
  unfolding tested
  tested_long h = simp (lt-leb m 64 h)

  module _ (few : m ≤ 64) (r : Option ℕ) (is : r ≡ tally_of es n blocks) (ne : Bool)
      (en : ne ≡ not (option_eq eqb r (Some 0))) where
    told : tested map es m n blocks ≡ (not ne && windows_pass map es m n)
    unfolding tested
    told =
        ap₂ (λ (a b : Bool). a && b && windows_pass map es m n) (le-leb m 64 few)
        (ap (λ (r : Option ℕ). option_eq eqb r (Some 0)) (sym is) ∙ sym (ap not en ∙ not_not (option_eq eqb r (Some 0))))

    pub tested_unlike : ne ≡ true → false ≡ tested map es m n blocks
    tested_unlike h = sym (told ∙ ap (λ (b : Bool). not b && windows_pass map es m n) h)

    pub tested_windows : ne ≡ false → windows_pass map es m n ≡ tested map es m n blocks
    tested_windows h = sym (told ∙ ap (λ (b : Bool). not b && windows_pass map es m n) h)

-- the test of a state, as it goes: no blocks to make, entries that do not make the blocks, and then the windows
module _ (map : List ℕ) (es : List Entry) (m n : ℕ) (blocks : Option ℕ) where
  pub tested_none : blocks ≡ None → false ≡ state_tested map es m n blocks
  unfolding state_tested
  tested_none h =
      ap (λ (b : Option ℕ). option_eq eqb (option_and_then (tally_of es n) b) (Some 0) && state_windows_pass map es m n) (sym h)

  module _ (left : ℕ) (given : blocks ≡ Some left) (r : Option ℕ) (is : r ≡ tally_of es n left) (ne : Bool)
      (en : ne ≡ not (option_eq eqb r (Some 0))) where
    state_told : state_tested map es m n blocks ≡ (not ne && state_windows_pass map es m n)
    unfolding state_tested
    state_told =
        ap (λ (b : Option ℕ). option_eq eqb (option_and_then (tally_of es n) b) (Some 0) && state_windows_pass map es m n) given
        ∙ ap (λ (b : Bool). b && state_windows_pass map es m n)
        (ap (λ (r : Option ℕ). option_eq eqb r (Some 0)) (sym is) ∙ sym (ap not en ∙ not_not (option_eq eqb r (Some 0))))

    pub state_tested_unlike : ne ≡ true → false ≡ state_tested map es m n blocks
    state_tested_unlike h = sym (state_told ∙ ap (λ (b : Bool). not b && state_windows_pass map es m n) h)

    pub state_tested_windows : ne ≡ false → state_windows_pass map es m n ≡ state_tested map es m n blocks
    state_tested_windows h = sym (state_told ∙ ap (λ (b : Bool). not b && state_windows_pass map es m n) h)

-- with up to 64 words and 270336 blocks, more than any card has, it is the test of any map
pub state_tested_is : (map : List ℕ) (es : List Entry) (m n blocks : ℕ) → m ≤ 64 → n ≤ 270336
    → tested map es m n blocks ≡ state_tested map es m n (Some blocks)
unfolding tested state_tested
state_tested_is map es m n blocks few limit =
    ap₂ (λ (a w : Bool). a && option_eq eqb (tally_of es n blocks) (Some 0) && w) (le-leb m 64 few)
    (state_windows_are map es m n few limit)

module _ (s : State) (m : ℕ) (fit : shape_fits s.blocks s.spare (length s.map) ≡ true)
    (size : m ≡ scratch_words (length s.map)) where
  abbrev n : ℕ
  n = s.blocks

  abbrev map : List ℕ
  map = s.map

  abbrev es : List Entry
  es = s.entries

  abbrev count : ℕ
  count = (n + 4095) / 4096

  abbrev Once : ℕ → Type 0
  Once x = coverings es x + one (free map x) ≡ one (ltb x n)

  few : m ≤ 64
  few = omega arith

  limits : Fits n s.spare (length map)
  limits = fits n s.spare (length map) fit

  aligned : (i : ℕ) → 4096 * i ≡ 64 * (4096 * i / 64)
  aligned i = omega arith

  abbrev Fine : ℕ → Type 0
  Fine i = Good map es n (4096 * i) m few (aligned i)

  -- each window as it should be: each block is
  fine_once : ((i : ℕ) → i < count → Fine i) → (x : ℕ) → x < 64 * length map → Once x
  fine_once good x h =
      let l = limits in
      let z : 4096 * (x / 4096) + x % 4096 ≡ x = omega arith in
      subst Once z (good (x / 4096) (omega (arith, l.words)) (x % 4096) (omega (arith, l.words)))

  -- each block as it should be: all windows are
  once_fine : undamaged n (λ b. false) es ≡ true → ((x : ℕ) → x < 64 * length map → Once x) → (i : ℕ) → Fine i
  once_fine u once i b h =
      let l = limits in
      let x : ℕ = 4096 * i + b in
      ⊎_elim (λ (lo : x < 64 * length map). once x lo)
      (λ (hi : 64 * length map ≤ x).
      ap₂ ◌+◌ (cover_outside n (λ b. false) es u x (omega (arith, l.covered))) (ap one (free_past map x hi))
      ∙ sym (ap one (le-ltb x n (omega (arith, l.covered))))) (order x (64 * length map))

  abbrev passes : ℕ → Bool
  passes i = window_passes map es m n (4096 * i)

  pass_fine : windows_pass map es m n ≡ true → (i : ℕ) → i < count → Fine i
  unfolding windows_pass
  pass_fine h i l =
      window_good map es n (4096 * i) m few (aligned i) (all_elim passes 0 count h i (omega arith) (omega arith))

  fine_pass : undamaged n (λ b. false) es ≡ true → ((i : ℕ) → Fine i) → windows_pass map es m n ≡ true
  unfolding windows_pass
  fine_pass u good =
      let l = limits in
      all_intro passes 0 count
      (λ i a h. good_window map es n (4096 * i) m few (aligned i) u (omega (arith, l.words)) (good i))

  abbrev counted : Bool
  counted = option_eq eqb (tally_of es n (n - s.spare)) (Some 0)

  abbrev pass : Bool
  pass = windows_pass map es m n

  tested_tidy : tested map es m n (n - s.spare) ≡ true → Tidy n (n - s.spare) map es
  unfolding tested
  tested_tidy h =
      let l = limits in
      let some = left_none (tally_of es n (n - s.spare)) (and_right (leb m 64) counted
      (and_left (leb m 64 && counted) pass h)) in
      let c = tally_counted n (n - s.spare) es 0 some in
      let once = fine_once (pass_fine (and_right (leb m 64 && counted) pass h)) in
      record {
        whole = still_all n (λ b. false) (free map) es c.alone (λ b u k z.
            let e : coverings es b + one (free map b) ≡ 1 = once b (omega (arith, l.covered)) ∙ ap one (lt-ltb b n u) in
            same_one (free map b) false (omega arith));
        once = once;
        sum = omega (arith, c.enough, c.rest_is);
      }

  tidy_tested : Tidy n (n - s.spare) map es → tested map es m n (n - s.spare) ≡ true
  unfolding tested
  tidy_tested p =
      let u : undamaged n (λ b. false) es ≡ true = still_all n (free map) (λ b. false) es p.whole (λ b l c z. refl) in
      let z : n - s.spare - held es ≡ 0 = omega (arith, p.sum) in
      let some : tally_of es n (n - s.spare) ≡ Some 0 = counted_tally n (n - s.spare) es u (omega (arith, p.sum)) ∙ ap Some z in
      and_both (leb m 64 && counted) pass
      (and_both (leb m 64) counted (le-leb m 64 few) (ap (λ (r : Option ℕ). option_eq eqb r (Some 0)) some))
      (fine_pass u (once_fine u p.once))

  -- the test is soundness
  pub tested_sound : tested map es m n (n - s.spare) ≡ sound s
  tested_sound =
      let l = limits in
      both_ways (tested map es m n (n - s.spare)) (sound s)
      (λ h. to_sound s (tidy_sound s l.covered l.spare (tested_tidy h)))
      (λ h. tidy_tested (sound_tidy s l.covered l.spare (sound_to s h)))

  -- and so is the test of a state
  pub state_tested_sound : state_tested map es m n (Some (n - s.spare)) ≡ sound s
  state_tested_sound =
      let l = limits in sym (state_tested_is map es m n (n - s.spare) few (omega (arith, l.limit))) ∙ tested_sound

  -- with what the free count leaves of n, as it was subtracted
  pub subtracted_sound : (blocks : Option ℕ) → SomeIff blocks (s.spare ≤ n) (n - s.spare)
      → state_tested map es m n blocks ≡ sound s
  subtracted_sound (Some left) h = ap (λ (x : ℕ). state_tested map es m n (Some x)) h.1 ∙ state_tested_sound
  subtracted_sound None h = let l = limits in absurd (h l.spare)
