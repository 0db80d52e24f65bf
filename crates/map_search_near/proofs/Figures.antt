-- A search within three figures: that the run it finds is the least fit, and which starts are passed over.
-- Assumes nothing.
use Rattle.std.specs.Prelude.{Some, None}
use mathlib.Core.Path.{◌≡◌, sym, ap, ◌∙◌}
use mathlib.Core.Logic.{⊎_elim}
use mathlib.Core.Bool.{Bool, true, false}
use mathlib.Core.List.{List}
use Prim.Native.Nat.{ℕ, ◌+◌, ◌-◌, ◌*◌, ◌/◌, ◌%◌, ◌≤◌, ◌<◌, min}
use native.Mathlib.Nat.{mod-eq_of_lt}
use native.Mathlib.Omega.{arith}
use lib.Dec.{eqb}
use lib.ListN.{get_or}
use Rattle.map_blocks.specs.Blocks.{free, all, on_step, fit, least_fit}
use Rattle.map_blocks.specs.Words.{bit}
use Rattle.map_blocks.proofs.Bits.{bit_zero}
use Rattle.laws.proofs.Bools.{clash, order, both_ways}
use Rattle.map_blocks.proofs.Fits.{Fits, is_fit, fit_is, no_fit, on_mod, mod_on, Spaced}
use Rattle.map_blocks.proofs.Least.{least_at, least_none, least_same}
use Rattle.map_blocks.proofs.Maps.{free_bit}
use Rattle.map_blocks.proofs.Runs.{all_intro, all_break, all_part}
use Rattle.map_search_starts.specs.Starts.{NoRun, FirstRun}
use Rattle.map_search_starts.proofs.Steps.{on_add}

-- ---- what is found

module _ (g : ℕ → Bool) (from before step k : ℕ) where
  pub found_at : (s : ℕ) → 0 < k → Fits g from before step k s → ((t : ℕ) → t < s → fit g from before step k t ≡ false)
      → Some s ≡ least_fit g from before step k
  unfolding least_fit
  found_at s h x none =
      let u : s + k ≤ before = x.high in
      sym (least_at (fit g from before step k) 0 before s (omega arith) (omega arith) (is_fit g from before step k s x)
      (λ t a b. none t b))

  pub found_none : (c : ℕ) → before < c + k → ((t : ℕ) → t < c → fit g from before step k t ≡ false)
      → None ≡ least_fit g from before step k
  unfolding least_fit
  found_none c h none =
      sym (least_none (fit g from before step k) 0 before (λ t a b.
      ⊎_elim (λ u. none t u) (λ u. no_fit g from before step k t
      (λ x. let y : t + k ≤ before = x.high in absurd (omega arith))) (order t c)))

  pub empty_window : 0 < k → before ≤ from → None ≡ least_fit g from before step k
  unfolding least_fit
  empty_window h l =
      sym (least_none (fit g from before step k) 0 before (λ t a b.
      no_fit g from before step k t (λ x. let y : t + k ≤ before = x.high in let z : from ≤ t = x.low in
      absurd (omega arith))))

  -- ---- starts passed over

  -- those before the first
  pub before_first : (r : ℕ) → ((j : ℕ) → j < r → on_step step (from + j) ≡ false) → (t : ℕ) → t < from + r
      → fit g from before step k t ≡ false
  before_first r none t l =
      no_fit g from before step k t (λ x.
      let a : from ≤ t = x.low in
      let e : from + (t - from) ≡ t = omega arith in
      clash (on_step step t) x.placed (ap (on_step step) (sym e) ∙ none (t - from) (omega arith)))

  -- those before the window
  pub before_from : (t : ℕ) → t < from → fit g from before step k t ≡ false
  before_from t l = no_fit g from before step k t (λ x. let a : from ≤ t = x.low in absurd (omega arith))

  -- those before the first free block
  pub past_free : (b : ℕ) → 0 < k → ((t : ℕ) → from ≤ t → t < b → t < before → g t ≡ false) → (t : ℕ) → t < b
      → fit g from before step k t ≡ false
  past_free b h taken t l =
      no_fit g from before step k t (λ x.
      let low : from ≤ t = x.low in
      let high : t + k ≤ before = x.high in
      clash (all g t k) x.free (all_break g t k t (omega arith) (omega arith) (taken t low l (omega arith))))

  -- those from c on without a run
  pub past_runs : (c r : ℕ) → NoRun (on_step step) g k c r → ((t : ℕ) → t < c → fit g from before step k t ≡ false) → (t : ℕ)
      → t < r → fit g from before step k t ≡ false
  past_runs c r runs none t l =
      ⊎_elim (λ u. none t u)
      (λ u. no_fit g from before step k t (λ x. clash (all g t k) x.free (runs t u l x.placed))) (order t c)

  -- those whose run holds the taken block b
  pub past_block : (c b : ℕ) → c ≤ b → b < c + k → g b ≡ false → ((t : ℕ) → t < c → fit g from before step k t ≡ false)
      → (t : ℕ) → t < b + 1 → fit g from before step k t ≡ false
  past_block c b l u taken none t h =
      ⊎_elim (λ v. none t v)
      (λ v. no_fit g from before step k t (λ x. clash (all g t k) x.free
      (all_break g t k b (omega arith) (omega arith) taken))) (order t c)

  -- where none starts before c, the search may begin there
  pub begun : (c : ℕ) → from ≤ c → ((t : ℕ) → t < c → fit g from before step k t ≡ false)
      → least_fit g c before step k ≡ least_fit g from before step k
  unfolding least_fit
  begun c l none = least_same (fit g c before step k) (fit g from before step k) 0 before (λ t a b.
      both_ways (fit g c before step k t) (fit g from before step k t)
      (λ e. let x = fit_is g c before step k t e in
      let low : c ≤ t = x.low in
      is_fit g from before step k t (record { low = omega arith; high = x.high; free = x.free; placed = x.placed }))
      (λ e. let x = fit_is g from before step k t e in
      is_fit g c before step k t (record {
        low = ⊎_elim (λ (u : t < c). absurd (clash (fit g from before step k t) e (none t u))) (λ (u : c ≤ t). u) (order t c);
        high = x.high;
        free = x.free;
        placed = x.placed;
      })))

-- no run of m, and so none of more
pub no_longer : (q g : ℕ → Bool) (m k a b : ℕ) → m ≤ k → NoRun q g m a b → NoRun q g k a b
no_longer q g m k a b l none t u v on = all_part g t k t m (omega arith) (omega arith) (none t u v on)

-- no run starts where each start is taken
pub taken_run : (q g : ℕ → Bool) (k a b : ℕ) → 0 < k → ((t : ℕ) → a ≤ t → t < b → q t ≡ true → g t ≡ false) → NoRun q g k a b
taken_run q g k a b h taken t u v on = all_break g t k t (omega arith) (omega arith) (taken t u v on)

-- those whose run holds the taken block behind the space of a start
pub run_past : (g : ℕ → Bool) (step k c r x : ℕ) → c % step ≡ 0 → r < k → Spaced g c (c + k) r
    → ((t : ℕ) → r < t → t < x → on_step step t ≡ false) → NoRun (on_step step) g k c (c + x)
run_past g step k c r x e l spaced gap t a b on =
    let q : c + (t - c) ≡ t = omega arith in
    let near : on_step step (t - c) ≡ true = sym (on_add step c (t - c) e) ∙ ap (on_step step) q ∙ on in
    let u : t - c ≤ r = ⊎_elim (λ (w : r < t - c). absurd (clash (on_step step (t - c)) near (gap (t - c) w (omega arith))))
    (λ (w : t - c ≤ r). w) (order r (t - c)) in
    all_break g t k (c + r) (omega arith) (omega arith) (spaced.stop (omega arith))

-- from the words passed over on
pub run_after : (q g : ℕ → Bool) (k a c b end r : ℕ) → a ≤ c → b ≤ end → NoRun q g k a c → FirstRun q g k c b r
    → FirstRun q g k a end r
run_after q g k a c b end r l u none first =
    let low : c ≤ r = first.low in
    let high : r < b = first.high in
    record {
      low = omega arith;
      high = omega arith;
      none = λ t x y on. ⊎_elim (λ v. none t x v on) (λ v. first.none t v y on) (order t c);
      start = first.start;
      fits = first.fits;
    }

pub no_run_after : (q g : ℕ → Bool) (k a b c : ℕ) → NoRun q g k a b → NoRun q g k b c → NoRun q g k a c
no_run_after q g k a b c p r t u v on = ⊎_elim (λ w. p t u w on) (λ w. r t w v on) (order t b)

-- the whole run is free
pub space_fits : (g : ℕ → Bool) (c k r : ℕ) → r ≡ k → Spaced g c (c + k) r → all g c k ≡ true
space_fits g c k r e spaced = all_intro g c k (λ t a b. spaced.held t a (omega arith))

-- a step past all blocks admits the start 0 alone, as any such step does
on_capped : (step m t : ℕ) → t < m → on_step step t ≡ on_step (min step m) t
unfolding on_step
on_capped step m t l =
    ⊎_elim (λ (u : step < m). let e : min step m ≡ step = omega arith in ap (λ (x : ℕ). eqb (t % x) 0) (sym e))
    (λ (u : m ≤ step). let e : min step m ≡ m = omega arith in
    ap (λ (x : ℕ). eqb x 0) (mod-eq_of_lt (less t m step l u) ∙ sym (mod-eq_of_lt l)) ∙ ap (λ (x : ℕ). eqb (t % x) 0) (sym e))
    (order step m)
  where
    less : (t m step : ℕ) → t < m → m ≤ step → t < step
    less t m step a b = omega arith

pub capped : (g : ℕ → Bool) (from before step m k : ℕ) → before ≤ m
    → least_fit g from before (min step m) k ≡ least_fit g from before step k
unfolding least_fit
capped g from before step m k l = least_same (fit g from before (min step m) k) (fit g from before step k) 0 before (λ t a b.
    both_ways (fit g from before (min step m) k t) (fit g from before step k t)
    (λ e. is_fit g from before step k t (moved (min step m) step t (on_capped step m t (omega arith))
    (fit_is g from before (min step m) k t e)))
    (λ e. is_fit g from before (min step m) k t (moved step (min step m) t (sym (on_capped step m t (omega arith)))
    (fit_is g from before step k t e))))
  where
    moved : (a b t : ℕ) → on_step b t ≡ on_step a t → Fits g from before a k t → Fits g from before b k t
    moved a b t e x = record { low = x.low; high = x.high; free = x.free; placed = e ∙ x.placed }

-- the blocks of words that are 0
pub zero_free : (map : List ℕ) (first i : ℕ) → ((t : ℕ) → first ≤ t → t < i → get_or map t 0 ≡ 0) → (b : ℕ) → first * 64 ≤ b
    → b < i * 64 → free map b ≡ false
zero_free map first i zero b l u =
    let e : b / 64 * 64 + b % 64 ≡ b = omega arith in
    ap (free map) (sym e) ∙ free_bit map (b / 64) (b % 64) (omega arith)
    ∙ ap (λ (w : ℕ). bit w (b % 64)) (zero (b / 64) (omega arith) (omega arith)) ∙ bit_zero (b % 64)

-- a multiple behind a multiple is one
pub sum : (step a b : ℕ) → a % step ≡ 0 → b % step ≡ 0 → (a + b) % step ≡ 0
sum step a b p q = on_mod step (a + b) (on_add step a b p ∙ mod_on step b q)
