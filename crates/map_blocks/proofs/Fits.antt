-- Laws of fits and of the space behind a start.
-- Assumes nothing.
use mathlib.Core.Path.{◌≡◌, refl, ap, ◌∙◌, subst}
use mathlib.Core.Logic.{⊎_elim}
use mathlib.Core.Bool.{Bool, true, false, ◌&&◌, cond}
use Prim.Native.Nat.{ℕ, zero, suc, ◌+◌, ◌-◌, ◌%◌, ◌≤◌, ◌<◌}
use native.Mathlib.Nat.{mod-one, add-zero}
use native.Mathlib.Omega.{arith}
use lib.Dec.{leb}
use borrow.Author.Tests.{le-leb, leb-true, eq-eqb, eqb-true}
use Rattle.map_blocks.specs.Blocks.{all, on_step, fit, run, space}
use Rattle.laws.proofs.Bools.{and_left, and_right, and_both, not_true, both_ways, clash, order}
use Rattle.map_blocks.proofs.Runs.{all_intro, all_break}

-- what a fit is
pub record Fits (f : ℕ → Bool) (from before step k s : ℕ) : Type 0 where
  pub low : from ≤ s
  pub high : s + k ≤ before
  pub free : all f s k ≡ true
  pub placed : on_step step s ≡ true

module _ (f : ℕ → Bool) (from before step k s : ℕ) where
  pub fit_is : fit f from before step k s ≡ true → Fits f from before step k s
  unfolding fit
  fit_is e =
      let three : (leb from s && leb (s + k) before && all f s k) ≡ true =
      and_left (leb from s && leb (s + k) before && all f s k) (on_step step s) e in
      let two : (leb from s && leb (s + k) before) ≡ true = and_left (leb from s && leb (s + k) before) (all f s k) three in
      record {
        low = leb-true from s (and_left (leb from s) (leb (s + k) before) two);
        high = leb-true (s + k) before (and_right (leb from s) (leb (s + k) before) two);
        free = and_right (leb from s && leb (s + k) before) (all f s k) three;
        placed = and_right (leb from s && leb (s + k) before && all f s k) (on_step step s) e;
      }

  pub is_fit : Fits f from before step k s → fit f from before step k s ≡ true
  unfolding fit
  is_fit h =
      and_both (leb from s && leb (s + k) before && all f s k) (on_step step s)
      (and_both (leb from s && leb (s + k) before) (all f s k)
      (and_both (leb from s) (leb (s + k) before) (le-leb from s h.low) (le-leb (s + k) before h.high)) h.free)
      h.placed

  pub no_fit : (Fits f from before step k s → ⊥) → fit f from before step k s ≡ false
  no_fit h = not_true (fit f from before step k s) (λ e. h (fit_is e))

-- every number is a multiple of 1
pub on_one : (s : ℕ) → on_step 1 s ≡ true
unfolding on_step
on_one s = eq-eqb (s % 1) 0 (mod-one s)

pub on_mod : (step s : ℕ) → on_step step s ≡ true → s % step ≡ 0
unfolding on_step
on_mod step s e = eqb-true (s % step) 0 e

pub mod_on : (step s : ℕ) → s % step ≡ 0 → on_step step s ≡ true
unfolding on_step
mod_on step s e = eq-eqb (s % step) 0 e

-- the space behind a start
module _ (f : ℕ → Bool) where
  run_none : (s : ℕ) → run f s 0 ≡ 0
  unfolding run
  run_none s = refl

  stop_here : (s m : ℕ) → f s ≡ false → run f s (suc m) ≡ 0
  unfolding run
  stop_here s m e = ap (λ (x : Bool). cond x (suc (run f (suc s) m)) 0) e

  go_on : (s m : ℕ) → f s ≡ true → run f s (suc m) ≡ suc (run f (suc s) m)
  unfolding run
  go_on s m e = ap (λ (x : Bool). cond x (suc (run f (suc s) m)) 0) e

  -- r numbers pass, and there are no more of them or the next does not
  pub run_at : (s m r : ℕ) → r ≤ m → ((t : ℕ) → s ≤ t → t < s + r → f t ≡ true) → (r < m → f (s + r) ≡ false) → run f s m ≡ r
  run_at s zero r l held stop = let z : run f s 0 ≡ 0 = run_none s in omega arith
  run_at s (suc m) zero l held stop = stop_here s m (subst (λ (x : ℕ). f x ≡ false) (add-zero s) (stop (omega arith)))
  run_at s (suc m) (suc r) l held stop =
      go_on s m (held s (omega arith) (omega arith))
      ∙ ap suc (run_at (suc s) m r (omega arith) (λ t a b. held t (omega arith) (omega arith))
      (λ h. let e : s + suc r ≡ suc s + r = omega arith in subst (λ (x : ℕ). f x ≡ false) e (stop (omega arith))))

pub space_at : (f : ℕ → Bool) (start n r : ℕ) → start + r ≤ n → ((t : ℕ) → start ≤ t → t < start + r → f t ≡ true)
    → (start + r < n → f (start + r) ≡ false) → space f start n ≡ r
unfolding space
space_at f start n r l held stop = run_at f start (n - start) r (omega arith) held (λ h. stop (omega arith))

pub no_space : (f : ℕ → Bool) (start n : ℕ) → n ≤ start → space f start n ≡ 0
unfolding space run
no_space f start n l = let e : n - start ≡ 0 = omega arith in ap (run f start) e

-- what the space says
pub record Spaced (f : ℕ → Bool) (start n r : ℕ) : Type 0 where
  pub within : start + r ≤ n
  pub held : (t : ℕ) → start ≤ t → t < start + r → f t ≡ true
  pub stop : start + r < n → f (start + r) ≡ false

module _ (f : ℕ → Bool) where
  ran : (s m n : ℕ) → n ≡ s + m → Spaced f s n (run f s m)
  ran s zero n e =
      let z : run f s 0 ≡ 0 = run_none f s in
      record { within = omega arith; held = λ t a b. absurd (omega arith); stop = λ h. absurd (omega arith) }
  ran s (suc m) n e = by (f s) refl (ran (suc s) m n (omega arith))
    where
      by : (b : Bool) → f s ≡ b → Spaced f (suc s) n (run f (suc s) m) → Spaced f s n (run f s (suc m))
      by true p rest =
          let q : run f s (suc m) ≡ suc (run f (suc s) m) = go_on f s m p in
          let w : suc s + run f (suc s) m ≤ n = rest.within in
          let same : suc s + run f (suc s) m ≡ s + run f s (suc m) = omega arith in
          record {
            within = omega arith;
            held = λ t a b. ⊎_elim (λ u. let z : s ≡ t = omega arith in subst (λ (x : ℕ). f x ≡ true) z p)
                (λ u. rest.held t u (omega arith)) (order t (suc s));
            stop = λ h. subst (λ (x : ℕ). f x ≡ false) same (rest.stop (omega arith));
          }
      by false p rest =
          let q : run f s (suc m) ≡ 0 = stop_here f s m p in
          let same : s ≡ s + run f s (suc m) = omega arith in
          record {
            within = omega arith;
            held = λ t a b. absurd (omega arith);
            stop = λ h. subst (λ (x : ℕ). f x ≡ false) same p;
          }

pub spaced : (f : ℕ → Bool) (start n : ℕ) → start ≤ n → Spaced f start n (space f start n)
unfolding space
spaced f start n l = ran f start (n - start) n (omega arith)

-- the space behind a start is the longest k for which the start is a fit before n
pub space_longest : (f : ℕ → Bool) (start n k : ℕ) → start ≤ n → fit f 0 n 1 k start ≡ leb k (space f start n)
space_longest f start n k l = both_ways (fit f 0 n 1 k start) (leb k (space f start n)) fits within
  where
    s : Spaced f start n (space f start n)
    s = spaced f start n l

    fits : fit f 0 n 1 k start ≡ true → leb k (space f start n) ≡ true
    fits e =
        let is = fit_is f 0 n 1 k start e in
        let high : start + k ≤ n = is.high in
        ⊎_elim (λ u. absurd (clash (all f start k) is.free
        (all_break f start k (start + space f start n) (omega arith) (omega arith) (s.stop (omega arith)))))
        (λ u. le-leb k (space f start n) u) (order (space f start n) k)

    within : leb k (space f start n) ≡ true → fit f 0 n 1 k start ≡ true
    within e =
        let u : k ≤ space f start n = leb-true k (space f start n) e in
        let w : start + space f start n ≤ n = s.within in
        is_fit f 0 n 1 k start (record {
          low = omega arith;
          high = omega arith;
          free = all_intro f start k (λ t a b. s.held t a (omega arith));
          placed = on_one start;
        })
