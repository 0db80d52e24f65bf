-- The turns of a search by a summary: what one comes to, and that those left are enough.
-- Assumes nothing.
use Rattle.std.specs.Prelude.{Option, Some, None}
use Rattle.std.specs.declared.ops.ControlFlow.{ControlFlow}
use Rattle.std.specs.declared.ops.ControlFlow.TheVariants.{Break, Continue}
use mathlib.Core.Path.{◌≡◌, refl, sym, ap, ◌∙◌, subst}
use mathlib.Core.Bool.{Bool, cond}
use mathlib.Core.List.{List}
use Prim.Native.Nat.{ℕ, zero, suc, ◌+◌, ◌*◌, ◌/◌, ◌≤◌, ◌<◌, min}
use native.Mathlib.Omega.{arith}
use lib.Dec.{ltb}
use lib.ListN.{length}
use borrow.Author.Tests.{lt-ltb, le-ltb}
use Rattle.map_blocks.specs.Blocks.{free, least_fit, or_else}
use Rattle.summary_groups.specs.Groups.{power}
use Rattle.summary_groups.proofs.Places.{power_power}
use Rattle.summary.specs.Summary.{group_in}
use Rattle.summary_search.specs.SearchBy.{seek_in, seek, stretch, on_hit, turns, search_down}
use Rattle.summary_search.proofs.Bounds.{Bounds, seek_bounds}

-- ---- where the summary gives a start, and where it gives none

pub bounded : (map summary : List ℕ) (k at : ℕ) → 0 < k
    → Bounds at k (0 + 64 * power (length map)) (seek summary (power (length map)) at k)
unfolding seek
bounded map summary k at some =
    let j = power_power (length map) in
    seek_bounds summary at k (power (length map)) 0 0 (64 * power (length map)) 0 (j.0, ap (λ (x : ℕ). 64 * x) j.1) some
    (λ l. omega arith)

-- a start that is given is not before `at`
pub not-before : (map summary : List ℕ) (k at t : ℕ) → 0 < k → seek summary (power (length map)) at k ≡ Break t → at ≤ t
not-before map summary k at t some e =
    let b : Bounds at k (0 + 64 * power (length map)) (Break t) =
    subst (Bounds at k (0 + 64 * power (length map))) e (bounded map summary k at some) in
    b.0

-- ---- one turn

module _ (map summary : List ℕ) (before step k d at : ℕ) where
  pub turn_none : (s : ℕ) → seek summary (power (length map)) at k ≡ Continue s → turns (suc d) map summary before step k at
      ≡ None
  unfolding turns
  turn_none s e =
      ap (λ (r : ControlFlow ℕ ℕ). on_hit r (λ t. cond (ltb before (t + k)) None
      (or_else (least_fit (free map) t (min before (t + k + stretch step)) step k)
      (turns d map summary before step k (t + stretch step + 1))))) e

  pub turn_far : (t : ℕ) → seek summary (power (length map)) at k ≡ Break t → before < t + k
      → turns (suc d) map summary before step k at ≡ None
  unfolding turns
  turn_far t e l =
      ap (λ (r : ControlFlow ℕ ℕ). on_hit r (λ t. cond (ltb before (t + k)) None
      (or_else (least_fit (free map) t (min before (t + k + stretch step)) step k)
      (turns d map summary before step k (t + stretch step + 1))))) e
      ∙ ap (λ (b : Bool). cond b None (or_else (least_fit (free map) t (min before (t + k + stretch step)) step k)
      (turns d map summary before step k (t + stretch step + 1)))) (lt-ltb before (t + k) l)

  pub turn_near : (t : ℕ) → seek summary (power (length map)) at k ≡ Break t → t + k ≤ before
      → turns (suc d) map summary before step k at
      ≡ or_else (least_fit (free map) t (min before (t + k + stretch step)) step k)
      (turns d map summary before step k (t + stretch step + 1))
  unfolding turns
  turn_near t e l =
      ap (λ (r : ControlFlow ℕ ℕ). on_hit r (λ t. cond (ltb before (t + k)) None
      (or_else (least_fit (free map) t (min before (t + k + stretch step)) step k)
      (turns d map summary before step k (t + stretch step + 1))))) e
      ∙ ap (λ (b : Bool). cond b None (or_else (least_fit (free map) t (min before (t + k + stretch step)) step k)
      (turns d map summary before step k (t + stretch step + 1)))) (le-ltb before (t + k) l)

-- a turn that begins at or behind `before` finds nothing
late : (map summary : List ℕ) (before step k : ℕ) → 0 < k → (d at : ℕ) → before ≤ at
    → turns d map summary before step k at ≡ None
unfolding turns
late map summary before step k some zero at l = refl
late map summary before step k some (suc d) at l = by (seek summary (power (length map)) at k) refl
    (bounded map summary k at some)
  where
    by : (r : ControlFlow ℕ ℕ) → seek summary (power (length map)) at k ≡ r → Bounds at k (0 + 64 * power (length map)) r
        → turns (suc d) map summary before step k at ≡ None
    by (Break t) e b = let u : at ≤ t = b.0 in turn_far map summary before step k d at t e (omega arith)
    by (Continue s) e b = turn_none map summary before step k d at s e

-- ---- the search, turn by turn

-- the turns from block `at` on give the answer, and those left are enough
pub record Turning (map summary : List ℕ) (from before step k at : ℕ) : Type 0 where
  pub left : ℕ
  pub is : turns left map summary before step k at ≡ search_down map summary from before step k
  pub room : before < left + at

pub short_of : (map summary : List ℕ) (from before step k : ℕ) → (group_in summary 0).longest < k
    → search_down map summary from before step k ≡ None
unfolding search_down
short_of map summary from before step k l =
    ap (λ (b : Bool). cond b None (turns (suc before) map summary before step k from))
    (lt-ltb (group_in summary 0).longest k l)

pub turning_first : (map summary : List ℕ) (from before step k : ℕ) → k ≤ (group_in summary 0).longest
    → Turning map summary from before step k from
unfolding search_down
turning_first map summary from before step k l = record {
  left = suc before;
  is = sym (ap (λ (b : Bool). cond b None (turns (suc before) map summary before step k from))
      (le-ltb (group_in summary 0).longest k l));
  room = omega arith;
}

module _ (map summary : List ℕ) (from before step k : ℕ) (few : length map ≤ 4096) (some : 0 < k) (at : ℕ)
    (turning : Turning map summary from before step k at) where
  pub turning_late : before ≤ at → None ≡ search_down map summary from before step k
  turning_late l = sym (late map summary before step k some turning.left at l) ∙ turning.is

  module _ (s : ℕ) (e : seek summary (power (length map)) at k ≡ Continue s) where
    turning-none : (d : ℕ) → turns d map summary before step k at ≡ search_down map summary from before step k → before < d + at
        → at < before → None ≡ search_down map summary from before step k
    turning-none zero q room u = absurd (omega arith)
    turning-none (suc d) q room u = sym (turn_none map summary before step k d at s e) ∙ q

    pub found_none : at < before → None ≡ search_down map summary from before step k
    found_none u = turning-none turning.left turning.is turning.room u

  module _ (t : ℕ) (e : seek summary (power (length map)) at k ≡ Break t) where
    turning-far : (d : ℕ) → turns d map summary before step k at ≡ search_down map summary from before step k → before < d + at
        → at < before → before < t + k → None ≡ search_down map summary from before step k
    turning-far zero q room u v = absurd (omega arith)
    turning-far (suc d) q room u v = sym (turn_far map summary before step k d at t e v) ∙ q

    pub found-far : at < before → before < t + k → None ≡ search_down map summary from before step k
    found-far u v = turning-far turning.left turning.is turning.room u v

    module _ (v : t + k ≤ before) (u : at < before) where
      turning-at : (d s : ℕ) → turns d map summary before step k at ≡ search_down map summary from before step k
          → before < d + at
          → least_fit (free map) t (min before (t + k + stretch step)) step k ≡ Some s
          → Some s ≡ search_down map summary from before step k
      turning-at zero s q room f = absurd (omega arith)
      turning-at (suc d) s q room f =
          sym (turn_near map summary before step k d at t e v
          ∙ ap (λ (r : Option ℕ). or_else r (turns d map summary before step k (t + stretch step + 1))) f) ∙ q

      pub found_at : (s : ℕ) → least_fit (free map) t (min before (t + k + stretch step)) step k ≡ Some s
          → Some s ≡ search_down map summary from before step k
      found_at s f = turning-at turning.left s turning.is turning.room f

      turning-on : (d : ℕ) → turns d map summary before step k at ≡ search_down map summary from before step k → before < d + at
          → least_fit (free map) t (min before (t + k + stretch step)) step k ≡ None
          → Turning map summary from before step k (t + stretch step + 1)
      turning-on zero q room f = absurd (omega arith)
      turning-on (suc d) q room f = record {
        left = d;
        is = sym (turn_near map summary before step k d at t e v
            ∙ ap (λ (r : Option ℕ). or_else r (turns d map summary before step k (t + stretch step + 1))) f) ∙ q;
        room = omega (arith, not-before map summary k at t some e);
      }

      pub found_nothing : least_fit (free map) t (min before (t + k + stretch step)) step k ≡ None
          → Turning map summary from before step k (t + stretch step + 1)
      found_nothing f = turning-on turning.left turning.is turning.room f

-- the search down all groups, by how many words group 0 has
pub sought : (summary : List ℕ) (at k p q : ℕ) (r : ControlFlow ℕ ℕ) → p ≡ q
    → r ≡ seek_in (64 * p / 64) summary at k 0 0 (64 * p) 0 → seek summary q at k ≡ r
unfolding seek
sought summary at k p q r e h =
    let words : 64 * p / 64 ≡ p = omega arith in
    sym (h ∙ ap (λ (x : ℕ). seek_in x summary at k 0 0 (64 * p) 0) words
    ∙ ap (λ (x : ℕ). seek_in x summary at k 0 0 (64 * x) 0) e)
