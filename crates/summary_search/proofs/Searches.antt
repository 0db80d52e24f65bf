-- What a search by a summary gives: with any summary nothing but fits, none where group 0's longest is below k, and with the
-- map's own summary the least fit.
-- Assumes nothing.
use Rattle.std.specs.Prelude.{Option, Some, None}
use Rattle.std.specs.declared.ops.ControlFlow.{ControlFlow}
use Rattle.std.specs.declared.ops.ControlFlow.TheVariants.{Break, Continue}
use mathlib.Core.Path.{◌≡◌, refl, sym, ap, ◌∙◌}
use mathlib.Core.Logic.{⊎_elim}
use mathlib.Core.Bool.{Bool, true, false, cond}
use mathlib.Core.List.{List}
use Prim.Native.Nat.{ℕ, zero, suc, ◌+◌, ◌*◌, ◌≤◌, ◌<◌, min}
use native.Mathlib.Omega.{arith}
use lib.Dec.{leb, ltb}
use lib.ListN.{length}
use borrow.Author.Tests.{lt-ltb, lt-leb, le-leb}
use Rattle.laws.proofs.Bools.{order, clash, and_both, not_true}
use Rattle.map_blocks.specs.Blocks.{free, all, fit, least_fit, or_else}
use Rattle.map_blocks.proofs.Fits.{Fits, fit_is, is_fit}
use Rattle.map_blocks.proofs.Least.{never_both, least_at, least_none, least_passes, least_below, none_passes}
use Rattle.map_blocks.proofs.Runs.{all_intro, all_elim}
use Rattle.map_search_word.specs.Scan.{Carried}
use Rattle.summary_groups.specs.Groups.{power}
use Rattle.summary_groups.proofs.Places.{power_power, power_small, power_enough}
use Rattle.summary.specs.Summary.{group_in, usable, own_summary}
use Rattle.summary.proofs.Own.{own_right}
use Rattle.summary_search.specs.SearchBy.{seek, stretch, turns, search_down, near_of, search_by}
use Rattle.summary_search.specs.Seeking.{Located}
use Rattle.summary_search.proofs.Bounds.{Bounds}
use Rattle.summary_search.proofs.Places.{located_whole}
use Rattle.summary_search.proofs.Telling.{Says, says, since, after_since, NoneBefore, Knows, seek_true, group_true}
use Rattle.summary_search.proofs.Turns.{bounded, turn_none, turn_far, turn_near, short_of, turning_first}

-- ---- a stretch of the map

module _ (f : ℕ → Bool) (from before step k t end : ℕ) (inside : end ≤ before) (low : from ≤ t) where
  -- its least fit is a fit of the whole
  stretch_fits : (s : ℕ) → least_fit f t end step k ≡ Some s → Fits f t end step k s
  unfolding least_fit
  stretch_fits s e = fit_is f t end step k s (least_passes (fit f t end step k) 0 end s e).test

  pub whole_fits : (s : ℕ) → least_fit f t end step k ≡ Some s → Fits f from before step k s
  whole_fits s e =
      let h : Fits f t end step k s = stretch_fits s e in
      let a : t ≤ s = h.low in
      let b : s + k ≤ end = h.high in
      record { low = omega arith; high = omega arith; free = h.free; placed = h.placed }

  -- a fit of the whole that starts in it is one of its fits
  part_fits : (u : ℕ) → t ≤ u → u + k ≤ end → Fits f from before step k u → fit f t end step k u ≡ true
  part_fits u a b h = is_fit f t end step k u (record { low = a; high = b; free = h.free; placed = h.placed })

  stretch_below : (s u : ℕ) → least_fit f t end step k ≡ Some s → t ≤ u → u < s → Fits f from before step k u → ⊥
  unfolding least_fit
  stretch_below s u e a b h =
      let l : s + k ≤ end = (stretch_fits s e).high in
      clash (fit f t end step k u) (part_fits u a (omega arith) h) (least_below (fit f t end step k) 0 end s e u (omega arith)
      b)

  stretch_none : (u : ℕ) → 0 < k → least_fit f t end step k ≡ None → t ≤ u → u + k ≤ end → Fits f from before step k u → ⊥
  unfolding least_fit
  stretch_none u some e a b h =
      clash (fit f t end step k u) (part_fits u a b h)
      (none_passes (fit f t end step k) 0 end e u (omega arith) (omega arith))

-- ---- with any summary

module _ (map summary : List ℕ) (from before step k : ℕ) (some : 0 < k) where
  turns_fit : (d at t : ℕ) → from ≤ at → turns d map summary before step k at ≡ Some t → Fits (free map) from before step k t
  unfolding turns
  turns_fit zero at t l e = absurd (never_both t (sym e))
  turns_fit (suc d) at t l e =
      by (seek summary (power (length map)) at k) refl (bounded map summary k at some) (λ at' u q. turns_fit d at' t u q)
    where
      found : (u : ℕ) (r : Option ℕ) → least_fit (free map) u (min before (u + k + stretch step)) step k ≡ r → from ≤ u
          → or_else r (turns d map summary before step k (u + stretch step + 1)) ≡ Some t
          → ((at' : ℕ) → from ≤ at' → turns d map summary before step k at' ≡ Some t → Fits (free map) from before step k t)
          → Fits (free map) from before step k t
      found u (Some s) f v q on =
          whole_fits (free map) from before step k u (min before (u + k + stretch step)) (omega arith) v t (f ∙ q)
      found u None f v q on = on (u + stretch step + 1) (omega arith) q

      by : (r : ControlFlow ℕ ℕ) → seek summary (power (length map)) at k ≡ r → Bounds at k (0 + 64 * power (length map)) r
          → ((at' : ℕ) → from ≤ at' → turns d map summary before step k at' ≡ Some t → Fits (free map) from before step k t)
          → Fits (free map) from before step k t
      by (Continue s) q b on = absurd (never_both t (sym e ∙ turn_none map summary before step k d at s q))
      by (Break u) q b on =
          ⊎_elim (λ v. absurd (never_both t (sym e ∙ turn_far map summary before step k d at u q v)))
          (λ v. found u (least_fit (free map) u (min before (u + k + stretch step)) step k) refl (omega (arith, b.0))
          (sym (turn_near map summary before step k d at u q v) ∙ e) on) (order before (u + k))

  -- every start that is given is a fit
  down_fits : (t : ℕ) → search_down map summary from before step k ≡ Some t → fit (free map) from before step k t ≡ true
  down_fits t e =
      ⊎_elim (λ l. absurd (never_both t (sym e ∙ short_of map summary from before step k l)))
      (λ l. let first = turning_first map summary from before step k l in
      is_fit (free map) from before step k t (turns_fit first.left from t (omega arith) (first.is ∙ e)))
      (order (group_in summary 0).longest k)

  -- every start that is given is a fit, of the first words or of those that the groups lead to
  pub by_fits : (t : ℕ) → search_by map summary from before step k ≡ Some t → fit (free map) from before step k t ≡ true
  unfolding search_by
  by_fits t e =
      go (leb k (group_in summary 0).longest) (least_fit (free map) from (min before (from + near_of step k)) step k) refl e
    where
      go : (b : Bool) (r : Option ℕ) → least_fit (free map) from (min before (from + near_of step k)) step k ≡ r
          → cond b (or_else r (search_down map summary from before step k)) None ≡ Some t
          → fit (free map) from before step k t ≡ true
      go false r q h = absurd (never_both t (sym h))
      go true None q h = down_fits t h
      go true (Some s) q h =
          is_fit (free map) from before step k t
          (whole_fits (free map) from before step k from (min before (from + near_of step k)) (omega arith) (omega arith) t
          (q ∙ h))

-- where group 0's longest is below k there is none, whatever the map holds
pub by_none : (map summary : List ℕ) (from before step k : ℕ) → (group_in summary 0).longest < k
    → search_by map summary from before step k ≡ None
unfolding search_by
by_none map summary from before step k l =
    ap (λ (b : Bool). cond b (or_else (least_fit (free map) from (min before (from + near_of step k)) step k)
    (search_down map summary from before step k)) None) (lt-leb k (group_in summary 0).longest l)

-- ---- with the map's own summary

module _ (map : List ℕ) (n : ℕ) (summary : List ℕ) (from before step k : ℕ) (few : length map ≤ 4096)
    (fits : n ≤ 64 * length map)
    (within : before ≤ n) (own : summary ≡ own_summary map n) (some : 0 < k) where
  located : Located (power (length map)) 0 0 (64 * power (length map))
  located = located_whole (power (length map)) (power_power (length map)) (power_small (length map) few)

  -- the blocks of a fit count as free
  counts : (u : ℕ) → Fits (free map) from before step k u → all (usable map n) u k ≡ true
  unfolding usable
  counts u h =
      let b : u + k ≤ before = h.high in
      all_intro (usable map n) u k (λ t l v.
      and_both (ltb t n) (free map t) (lt-ltb t n (omega arith)) (all_elim (free map) u k h.free t l v))

  counts_since : (at u : ℕ) → at ≤ u → Fits (free map) from before step k u → all (since at (usable map n)) u k ≡ true
  counts_since at u l h =
      all_intro (since at (usable map n)) u k (λ t a b.
      after_since at (usable map n) t (omega arith) ∙ all_elim (usable map n) u k (counts u h) t a b)

  -- no fit starts before t
  abbrev Clear : ℕ → Type 0
  Clear t = (u : ℕ) → u < t → Fits (free map) from before step k u → ⊥

  none_left : Clear before → least_fit (free map) from before step k ≡ None
  unfolding least_fit
  none_left clear =
      least_none (fit (free map) from before step k) 0 before (λ t a b.
      not_true (fit (free map) from before step k t) (λ e. clear t (omega arith) (fit_is (free map) from before step k t e)))

  -- where the summary gives a start, none starts before it
  clear_hit : (at t : ℕ) → Clear at → NoneBefore (since at (usable map n)) k t → Clear t
  clear_hit at t clear none u l h =
      ⊎_elim (λ v. clear u v h)
      (λ v. clash (all (since at (usable map n)) u k) (counts_since at u v h) (none u l)) (order u at)

  -- where it gives none, none starts at all
  clear_next : (at s : ℕ) → Clear at → Carried (since at (usable map n)) k (0 + 64 * power (length map)) s → Clear before
  clear_next at s clear carried u l h =
      let q : length map ≤ power (length map) = power_enough (length map) in
      let r : u + k ≤ before = h.high in
      let v : s < k = carried.short in
      ⊎_elim (λ a. clear u a h)
      (λ a. clash (all (since at (usable map n)) u k) (counts_since at u a h) (carried.none u (omega arith))) (order u at)

  found_own : (t end : ℕ) → end ≤ before → Clear t → from ≤ t → (s : ℕ)
      → least_fit (free map) t end step k ≡ Some s
      → least_fit (free map) from before step k ≡ Some s
  unfolding least_fit
  found_own t end in_all clear l s e =
      let h : Fits (free map) from before step k s = whole_fits (free map) from before step k t end in_all l s e in
      let b : s + k ≤ before = h.high in
      least_at (fit (free map) from before step k) 0 before s (omega arith) (omega arith)
      (is_fit (free map) from before step k s h)
      (λ u a c. not_true (fit (free map) from before step k u) (λ q. below u c (fit_is (free map) from before step k u q)))
    where
      below : (u : ℕ) → u < s → Fits (free map) from before step k u → ⊥
      below u c h =
          ⊎_elim (λ a. clear u a h)
          (λ a. stretch_below (free map) from before step k t end in_all l s u e a c h)
          (order u t)

  clear_on : (t : ℕ) → Clear t → from ≤ t → least_fit (free map) t (min before (t + k + stretch step)) step k ≡ None
      → Clear (t + stretch step + 1)
  clear_on t clear l e u v h =
      let b : u + k ≤ before = h.high in
      ⊎_elim (λ a. clear u a h)
      (λ a. stretch_none (free map) from before step k t (min before (t + k + stretch step)) (omega arith) l u some e a
      (omega arith) h)
      (order u t)

  turns_own : (d at : ℕ) → from ≤ at → before < d + at → Clear at
      → turns d map summary before step k at ≡ least_fit (free map) from before step k
  unfolding turns
  turns_own zero at l room clear = sym (none_left (λ u v h. clear u (omega arith) h))
  turns_own (suc d) at l room clear =
      by (seek summary (power (length map)) at k) refl (bounded map summary k at some)
      (seek_true (usable map n) (power (length map)) summary at k some (own_right map n summary own) located)
      (λ at' a b c. turns_own d at' a b c)
    where
      found : (t : ℕ) (r : Option ℕ) → least_fit (free map) t (min before (t + k + stretch step)) step k ≡ r → at ≤ t → t
          + k ≤ before
          → Clear t
          → ((at' : ℕ) → from ≤ at' → before < d + at' → Clear at'
          → turns d map summary before step k at' ≡ least_fit (free map) from before step k)
          → or_else r (turns d map summary before step k (t + stretch step + 1)) ≡ least_fit (free map) from before step k
      found t (Some s) e a v clear' on =
          sym (found_own t (min before (t + k + stretch step)) (omega arith) clear' (omega arith) s e)
      found t None e a v clear' on =
          on (t + stretch step + 1) (omega arith) (omega arith) (clear_on t clear' (omega arith) e)

      by : (r : ControlFlow ℕ ℕ) → seek summary (power (length map)) at k ≡ r → Bounds at k (0 + 64 * power (length map)) r
          → Knows (since at (usable map n)) k (0 + 64 * power (length map)) r
          → ((at' : ℕ) → from ≤ at' → before < d + at' → Clear at'
          → turns d map summary before step k at' ≡ least_fit (free map) from before step k)
          → turns (suc d) map summary before step k at ≡ least_fit (free map) from before step k
      by (Continue s) q b knows on =
          turn_none map summary before step k d at s q ∙ sym (none_left (clear_next at s clear knows))
      by (Break t) q b knows on =
          ⊎_elim (λ v. turn_far map summary before step k d at t q v
          ∙ sym (none_left (λ u w h. clear_hit at t clear knows u (omega (arith, h.high)) h)))
          (λ v. turn_near map summary before step k d at t q v
          ∙ found t (least_fit (free map) t (min before (t + k + stretch step)) step k) refl b.0 v
          (clear_hit at t clear knows) on)
          (order before (t + k))

  -- no run is longer than group 0's longest
  long_enough : (group_in summary 0).longest < k → Clear before
  long_enough l u v h =
      let q : length map ≤ power (length map) = power_enough (length map) in
      let r : u + k ≤ before = h.high in
      let y : Says (usable map n) 0 (64 * power (length map)) (group_in summary 0) =
      says (usable map n) 0 (64 * power (length map)) (group_in summary 0)
      (group_true (usable map n) (power (length map)) summary 0 k some (own_right map n summary own) 0 0
      (64 * power (length map))
      located) in
      let z : k ≤ (group_in summary 0).longest = y.longest u k (omega arith) (omega arith) (counts u h) in
      omega arith

  -- the search down the groups gives the least fit
  down_own : search_down map summary from before step k ≡ least_fit (free map) from before step k
  down_own =
      ⊎_elim (λ l. short_of map summary from before step k l ∙ sym (none_left (long_enough l)))
      (λ l. let first = turning_first map summary from before step k l in
      sym first.is ∙ turns_own first.left from (omega arith) first.room (λ u v h. omega (arith, h.low)))
      (order (group_in summary 0).longest k)

  -- and so does the search by the summary
  pub by_own : search_by map summary from before step k ≡ least_fit (free map) from before step k
  unfolding search_by
  by_own =
      ⊎_elim (λ l. by_none map summary from before step k l ∙ sym (none_left (long_enough l)))
      (λ l. ap (λ (b : Bool). cond b (or_else (least_fit (free map) from (min before (from + near_of step k)) step k)
      (search_down map summary from before step k)) None) (le-leb k (group_in summary 0).longest l)
      ∙ go (least_fit (free map) from (min before (from + near_of step k)) step k) refl)
      (order (group_in summary 0).longest k)
    where
      go : (r : Option ℕ) → least_fit (free map) from (min before (from + near_of step k)) step k ≡ r
          → or_else r (search_down map summary from before step k) ≡ least_fit (free map) from before step k
      go None q = down_own
      go (Some s) q =
          sym (found_own from (min before (from + near_of step k)) (omega arith) (λ u v h. omega (arith, h.low)) (omega arith) s
          q)
