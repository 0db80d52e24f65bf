-- The first words of the map, which are looked at before the groups.
-- Assumes nothing.
use Rattle.std.specs.Prelude.{Option, Some, None}
use mathlib.Core.Path.{◌≡◌, sym, ap, ◌∙◌}
use mathlib.Core.Bool.{Bool, cond}
use mathlib.Core.List.{List}
use Prim.Native.Nat.{ℕ, ◌+◌, ◌≤◌, ◌<◌, min}
use lib.Dec.{ltb}
use borrow.Author.Tests.{lt-ltb, le-ltb, le-leb}
use Rattle.map_blocks.specs.Blocks.{free, least_fit, or_else}
use Rattle.summary.specs.Summary.{group_in}
use Rattle.summary_search.specs.SearchBy.{search_down, near_of, search_by}

module _ (step k : ℕ) where
  pub near_apart : 8 < step → 0 ≡ near_of step k
  near_apart l = ap (λ (b : Bool). cond b 0 (cond (ltb 16 k) 0 512)) (sym (lt-ltb 8 step l))

  pub near_long : step ≤ 8 → 16 < k → 0 ≡ near_of step k
  near_long u l =
      ap (λ (b : Bool). cond b 0 512) (sym (lt-ltb 16 k l))
      ∙ ap (λ (b : Bool). cond b 0 (cond (ltb 16 k) 0 512)) (sym (le-ltb 8 step u))

  pub near_few : step ≤ 8 → k ≤ 16 → 512 ≡ near_of step k
  near_few u l =
      ap (λ (b : Bool). cond b 0 512) (sym (le-ltb 16 k l))
      ∙ ap (λ (b : Bool). cond b 0 (cond (ltb 16 k) 0 512)) (sym (le-ltb 8 step u))

-- what the search by a summary comes to
module _ (map summary : List ℕ) (from before step k : ℕ) (l : k ≤ (group_in summary 0).longest) where
  begun : (r : Option ℕ) → least_fit (free map) from (min before (from + near_of step k)) step k ≡ r
      → or_else r (search_down map summary from before step k) ≡ search_by map summary from before step k
  unfolding search_by
  begun r e =
      ap (λ (x : Option ℕ). or_else x (search_down map summary from before step k)) (sym e)
      ∙ ap (λ (b : Bool). cond b (or_else (least_fit (free map) from (min before (from + near_of step k)) step k)
      (search_down map summary from before step k)) None) (sym (le-leb k (group_in summary 0).longest l))

  pub found_near : (s : ℕ) → least_fit (free map) from (min before (from + near_of step k)) step k ≡ Some s
      → Some s ≡ search_by map summary from before step k
  found_near s e = begun (Some s) e

  pub none_near : least_fit (free map) from (min before (from + near_of step k)) step k ≡ None
      → search_down map summary from before step k ≡ search_by map summary from before step k
  none_near e = begun None e
