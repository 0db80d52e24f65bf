-- The map's own summary: every group is right. What the walks over all groups come to.
-- Assumes nothing.
use mathlib.Core.Path.{◌≡◌, sym, subst}
use mathlib.Core.Bool.{Bool, true, false}
use mathlib.Core.List.{List}
use Prim.Native.Nat.{ℕ, ◌+◌, ◌*◌, ◌<◌}
use lib.ListN.{length}
use Rattle.laws.proofs.Bools.{not_true}
use Rattle.summary_groups.specs.Groups.{power}
use Rattle.summary_groups.specs.Places.{Sited}
use Rattle.summary_groups.proofs.Places.{power_power, power_small, below_zero, sited_zero}
use Rattle.summary.specs.Summary.{group_in, group_at, usable, own_summary, is_own, Matched}
use Rattle.summary.specs.Walks.{RightBelow, Decides}
use Rattle.summary.proofs.Numbers.{summary_at, summary_only, is_own_lem, own_is}

pub own_right : (map : List ℕ) (n : ℕ) (s : List ℕ) → s ≡ own_summary map n → (h : ℕ) → h + 1 < 2 * power (length map)
    → group_in s h ≡ group_at (usable map n) (power (length map)) h
unfolding own_summary
own_right map n s e h l =
    subst (λ (x : List ℕ). group_in x h ≡ group_at (usable map n) (power (length map)) h) (sym e)
    (summary_at (usable map n) (power (length map)) h l)

module _ (map : List ℕ) (n : ℕ) (s : List ℕ) (lent : Matched map n s) where
  -- the summary is the map's own if every group is right
  pub right_own : RightBelow (usable map n) (power (length map)) s 0 → s ≡ own_summary map n
  unfolding own_summary
  right_own r = summary_only (usable map n) (power (length map)) s lent.long (λ h l. r h l (below_zero h))

  pub decided : (r : Bool) → Decides r (RightBelow (usable map n) (power (length map)) s 0) → r ≡ is_own map n s
  decided true d = sym (own_is map n s (right_own (d.0 mathlib.Core.Path.refl)))
  decided false d =
      sym (not_true (is_own map n s) (λ e. d.1 mathlib.Core.Path.refl (λ h l b. own_right map n s (is_own_lem map n s e) h l)))

-- group 0 is all words
pub sited_whole : (map : List ℕ) (n : ℕ) (s : List ℕ) (p : ℕ) → Matched map n s → p ≡ power (length map)
    → Sited (power (length map)) 0 0 p
sited_whole map n s p lent e =
    subst (Sited (power (length map)) 0 0) (sym e)
    (sited_zero (power (length map)) (power_power (length map)) (power_small (length map) lent.few))
