-- The words of a map stay below 2 to the power of 64, whatever is called but a load.
-- Assumes nothing.
use Prim.Native.Nat.{ℕ, ◌*◌, ◌≤◌, ◌<◌}
use mathlib.Core.Path.{◌≡◌, sym, subst}
use mathlib.Core.Logic.{⊎_elim}
use mathlib.Core.Bool.{Bool, true, false, ◌&&◌, cond}
use mathlib.Core.List.{List}
use native.Mathlib.Omega.{arith}
use lib.Dec.{ltb}
use lib.ListN.{length, get_or, get_or-eq_default}
use Rattle.laws.proofs.Bools.{order}
use Rattle.map_blocks.specs.Blocks.{free}
use Rattle.map_blocks.specs.Maps.{in_run, map_of, marked, fresh_map}
use Rattle.map_blocks.proofs.Maps.{map_at, map_length, pack_lt}
use Rattle.closing.specs.Closed.{closed_map}
use Rattle.card.specs.Calls.{Kept}
use Rattle.card.specs.Public.{Public}
use Rattle.power_cuts.specs.Sorts.{sort_of, loads}
use Rattle.power_cuts.proofs.Deeds.{Deed, nothing, took, put, marks, released, closed, began, loaded}
use Rattle.power_cuts.proofs.Own.{no_loading}

abbrev pub Words : List ℕ → Type 0
Words map = (i : ℕ) → get_or map i 0 < 18446744073709551616

of_map : (f : ℕ → Bool) (w : ℕ) → Words (map_of f w)
of_map f w i =
    ⊎_elim
    (λ (l : i < w). subst (λ (x : ℕ). x < 18446744073709551616) (sym (map_at f w i l)) (pack_lt f (i * 64) 64))
    (λ (l : w ≤ i). subst (λ (x : ℕ). x < 18446744073709551616)
    (sym (get_or-eq_default (map_of f w) 0 {n = i} (omega (arith, map_length f w)))) (omega arith))
    (order i w)

marked_words : (map : List ℕ) (start k : ℕ) (to : Bool) → Words (marked map start k to)
unfolding marked
marked_words map start k to = of_map (λ b. cond (in_run start k b) to (free map b)) (length map)

fresh_words : (n w : ℕ) → Words (fresh_map n w)
unfolding fresh_map
fresh_words n w = of_map (λ b. ltb b n) w

pub keeps_words : (s t : Kept) (c : Public) (d : Bool) → Deed s t c d → (loads (sort_of c) && d) ≡ false → Words s.map
    → Words t.map
unfolding closed_map
keeps_words s t c d (nothing e z) n w = subst (λ (u : Kept). Words u.map) (sym e) w
keeps_words s t c d (took i j sheet start count from k total x asked is) n w =
    subst Words (sym x.map_now) (marked_words s.map from k false)
keeps_words s t c d (put sheet start count place payload i x) n w = subst Words (sym x.map_now) w
keeps_words s t c d (marks i sheet mark x) n w = subst Words (sym x.map_now) w
keeps_words s t c d (released i j sheet x) n w = subst Words (sym x.map_now) (marked_words s.map _ _ true)
keeps_words s t c d (closed i j x) n w = subst Words (sym x.map_now) (of_map _ (length s.map))
keeps_words s t c d (began i j x) n w =
    subst Words (sym x.map_now) (fresh_words t.shape.blocks (length s.map))
keeps_words s t c d (loaded i j x) n w = absurd (no_loading c d i j n)
