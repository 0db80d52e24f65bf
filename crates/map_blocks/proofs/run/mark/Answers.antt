-- `map_blocks::run::mark` meets its contract. The loop's invariant is `Rewritten`: the words passed are those of the marked
-- map.
-- Assumes nothing.

use mathlib.Core.Path.{◌≡◌, sym, ap₂, ◌∙◌, subst}
use mathlib.Core.Logic.{inl, inr}
use mathlib.Core.Bool.{Bool, ◌&&◌, cond}
use mathlib.Core.List.{List}
use Prim.Native.Nat.{ℕ, ◌≤◌, ◌<◌, ◌+◌, ◌*◌, ◌^◌}
use native.Mathlib.Omega.{arith}
use lib.Dec.{leb, ltb}
use lib.ListN.{length, get_or, set}
use Rattle.map_blocks.specs.Blocks.{free}
use Rattle.map_blocks.specs.Maps.{marked}
use Rattle.map_blocks.specs.Words.{bit}
use Rattle.map_blocks.proofs.Maps.{free_bit}
use Rattle.map_blocks.proofs.run.Rewrite.{Rewritten, begin, turn, finish, outside}
use Rattle.map_blocks.proofs.run.mark.Invariants.{goal}
use Rattle.map_blocks.proofs.run.mark.Goals as owed

-- one word, with the run's part in it marked
word : (old : List ℕ) (start k : ℕ) (to : Bool) (i : ℕ) (map : List ℕ) (v m : ℕ)
    → Rewritten (goal old start k to) old (i * 64) map → i < length map → v < 2 ^ 64
    → ((j : ℕ) → j < 64 → bit m j ≡ (leb start (i * 64 + j) && ltb (i * 64 + j) (start + k)))
    → ((j : ℕ) → j < 64 → bit v j ≡ cond (bit m j) to (bit (get_or map i 0) j))
    → Rewritten (goal old start k to) old ((i + 1) * 64) (set map i v)
word old start k to i map v m at u small mask says =
    let e : i * 64 + 64 ≡ (i + 1) * 64 = omega arith in
    subst (λ (x : ℕ). Rewritten (goal old start k to) old x (set map i v)) e
    (turn (goal old start k to) old i map v at u small
    (λ j l. says j l ∙ ap₂ (λ (x y : Bool). cond x to y) (mask j l)
    (sym (free_bit map i j l) ∙ at.left (i * 64 + j) (omega arith))))

all_done : (old : List ℕ) (start k : ℕ) (to : Bool) (base : ℕ) (map : List ℕ) → start + k ≤ base
    → Rewritten (goal old start k to) old base map → map ≡ marked old start k to
unfolding marked
all_done old start k to base map h at = finish (goal old start k to) old base map at
    (λ b l u. outside start k b to (free old b) (inr (omega arith)))

pub loop-i-init : owed.loop-i-init
loop-i-init c = begin _ _ _ (λ i l. omega (arith, c.type_inv.map i)) (λ b l. outside _ _ b _ _ (inl (omega arith)))

pub loop-i-preserved : owed.loop-i-preserved
loop-i-preserved c = let at = c in
    let a = at.args in
    let map : List ℕ = at.loop-i.map in
    let long : length map ≡ length a.map.now = at.loop-i.invariant.long in
    word a.map.now a.start a.k a.to at.loop-i.i map c.set_bits.result c.part.result at.loop-i.invariant
    (omega arith) (omega arith) c.part.ensures c.set_bits.ensures

pub shape_of-map : owed.shape_of-map
shape_of-map c = c.loop-i.invariant.long

pub returns : owed.returns
returns c = let loop = c.loop-i in
    let a = c.args in
    all_done a.map.now a.start a.k a.to (loop.i * 64) loop.map (omega arith) loop.invariant
