-- `map_blocks::run::fresh` meets its contract. The loop's invariant is `Rewritten`: the words passed are those of a fresh map.
-- Assumes nothing.

use mathlib.Core.Path.{◌≡◌, subst}
use mathlib.Core.List.{List}
use Prim.Native.Nat.{ℕ, ◌+◌, ◌*◌, ◌≤◌}
use native.Mathlib.Omega.{arith}
use lib.Dec.{ltb}
use lib.ListN.{length, set}
use Rattle.map_blocks.specs.Maps.{fresh_map}
use Rattle.map_blocks.proofs.run.Rewrite.{Rewritten, begin, turn, finish}
use Rattle.map_blocks.proofs.run.fresh.Goals as goal

whole : (n : ℕ) (old : List ℕ) (i : ℕ) (map : List ℕ) → length old ≤ i → Rewritten (λ b. ltb b n) old (i * 64) map
    → map ≡ fresh_map n (length old)
unfolding fresh_map
whole n old i map h m = finish (λ b. ltb b n) old (i * 64) map m (λ b l u. absurd (omega arith))

pub loop-i-init : goal.loop-i-init
loop-i-init c = begin _ _ _ (λ i l. omega (arith, c.type_inv.map i)) (λ b l. absurd (omega arith))

pub loop-i-preserved : goal.loop-i-preserved
loop-i-preserved c = let loop = c.loop-i in
    let a = c.args in
    let i : ℕ = loop.i in
    let e : i * 64 + 64 ≡ (i + 1) * 64 = omega arith in
    let long : length loop.map ≡ length a.map.now = loop.invariant.long in
    subst (λ (b : ℕ). Rewritten (λ t. ltb t a.n) a.map.now b (set loop.map i c.fresh_word.result)) e
    (turn (λ t. ltb t a.n) a.map.now i loop.map c.fresh_word.result loop.invariant (omega arith)
    (omega arith) c.fresh_word.ensures)

pub shape_of-map : goal.shape_of-map
shape_of-map c = c.loop-i.invariant.long

pub returns : goal.returns
returns c = let loop = c.loop-i in
    let long : length loop.map ≡ length c.args.map.now = loop.invariant.long in
    whole _ _ loop.i _ (omega arith) loop.invariant
