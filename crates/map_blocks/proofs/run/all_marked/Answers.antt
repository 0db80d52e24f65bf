-- `map_blocks::run::all_marked` meets its contract. The loop's invariant: the blocks passed are in the state asked for.
-- Assumes nothing.

use mathlib.Core.Path.{◌≡◌, refl, sym, ap, ◌∙◌}
use mathlib.Core.Logic.{⊎_elim}
use mathlib.Core.Bool.{Bool, not, cond}
use mathlib.Core.List.{List}
use Prim.Native.Nat.{ℕ, ◌<◌, ◌+◌, ◌*◌}
use native.Mathlib.Omega.{arith}
use lib.ListN.{get_or}
use Rattle.map_blocks.specs.Maps.{in_state}
use Rattle.map_blocks.specs.Words.{bit}
use Rattle.laws.proofs.Bools.{order}
use Rattle.map_blocks.proofs.Maps.{free_bit}
use Rattle.map_blocks.proofs.Runs.{all_intro}
use Rattle.map_blocks.proofs.run.Test.{holds, fails}
use Rattle.map_blocks.proofs.run.all_marked.Goals as goal

-- the state of a word's blocks, by its bits
shown : (map : List ℕ) (state : Bool) (i w : ℕ)
    → ((j : ℕ) → j < 64 → bit w j ≡ cond state (bit (get_or map i 0) j) (not (bit (get_or map i 0) j)))
    → (j : ℕ) → j < 64 → bit w j ≡ in_state map state (i * 64 + j)
shown map state i w says j l = says j l ∙ ap (λ (x : Bool). cond state x (not x)) (sym (free_bit map i j l))

pub loop-i-init : goal.loop-i-init
loop-i-init c = λ t a b d. absurd (omega arith)

pub returns-then-not-has_all : goal.returns-then-not-has_all
returns-then-not-has_all c = let a = c.args in
    let state = c.in_state in
    sym (fails (in_state a.map.now a.state) a.start (a.start + a.k) (c.loop-i.i * 64) state.result c.part.result
    c.part.ensures (shown a.map.now a.state c.loop-i.i state.result state.ensures)
    a.k refl (sym c.has_all.ensures ∙ c.if-not-has_all.true))

pub loop-i-preserved : goal.loop-i-preserved
loop-i-preserved c = let a = c.args in
    let state = c.in_state in
    λ t l u v. ⊎_elim (λ b. c.loop-i.invariant t l b v)
    (λ g. holds (in_state a.map.now a.state) a.start (a.start + a.k) (c.loop-i.i * 64) state.result c.part.result
    c.part.ensures (shown a.map.now a.state c.loop-i.i state.result state.ensures)
    (sym c.has_all.ensures ∙ c.if-not-has_all.false) t g (omega arith) l v)
    (order t (c.loop-i.i * 64))

pub returns : goal.returns
returns c = let a = c.args in
    sym (all_intro (in_state a.map.now a.state) a.start a.k (λ t l u. c.loop-i.invariant t l (omega arith) u))
