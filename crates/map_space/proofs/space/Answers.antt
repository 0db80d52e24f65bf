-- `map_space::space` meets its contract. The loop's invariant: the blocks from `start` to word i are free.
-- Assumes nothing.

use mathlib.Core.Path.{◌≡◌, refl, sym, subst}
use mathlib.Core.Bool.{Bool, false}
use Prim.Native.Nat.{ℕ, ◌+◌, ◌-◌, ◌*◌, ◌/◌, ◌%◌, ◌^◌, ◌≤◌, ◌<◌, min}
use native.Mathlib.Omega.{arith}
use lib.ListN.{get_or}
use lib.Count.{count_leading_zeros, leading_le}
use Rattle.map_blocks.specs.Blocks.{free}
use Rattle.map_blocks.proofs.Fits.{no_space, space_at}
use Rattle.map_search_word.proofs.Ends.{First, first_set}
use Rattle.map_space.proofs.Taken.{head_free, head-taken, head-before, none_taken}
use Rattle.map_space.proofs.Taken.{Takes, later_word, from_start, is-taken, before-taken}
use Rattle.map_space.proofs.space.Goals.{In-loop-i}
use Rattle.map_space.proofs.space.Goals as goal

pub returns-then-n-start : goal.returns-then-n-start
returns-then-n-start c = let a = c.args in
    sym (no_space (free a.map.now) a.start a.n c.if-n-start.true)

pub returns-then-head-ne0 : goal.returns-then-head-ne0
returns-then-head-ne0 c = let a = c.args in
    let g : ℕ → Bool = free a.map.now in
    let w : ℕ = get_or a.map.now (a.start / 64) 0 in
    let fits : w < 2 ^ 64 = (c.type_inv.map (a.start / 64)).fits in
    let head : ℕ = (((2 ^ 64 - 1) - w) * 2 ^ (a.start % 64)) % 2 ^ 64 in
    let r : ℕ = count_leading_zeros 64 head in
    let first : First head r = first_set head (omega arith) (omega arith) in
    let is : c.min.result ≡ min r (a.n - a.start) = c.min.ensures in
    sym (space_at g a.start a.n c.min.result (omega arith)
    (λ t l u. head-before a.map.now a.start w refl fits r first t l (omega arith))
    (λ h. let e : r ≡ c.min.result = omega arith in
    subst (λ (x : ℕ). g (a.start + x) ≡ false) e (head-taken a.map.now a.start w refl fits r first)))

-- the taken blocks of word i
takes : (c : In-loop-i) → Takes (free c.args.map.now) c.args.start (c.loop-i.i * 64)
    ((2 ^ 64 - 1) - get_or c.args.map.now c.loop-i.i 0)
takes c = later_word c.args.map.now c.args.start c.loop-i.i _ refl (c.type_inv.map c.loop-i.i).fits (omega arith)

pub loop-i-init : goal.loop-i-init
loop-i-init c = λ t l u. let a = c.args in
    head_free a.map.now a.start _ refl (c.type_inv.map (a.start / 64)).fits c.if-head-ne0.false t l (omega arith)

pub overflow_add-i : goal.overflow_add-i
overflow_add-i c = omega (arith, leading_le)

pub loop-i-preserved : goal.loop-i-preserved
loop-i-preserved c = λ t l u. let a = c.args in
    none_taken (free a.map.now) a.start (c.loop-i.i * 64) _ (takes (goal.at.loop-i-preserved c).In-loop-i)
    c.loop-i.invariant c.if-taken-ne0.false t l (omega arith)

pub returns-then-taken-ne0 : goal.returns-then-taken-ne0
returns-then-taken-ne0 c = let a = c.args in
    let i : ℕ = c.loop-i.i in
    let g : ℕ → Bool = free a.map.now in
    let taken : ℕ = (2 ^ 64 - 1) - get_or a.map.now i 0 in
    let r : ℕ = count_leading_zeros 64 taken in
    let first : First taken r = first_set taken (omega arith) (omega arith) in
    let takes-it : Takes g a.start (i * 64) taken = takes (goal.at.returns-then-taken-ne0 c).In-loop-i in
    let here : a.start ≤ i * 64 + r = from_start g a.start (i * 64) taken takes-it c.loop-i.invariant r first in
    let is : c.min-then-taken-ne0.result ≡ min (i * 64 + r) a.n = c.min-then-taken-ne0.ensures in
    sym (space_at g a.start a.n (c.min-then-taken-ne0.result - a.start) (omega arith)
    (λ t l u. before-taken g a.start (i * 64) taken takes-it c.loop-i.invariant r first t l (omega arith))
    (λ h. let e : i * 64 + r ≡ a.start + (c.min-then-taken-ne0.result - a.start) = omega arith in
    subst (λ (x : ℕ). g x ≡ false) e (is-taken g a.start (i * 64) taken takes-it c.loop-i.invariant r first)))

pub returns : goal.returns
returns c = let a = c.args in
    sym (space_at (free a.map.now) a.start a.n (a.n - a.start) (omega arith)
    (λ t l u. c.loop-i.invariant t l (omega arith)) (λ h. absurd (omega arith)))
