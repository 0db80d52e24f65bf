-- `map_search_placed::search_placed` meets its contract: the plain search is the one from 0 on with a step of 1.
-- Assumes nothing.

use mathlib.Core.Path.{◌≡◌, ap, ◌∙◌}
use native.Mathlib.Omega.{arith}
use mathlib.Core.Bool.{false}
use Prim.Native.Nat.{ℕ, ◌<◌, min}
use Rattle.map_blocks.specs.Blocks.{free, fit, least_fit}
use Rattle.map_search_near.proofs.Figures.{found_none, empty_window, past_free, begun, capped}
use Rattle.map_search_placed.proofs.search_placed.Goals.{In_ok-b}
use Rattle.map_search_placed.proofs.search_placed.Goals as goal

-- no fit starts before the first free block
none-to : (c : In_ok-b) (t : ℕ) → t < c.in_ok-b.b
    → fit (free c.args.map.now)
    c.args.from
    c.args.before
    c.args.step
    c.args.k t ≡ false
none-to c =
    let a = c.args in
    past_free (free a.map.now) a.from a.before a.step a.k c.in_ok-b.b (omega arith)
    (λ t l u v. c.in_ok-b.ensures.2 t l u)

-- the search may begin there
from_there : (c : In_ok-b)
    → least_fit (free c.args.map.now) c.in_ok-b.b
    c.args.before
    c.args.step
    c.args.k
    ≡ least_fit (free c.args.map.now)
    c.args.from
    c.args.before
    c.args.step
    c.args.k
from_there c =
    let a = c.args in
    begun (free a.map.now) a.from a.before a.step a.k c.in_ok-b.b c.in_ok-b.ensures.0 (none-to c)

pub returns-then-from-eq0 : goal.returns-then-from-eq0
returns-then-from-eq0 c = let a = c.args in
    let start : 0 ≡ a.from = omega arith in
    let every : 1 ≡ a.step = omega arith in
    c.search.ensures ∙ ap (λ (x : ℕ). least_fit (free a.map.now) x a.before 1 a.k) start
    ∙ ap (λ (x : ℕ). least_fit (free a.map.now) a.from a.before x a.k) every

pub returns-then-before-from : goal.returns-then-before-from
returns-then-before-from c = let a = c.args in
    empty_window (free a.map.now) a.from a.before a.step a.k (omega arith) c.if-before-from.true

pub returns-then-before-k : goal.returns-then-before-k
returns-then-before-k c = let a = c.args in
    found_none (free a.map.now) a.from a.before a.step a.k 0 (omega arith) (λ t l. absurd (omega arith))

pub search_far-requires : goal.search_far-requires
search_far-requires c = let a = c.args in
    let e : c.min.result ≡ min a.step 262144 = c.min.ensures in
    (omega arith, omega arith, omega arith, omega arith, omega arith, omega arith, omega arith)

pub returns-then-step-ge512 : goal.returns-then-step-ge512
returns-then-step-ge512 c = let a = c.args in
    c.search_far.ensures ∙ ap (λ (x : ℕ). least_fit (free a.map.now) a.from a.before
    x a.k)
    c.min.ensures
    ∙ capped (free a.map.now) a.from a.before a.step 262144 a.k (omega arith)

pub returns-in_err-b : goal.returns-in_err-b
returns-in_err-b c = let a = c.args in
    c.from_residual.ensures ∙ found_none (free a.map.now) a.from a.before a.step a.k a.before (omega arith)
    (past_free (free a.map.now) a.from a.before a.step a.k a.before (omega arith) (λ t l u v. c.in_err-b.ensures t l u))

pub returns-then-step-ge64 : goal.returns-then-step-ge64
returns-then-step-ge64 c = c.search_far-then-step-ge64.ensures
    ∙ from_there (goal.at.returns-then-step-ge64 c).In_ok-b

pub returns-in-Some : goal.returns-in-Some
returns-in-Some c = c.in-Some.ensures ∙ from_there (goal.at.returns-in-Some c).In_ok-b

pub returns : goal.returns
returns c = c.search_near.ensures ∙ from_there (goal.at.returns c).In_ok-b
