-- `map_search_placed::taken::reach` meets its contract.
-- Assumes nothing.

use mathlib.Core.Path.{◌≡◌, refl, sym, subst}
use mathlib.Core.List.{List}
use mathlib.Core.Bool.{Bool, true, false}
use native.Mathlib.Omega.{arith}
use lib.Dec.{ltb}
use borrow.Author.Tests.{ltb-true}
use Rattle.std.proofs.lemmas.Bool.{ltb-false}
use Rattle.std.specs.Bool.{then_some}
use Rattle.std.specs.Prelude.{Option, MatchOption}
use Rattle.map_blocks.specs.Blocks.{free}
use mathlib.Core.Logic.{⊎_elim}
use Prim.Native.Nat.{ℕ, ◌+◌, ◌-◌, ◌*◌, ◌/◌, ◌%◌, ◌^◌, ◌<◌, ◌≤◌}
use lib.Bits.{bit_and, and_le_l}
use lib.Count.{count_leading_zeros, leading_le}
use lib.ListN.{get_or}
use Rattle.laws.proofs.Bools.{order}
use Rattle.map_search_near.proofs.Figures.{zero_free}
use Rattle.map_search_near.proofs.Rows.{first_free, none_free, zeros_taken}
use Rattle.map_search_placed.proofs.taken.reach.Goals as goal

-- a block that is found, where it lies before the end
kept : (P : Type 0) (Q : ℕ → Type 0) (b before : ℕ) → (before ≤ b → P) → (b < before → Q b)
    → MatchOption (then_some (ltb b before) b) P Q
kept P Q b before past within = by (ltb b before) refl
  where
    by : (x : Bool) → ltb b before ≡ x → MatchOption (then_some x b) P Q
    by true e = within (ltb-true b before e)
    by false e = past (ltb-false b before e)

pub overflow_add-b : goal.overflow_add-b
overflow_add-b c = let a = c.args in
    omega (arith, leading_le 64 (bit_and (get_or a.map.now (a.from / 64) 0) ((2 ^ 64 - 1) / 2 ^ (a.from % 64))))

pub returns-then-w-ne0 : goal.returns-then-w-ne0
returns-then-w-ne0 c = let a = c.args in
    let g : ℕ → Bool = free a.map.now in
    let w : ℕ = bit_and (get_or a.map.now (a.from / 64) 0) ((2 ^ 64 - 1) / 2 ^ (a.from % 64)) in
    let b : ℕ = a.from / 64 * 64 + count_leading_zeros 64 w in
    let small : get_or a.map.now (a.from / 64) 0 < 2 ^ 64 = (c.type_inv.map (a.from / 64)).fits in
    let free-at = first_free a.map.now a.from (omega arith) (omega (
      arith,
      and_le_l (get_or a.map.now (a.from / 64) 0)
          ((2 ^ 64 - 1) / 2 ^ (a.from % 64)),
    )) in
    subst (λ (r : Option ℕ). MatchOption r ((t : ℕ) → a.from ≤ t → t < a.before → g t ≡ false)
    (λ s. (a.from ≤ s) × (s < a.before) × ((t : ℕ) → a.from ≤ t → t < s → g t ≡ false))) (sym c.then_some.ensures)
    (kept _ _ b a.before (λ h t l u. free-at.1 t l (omega arith)) (λ h. (free-at.0, h, free-at.1)))

pub returns-then-first-stop : goal.returns-then-first-stop
returns-then-first-stop c = let a = c.args in
    λ t l u. none_free a.map.now a.from c.if-w-ne0.false t l (omega arith)

-- the words behind that of `from`, up to word i
up_to : (map : List ℕ) (from i : ℕ) → ((t : ℕ) → from / 64 + 1 ≤ t → t < i → get_or map t 0 ≡ 0)
    → ((t : ℕ) → from ≤ t → t < from / 64 * 64 + 64 → free map t ≡ false)
    → (t : ℕ) → from ≤ t → t < i * 64 → free map t ≡ false
up_to map from i zero here t l u =
    ⊎_elim (λ (x : t < from / 64 * 64 + 64). here t l x)
    (λ (x : from / 64 * 64 + 64 ≤ t). zero_free map (from / 64 + 1) i zero t (omega arith) u)
    (order t (from / 64 * 64 + 64))

pub returns-in_err-i : goal.returns-in_err-i
returns-in_err-i c = let a = c.args in
    let g : ℕ → Bool = free a.map.now in
    subst (λ (r : Option ℕ). MatchOption r ((t : ℕ) → a.from ≤ t → t < a.before → g t ≡ false)
    (λ s. (a.from ≤ s) × (s < a.before) × ((t : ℕ) → a.from ≤ t → t < s → g t ≡ false))) (sym c.from_residual.ensures)
    (λ t l u. up_to a.map.now a.from _ c.in_err-i.ensures (none_free a.map.now a.from c.if-w-ne0.false) t l (omega arith))

pub overflow_add-b-2 : goal.overflow_add-b-2
overflow_add-b-2 c = omega (arith, c.in_ok-i.ensures.1, leading_le 64 (get_or c.args.map.now c.in_ok-i.i 0))

pub returns : goal.returns
returns c = let a = c.args in
    let g : ℕ → Bool = free a.map.now in
    let i : ℕ = c.in_ok-i.i in
    let b : ℕ = i * 64 + count_leading_zeros 64 (get_or a.map.now i 0) in
    let low : a.from / 64 + 1 ≤ i = c.in_ok-i.ensures.0 in
    let taken : (t : ℕ) → a.from ≤ t → t < b → g t ≡ false = λ t l u. ⊎_elim
    (λ (x : t < i * 64). up_to a.map.now a.from i c.in_ok-i.ensures.2
    (none_free a.map.now a.from c.if-w-ne0.false) t l x)
    (λ (x : i * 64 ≤ t). zeros_taken a.map.now i (c.type_inv.map i).fits t x u) (order t (i * 64)) in
    subst (λ (r : Option ℕ). MatchOption r ((t : ℕ) → a.from ≤ t → t < a.before → g t ≡ false)
    (λ s. (a.from ≤ s) × (s < a.before) × ((t : ℕ) → a.from ≤ t → t < s → g t ≡ false))) (sym c.then_some-2.ensures)
    (kept _ _ b a.before (λ h t l u. taken t l (omega arith)) (λ h. (omega arith, h, taken)))
