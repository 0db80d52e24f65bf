-- `map_search::search_card` meets its contract, as `search` does.
-- Assumes nothing.

use Rattle.std.specs.Prelude.{Some}
use mathlib.Core.Path.{◌≡◌, sym, ap, ◌∙◌, subst}
use mathlib.Core.Bool.{Bool, false}
use Prim.Native.Nat.{ℕ, ◌+◌, ◌*◌, ◌≤◌}
use native.Mathlib.Omega.{arith}
use lib.Count.{count_leading_zeros, leading_le}
use Rattle.map_blocks.specs.Blocks.{free, all}
use Rattle.map_blocks.specs.Words.{bit, in_window}
use Rattle.map_search_word.specs.Scan.{Carried}
use Rattle.map_blocks.proofs.Bits.{bit_zero}
use Rattle.map_search_word.proofs.Ends.{first_set}
use Rattle.map_search_word.proofs.Scan.{next, gap_hit, tail_below}
use Rattle.map_search.proofs.Window.{told_least}
use Rattle.map_search.proofs.search_card.Goals as goal

pub search_on-requires : goal.search_on-requires
search_on-requires c = let at-gaps = c in
    let here = at-gaps in
    let a = here.args in
    let w : ℕ = here.reach-reached.result.bits in
    let base : ℕ = here.reach-reached.result.word * 64 in
    let f : ℕ → Bool = in_window (free a.map.now) 0 a.n in
    let none : (j : ℕ) → j + a.k ≤ 64 → all (bit w) j a.k ≡ false =
    λ j u. sym (at-gaps.gaps-g.ensures j) ∙ ap (λ (x : ℕ). bit x j) c.if-g-eq0.true ∙ bit_zero j in
    let e : base + 64 ≡ (here.reach-reached.result.word + 1) * 64 = omega arith in record {
      from_lt_before = (omega arith, omega arith, omega arith, omega arith, omega arith);
      carried = subst (λ (b : ℕ). Carried f a.k b c.tail.result) e
          (next f a.k base 0 w here.reach-reached.ensures.by_index (here.reach-reached.ensures.by_index_2 a.k (omega arith))
          c.tail.result c.tail.ensures
          (tail_below w c.tail.result a.k none c.tail.ensures) (λ t u l. absurd (omega arith)) none);
    }

pub returns-in-Some : goal.returns-in-Some
returns-in-Some c = let here = c in
    let a = here.args in
    sym c.in-Some.is
    ∙ told_least (free a.map.now) 0 a.n a.k (omega arith) here.search_on.result here.search_on.ensures

pub returns-in-None : goal.returns-in-None
returns-in-None c = let here = c in
    let a = here.args in
    sym c.in-None.is
    ∙ told_least (free a.map.now) 0 a.n a.k (omega arith) here.search_on.result here.search_on.ensures

pub overflow_add-result : goal.overflow_add-result
overflow_add-result c = omega (arith, leading_le 64 c.gaps-g.result)

pub returns : goal.returns
returns c = let at-gaps = c in
    let here = at-gaps in
    let a = here.args in
    let w : ℕ = here.reach-reached.result.bits in
    let base : ℕ = here.reach-reached.result.word * 64 in
    let g : ℕ = at-gaps.gaps-g.result in
    told_least (free a.map.now) 0 a.n a.k (omega arith) (Some (base + count_leading_zeros 64 g))
    (gap_hit (in_window (free a.map.now) 0 a.n) a.k base 0 w here.reach-reached.ensures.by_index
    (here.reach-reached.ensures.by_index_2 a.k (omega arith)) g (count_leading_zeros 64 g)
    at-gaps.gaps-g.ensures (first_set g (omega arith) (omega arith)) (λ t u l. absurd (omega arith)))
