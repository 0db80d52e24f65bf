-- `map_search_word::scan_word` meets its contract: each way out by its law in `Scan.antt`.
-- Assumes nothing.

use mathlib.Core.Path.{◌≡◌, sym, ap, ◌∙◌, subst}
use mathlib.Core.Bool.{true, false}
use Prim.Native.Nat.{ℕ, ◌≤◌, ◌<◌, ◌-◌, ◌+◌, min}
use native.Mathlib.Omega.{arith}
use lib.Count.{count_leading_zeros, leading_le}
use Rattle.map_blocks.specs.Blocks.{all}
use Rattle.map_blocks.specs.Words.{bit}
use Rattle.map_search_word.specs.Scan.{Tail, Least}
use Rattle.map_blocks.proofs.Bits.{bit_zero}
use Rattle.map_blocks.proofs.Runs.{all_elim}
use Rattle.map_search_word.proofs.Ends.{first_set}
use Rattle.map_search_word.proofs.Scan.{prefix, core_fails, tail_below, whole, next, head_fails, head_hit, gap_hit}
use Rattle.map_search_word.proofs.scan_word.Goals.{After-has_all}
use Rattle.map_search_word.proofs.scan_word.Goals as goal

-- the prefix test: the first bits of the word, 64 at the most, as far as they are wanted
tested : (c : After-has_all) → c.has_all.result
    ≡ all (bit c.args.w) 0
    (min (c.args.sought.k - c.args.s) 64)
tested c =
    let start = c in
    let e : c.min.result ≡ min (start.args.sought.k - start.args.s) 64 =
    c.min.ensures in
    c.has_all.ensures ∙ prefix start.args.w c.span.result c.min.result (omega arith)
    c.span.ensures ∙ ap (all (bit start.args.w) 0) e

-- it failed
early : (c : After-has_all) → c.has_all.result ≡ false → all (bit c.args.w) 0
    (min (c.args.sought.k - c.args.s) 64) ≡ false
early c failed = sym (tested c) ∙ failed

pub returns-then-wanted-gt64 : goal.returns-then-wanted-gt64
returns-then-wanted-gt64 c = let here = c in
    let start = here in
    let w : ℕ = start.args.w in
    let e : min (start.args.sought.k - start.args.s) 64 ≡ 64 = omega arith in
    let ones : all (bit w) 0 64 ≡ true = ap (all (bit w) 0) (sym e)
    ∙ sym (tested (goal.at.returns-then-wanted-gt64 c).After-has_all) ∙ c.if-has_all.true in record {
      bounded = (omega arith, omega arith);
      by_index = λ f same at. whole f _ _ _ w same at (omega arith)
          (λ j l. all_elim (bit w) 0 64 ones j (omega arith) (omega arith));
    }

pub returns-then-has_all : goal.returns-then-has_all
returns-then-has_all c = let here = c in
    let start = here in
    let w : ℕ = start.args.w in
    let e : min (start.args.sought.k - start.args.s) 64 ≡ start.args.sought.k - start.args.s = omega arith in
    let ones : all (bit w) 0 (start.args.sought.k - start.args.s) ≡ true = ap (all (bit w) 0) (sym e)
    ∙ sym (tested (goal.at.returns-then-has_all c).After-has_all)
    ∙ c.if-has_all.true in record {
      bounded = omega (arith, c.run_start.ensures);
      by_index = λ f same at. subst (Least f start.args.sought.k) (sym c.run_start.ensures)
          (head_hit f _ _ _ w same at (omega arith) ones (omega arith));
    }

pub returns-then-g-eq0 : goal.returns-then-g-eq0
returns-then-g-eq0 c = let at-if1 = c in
    let start = at-if1 in
    let w : ℕ = start.args.w in
    let tail : Tail w c.tail.result = c.tail.ensures in
    let none : (j : ℕ) → j + start.args.sought.k ≤ 64 → all (bit w) j start.args.sought.k ≡ false =
    λ j u. sym (c.gaps-g.ensures j) ∙ ap (λ (x : ℕ). bit x j) c.if-g-eq0.true ∙ bit_zero j in
    let below : c.tail.result < start.args.sought.k = tail_below w c.tail.result start.args.sought.k none tail in record {
      bounded = (below, omega (arith, tail.within));
      by_index = λ f same at. next f _ _ _ w same at c.tail.result tail below
          (head_fails f _ _ _ w same at _ (omega arith) (omega arith) (omega arith)
          (early (goal.at.returns-then-g-eq0 c).After-has_all c.if-has_all.false)) none;
    }

pub overflow_add-result-then-has_all-2 : goal.overflow_add-result-then-has_all-2
overflow_add-result-then-has_all-2 c = omega (arith, leading_le 64 c.gaps-g.result)

pub returns-then-has_all-2 : goal.returns-then-has_all-2
returns-then-has_all-2 c = let at-if1 = c in
    let start = at-if1 in
    let w : ℕ = start.args.w in
    let g : ℕ = c.gaps-g.result in record {
      bounded = omega (arith, leading_le 64 g);
      by_index = λ f same at.
          gap_hit f _ _ _ w same at g (count_leading_zeros 64 g) c.gaps-g.ensures (first_set g (omega arith) (omega arith))
          (head_fails f _ _ _ w same at _ (omega arith) (omega arith) (omega arith)
          (early (goal.at.returns-then-has_all-2 c).After-has_all c.if-has_all.false));
    }

pub returns : goal.returns
returns c = let at-if1 = c in
    let start = at-if1 in
    let w : ℕ = start.args.w in
    let tail : Tail w c.tail-2.result = c.tail-2.ensures in
    let none : (j : ℕ) → j + start.args.sought.k ≤ 64 → all (bit w) j start.args.sought.k ≡ false =
    core_fails w start.args.sought.core start.args.sought.k start.args.sought.shared
    (sym c.has_all-2.ensures ∙ c.if-has_all-2.false) in
    let below : c.tail-2.result < start.args.sought.k = tail_below w c.tail-2.result start.args.sought.k none tail in record {
      bounded = (below, omega (arith, tail.within));
      by_index = λ f same at. next f _ _ _ w same at c.tail-2.result tail below
          (head_fails f _ _ _ w same at _ (omega arith) (omega arith) (omega arith)
          (early (goal.at.returns c).After-has_all c.if-has_all.false)) none;
    }
