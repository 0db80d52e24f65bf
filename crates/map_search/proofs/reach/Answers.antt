-- `map_search::reach` meets its contract. The loop's invariant: the words before word i are all taken.
-- Assumes nothing.

use mathlib.Core.Path.{◌≡◌, subst}
use mathlib.Core.Bool.{Bool}
use mathlib.Core.List.{List}
use Prim.Native.Nat.{ℕ, ◌+◌, ◌*◌, ◌/◌, ◌<◌, ◌≤◌}
use native.Mathlib.Omega.{arith}
use lib.ListN.{get_or}
use Rattle.map_blocks.specs.Blocks.{free}
use Rattle.map_blocks.specs.Words.{bit, in_window}
use Rattle.map_search_word.specs.Scan.{Carried}
use Rattle.map_blocks.proofs.Maps.{cut_word}
use Rattle.map_search.proofs.Words.{past_word}
use Rattle.map_search.proofs.Window.{at_start, whole_words}
use Rattle.map_search.proofs.reach.Goals as goal

-- one word more that is 0
further : (f : ℕ → Bool) (k i w : ℕ) → ((j : ℕ) → j < 64 → bit w j ≡ f (i * 64 + j)) → w ≡ 0 → Carried f k (i * 64) 0
    → Carried f k ((i + 1) * 64) 0
further f k i w same e at =
    let next : i * 64 + 64 ≡ (i + 1) * 64 = omega arith in
    subst (λ (b : ℕ). Carried f k b 0) next (past_word f k (i * 64) w same e at)

-- a word that lies in the window whole
whole : (map : List ℕ) (from before i : ℕ) → from ≤ i * 64 → i * 64 + 64 ≤ before → (j : ℕ) → j < 64
    → bit (get_or map i 0) j ≡ in_window (free map) from before (i * 64 + j)
whole map from before i a b j l =
    whole_words map from before i (i + 1) a (omega arith) i j (omega arith) (omega arith) l

pub returns-then-w-ne0 : goal.returns-then-w-ne0
returns-then-w-ne0 c =
    let a = c.args in
    record {
      from_bound = (omega arith, omega arith);
      by_index = cut_word a.map.now a.from a.before (a.from / 64) c.part.result c.part.ensures;
      by_index_2 = λ k h. at_start (free a.map.now) a.from a.before k (a.from / 64 * 64) h (omega arith);
    }

pub returns-then-last-first : goal.returns-then-last-first
returns-then-last-first c = let a = c.args in record {
  from_bound = (omega arith, omega arith);
  by_index = cut_word a.map.now a.from a.before (a.from / 64) c.part.result c.part.ensures;
  by_index_2 = λ k h. at_start (free a.map.now) a.from a.before k (a.from / 64 * 64) h (omega arith);
}

pub loop-i-init : goal.loop-i-init
loop-i-init c = λ k h. let a = c.args in
    further (in_window (free a.map.now) a.from a.before) k (a.from / 64) _
    (cut_word a.map.now a.from a.before (a.from / 64) c.part.result c.part.ensures) (omega arith)
    (at_start (free a.map.now) a.from a.before k (a.from / 64 * 64) h (omega arith))

pub returns-then-map-i-ne0 : goal.returns-then-map-i-ne0
returns-then-map-i-ne0 c = let a = c.args in record {
  from_bound = (omega arith, omega arith);
  by_index = whole a.map.now a.from a.before c.loop-i.i (omega arith) (omega arith);
  by_index_2 = c.loop-i.invariant;
}

pub loop-i-preserved : goal.loop-i-preserved
loop-i-preserved c = λ k h. let a = c.args in
    further (in_window (free a.map.now) a.from a.before) k c.loop-i.i (get_or a.map.now c.loop-i.i 0)
    (whole a.map.now a.from a.before c.loop-i.i (omega arith) (omega arith)) (omega arith) (c.loop-i.invariant k h)

pub returns : goal.returns
returns c = let a = c.args in
    let e : c.loop-i.i ≡ a.from / 64 + 8 = omega arith in record {
      from_bound = (omega arith, omega arith);
      by_index = whole a.map.now a.from a.before (a.from / 64 + 8) (omega arith) (omega arith);
      by_index_2 = λ k h. subst (λ (i : ℕ). Carried (in_window (free a.map.now) a.from a.before) k (i * 64) 0) e
          (c.loop-i.invariant k h);
    }
