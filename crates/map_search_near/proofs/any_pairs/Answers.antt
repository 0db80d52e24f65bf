-- `map_search_near::any_pairs` meets its contract.
-- Assumes nothing.

use mathlib.Core.Path.{◌≡◌, refl}
use native.Mathlib.Omega.{arith}
use mathlib.Core.Bool.{true}
use Prim.Native.Nat.{ℕ, ◌+◌, ◌*◌, ◌<◌}
use lib.ListN.{get_or}
use Rattle.std.proofs.Common.{rules}
use Rattle.map_blocks.specs.Blocks.{free, all}
use Rattle.map_blocks.specs.Words.{bit}
use Rattle.map_blocks.proofs.Masks.{has_all_elim}
use Rattle.map_search_starts.specs.Starts.{Marks, Alone}
use Rattle.map_search_near.proofs.Rows.{word_marks}
use Rattle.map_search_near.proofs.any_pairs.Goals as goal

pub returns : goal.returns
returns c = λ k lone u j a b l e.
    let map = c.args.map.now in
    let word = c.any_of.ensures u a b in
    let pair : (k base : ℕ) → Marks (free map) base (get_or map u 0) → Marks (free map) (base + 64) (get_or map (u + 1) 0)
    → Alone k c.args.lone → (j : ℕ) → j < 64 → all (free map) (base + j) k ≡ true → bit word.0 j ≡ true =
    λ k base. search (rules, word.1) in
    has_all_elim c.any_of.result word.0 word.2 j l
    (pair k (u * 64) (word_marks map u (u * 64) (get_or map u 0) refl refl)
    (word_marks map (u + 1) (u * 64 + 64) (get_or map (u + 1) 0) (omega arith) refl) lone j l e)
