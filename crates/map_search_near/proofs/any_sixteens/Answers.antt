-- `map_search_near::any_sixteens` meets its contract.
-- Assumes nothing.

use mathlib.Core.Path.{◌≡◌, sym, ◌∙◌}
use Prim.Native.Nat.{ℕ}
use lib.ListN.{get_or}
use Rattle.std.proofs.Common.{rules}
use Rattle.map_blocks.specs.Blocks.{all}
use Rattle.map_blocks.specs.Words.{bit}
use Rattle.map_search.proofs.Ored.{no_bit}
use Rattle.map_search_near.proofs.Rows.{no_sixteen}
use Rattle.map_search_near.proofs.any_sixteens.Goals as goal

pub returns : goal.returns
returns c = λ e k t l. let map = c.args.map.now in
    no_sixteen map c.args.i
    (λ u j a b. let word = c.any_of.ensures u a b in
    let says : (j : ℕ) → bit word.0 j ≡ all (bit (get_or map u 0)) j 16 = search (rules, word.1) in
    sym (says j) ∙ no_bit c.any_of.result word.0 e word.2 j) k t l
