-- `map_search::groups::any_free` meets its contract.
-- Assumes nothing.

use mathlib.Core.Path.{◌≡◌, sym, ◌∙◌}
use Prim.Native.Nat.{◌<◌, ◌^◌}
use native.Mathlib.Omega.{arith}
use Rattle.std.proofs.Common.{rules, get_or}
use Rattle.map_search.proofs.Ored.{none_of}
use Rattle.map_search.proofs.groups.any_free.Goals as goal

pub returns : goal.returns
returns c = λ z t a b. let word = c.any_of.ensures t a b in
    let same : word.0 ≡ get_or c.args.map.now t 0 = search (rules, word.1) in
    let small : get_or c.args.map.now t 0 < 2 ^ 64 = omega (arith, c.type_inv.map t) in
    sym same ∙ none_of c.any_of.result word.0 z word.2 (omega arith)
