-- `summary_search::search_by` meets its contract.
-- Assumes nothing.

use mathlib.Core.Path.{sym, ◌∙◌}
use Prim.Native.Nat.{◌<◌}
use native.Mathlib.Omega.{arith}
use lib.ListN.{length, get_or}
use Rattle.summary_groups.proofs.Places.{power_pos}
use Rattle.summary_search.proofs.Near.{found_near, none_near}
use Rattle.summary_search.proofs.Searches.{by_none}
use Rattle.summary_search.proofs.search_by.Goals as goal

pub bounds-summary-2 : goal.bounds-summary-2
bounds-summary-2 c = omega (arith, power_pos (length c.args.map.now))

pub look_near-requires : goal.look_near-requires
look_near-requires c =
    (omega (arith, c.requires.0, c.requires.1), c.requires.1, c.requires.3, c.requires.4)

pub returns-in-Some : goal.returns-in-Some
returns-in-Some c = found_near _ _ _ _ _ _ c.if-k-summary.true _ (sym c.look_near.ensures ∙ c.in-Some.is)

pub returns-in-None : goal.returns-in-None
returns-in-None c =
    c.search_down.ensures ∙ none_near _ _ _ _ _ _ c.if-k-summary.true (sym c.look_near.ensures ∙ c.in-None.is)

pub returns : goal.returns
returns c = let a = c.args in
    let l : get_or a.summary.now 2 0 < a.k = omega (arith, c.if-k-summary.false) in
    sym (by_none a.map.now a.summary.now a.from a.before a.step a.k l)
