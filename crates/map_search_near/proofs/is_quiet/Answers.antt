-- `map_search_near::is_quiet` meets its contract.
-- Assumes nothing.

use native.Mathlib.Omega.{arith}
use lib.Bits.{bit_and}
use borrow.Author.Tests.{eqb-true}
use Rattle.map_search_near.proofs.Rows.{no_pair}
use Rattle.map_search_near.proofs.is_quiet.Goals as goal

pub returns-then-sought-lt31 : goal.returns-then-sought-lt31
returns-then-sought-lt31 c = let a = c.args in
    λ e. no_pair a.map.now a.sought.k a.i c.any_pairs.result a.mostly a.sought.step
    (c.any_pairs.ensures a.sought.k a.sought.blocks.2) c.requires.2 (eqb-true (bit_and c.any_pairs.result a.mostly) 0 e)

pub returns : goal.returns
returns c = let a = c.args in
    λ e t l u on. c.any_sixteens.ensures (eqb-true c.any_sixteens.result 0 e) a.sought.k t (omega arith) l u
