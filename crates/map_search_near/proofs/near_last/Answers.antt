-- `map_search_near::near_last` meets its contract.
-- Assumes nothing.

use mathlib.Core.Path.{refl}
use native.Mathlib.Omega.{arith}
use Prim.Native.Nat.{ℕ, ◌+◌, ◌*◌}
use Rattle.map_blocks.specs.Blocks.{free, on_step}
use Rattle.map_search_near.proofs.Rows.{word_marks, from_marks}
use Rattle.map_search_near.proofs.near_last.Goals as goal

pub returns : goal.returns
returns c = let word = c.word_at in
    let marks = c.starts in
    let far = c.ahead in
    let start = c in
    let a = start.args in
    let base : ℕ = a.last * 64 in
    c.look.ensures.by_index (on_step a.sought.step) (free a.map.now) a.c (omega arith)
    (word_marks a.map.now a.last base _ refl refl)
    (word_marks a.map.now (a.last + 1) (base + 64) word.result (omega arith) word.ensures)
    (from_marks (on_step a.sought.step) a.c base marks.result c.part.result
    (marks.ensures base far.ensures.1) c.part.ensures) start.requires.no_run
