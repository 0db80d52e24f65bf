-- `map_search_near::near_words` meets its contract. The loop's invariant: m has the starts of word i from c on, and no
-- run starts before that word.
-- Assumes nothing.

use mathlib.Core.Path.{◌≡◌}
use mathlib.Core.Bool.{◌&&◌}
use Prim.Native.Nat.{ℕ, ◌+◌, ◌*◌, ◌%◌, ◌^◌, ◌<◌}
use lib.Dec.{leb}
use Rattle.map_blocks.specs.Blocks.{free, on_step}
use Rattle.map_search_starts.specs.Starts.{Marks, NoRun}
use Rattle.map_search_near.proofs.near_words.Given as goal

abbrev pub invariant-loop-i : goal.invariant-loop-i
invariant-loop-i l = (l.far < l.sought.step) × ((l.i * 64 + l.far) % l.sought.step ≡ 0) × (l.m < 2 ^ 64)
    × Marks (λ (b : ℕ). on_step l.sought.step b && leb l.c b) (l.i * 64) l.m
    × NoRun (on_step l.sought.step) (free l.map) l.sought.k l.c (l.i * 64)
