-- `move_blocks` meets its contract. The invariant: the first i of the blocks are moved, and all others are as they were.
-- Assumes nothing.

use mathlib.Core.Path.{◌≡◌}
use lib.ListN.{length}
use Rattle.closing_moves.specs.Moved.{moved}
use Rattle.closing_moves.proofs.move_blocks.Given as goal

abbrev pub invariant-loop-i : goal.invariant-loop-i
invariant-loop-i l = (l.card ≡ moved l.initial.card l.to l.from l.i) × (length l.card ≡ length l.initial.card)
