-- `tally_together` meets its contract. The loop's invariant: counting the entries left comes to counting all of them.
-- Assumes nothing.
use Rattle.std.proofs.Common.{◌≡◌}
use Rattle.image.specs.Image.{entries_from}
use Rattle.image_soundness.specs.Windows.{tally_of}
use Rattle.image_content.proofs.EntriesFrom.{rest}
use Rattle.image_content.proofs.tally_together.Given as goal

abbrev pub invariant-loop-i : goal.invariant-loop-i
invariant-loop-i l =
    tally_of (rest l.image l.at l.count l.i) l.n l.left ≡ tally_of (entries_from l.image l.at l.count) l.n l.blocks
