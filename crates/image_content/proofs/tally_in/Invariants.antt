-- `tally_in` meets its contract. The loop's invariant: counting the entries left comes to counting all of them.
-- Assumes nothing.
use Rattle.std.proofs.Common.{◌≡◌, ◌-◌, ◌≤◌}
use Rattle.image_frames.specs.Frames.{body_of}
use Rattle.image.specs.Image.{entries_in}
use Rattle.image_soundness.specs.Windows.{tally_of}
use Rattle.image_content.proofs.EntriesFrom.{rest}
use Rattle.image_content.proofs.tally_in.Given as goal

abbrev pub invariant-loop-sheet : goal.invariant-loop-sheet
invariant-loop-sheet l = record {
  inside : l.sheet ≤ l.c;
  counts : tally_of (rest (body_of l.image) 12 l.c l.sheet) l.n l.left ≡ tally_of (entries_in l.image l.c) l.n l.blocks;
}

abbrev pub decreases-loop-sheet : goal.decreases-loop-sheet
decreases-loop-sheet l = l.c - l.sheet
