-- `release_in` meets its contract. The loop's invariant: releasing the parts left comes to releasing all of them.
-- Assumes nothing.
use Rattle.std.proofs.Common.{◌-◌, ◌≤◌}
use Rattle.image_frames.specs.Frames.{body_of}
use Rattle.image.specs.Image.{entries_in}
use Rattle.image_content.proofs.EntriesFrom.{rest}
use Rattle.image_content.proofs.Passing.{Left}
use Rattle.image_content.proofs.release_in.Given as goal

abbrev pub invariant-loop-sheet : goal.invariant-loop-sheet
invariant-loop-sheet l = record {
  inside : l.sheet ≤ l.c;
  left : Left l.lo (entries_in l.image l.c) l.initial.scratch (rest (body_of l.image) 12 l.c l.sheet)
      l.stand l.scratch;
}

abbrev pub decreases-loop-sheet : goal.decreases-loop-sheet
decreases-loop-sheet l = l.c - l.sheet
