-- `release_together` meets its contract. The loop's invariant: releasing the parts left comes to releasing all of them.
-- Assumes nothing.
use Rattle.image.specs.Image.{entries_from}
use Rattle.image_content.proofs.EntriesFrom.{rest}
use Rattle.image_content.proofs.Passing.{Left}
use Rattle.image_content.proofs.release_together.Given as goal

abbrev pub invariant-loop-i : goal.invariant-loop-i
invariant-loop-i l =
    Left l.lo (entries_from l.image l.at l.count) l.initial.scratch (rest l.image l.at l.count l.i) l.stand l.scratch
