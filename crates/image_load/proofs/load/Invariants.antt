-- The entries before `sheet` are those of the image.
use Rattle.std.proofs.Common.{◌≡◌, ◌+◌, ◌*◌, ◌<◌, ℕ, get_or}
use Rattle.catalogue.specs.Entries.{zeros}
use Rattle.image_frames.specs.Frames.{body_of}
use Rattle.image.specs.Image.{entry_from}
use Rattle.image_load.proofs.load.Given as goal

abbrev pub invariant-loop-sheet : goal.invariant-loop-sheet
invariant-loop-sheet l =
    (j : ℕ) → j < l.sheet → get_or l.catalogue j zeros ≡ entry_from (body_of l.image) (4 * (3 + 3 * j))
