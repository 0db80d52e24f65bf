-- The entries before `sheet` are written behind the head.
use Rattle.std.proofs.Common.{◌++◌, length}
use Rattle.block_bytes.specs.Numbers.{bytes4}
use Rattle.image_save.proofs.Saves.{Listed}
use Rattle.image_save.proofs.write_image.Given as goal

abbrev pub invariant-loop-sheet : goal.invariant-loop-sheet
invariant-loop-sheet l =
    Listed l.fn.image (bytes4 l.n ++ bytes4 l.free ++ bytes4 (length l.catalogue)) l.catalogue l.sheet l.image
