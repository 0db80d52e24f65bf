-- The image of a worked card whose values all differ, byte by byte: the theorem `example`. In document 01's own figure, the
-- fresh image, n is the free count, start is length, and all bits of the word are ones. The bytes here are those that the
-- program in tests/ works out (ExampleFigures.antt).
-- Assumes nothing.
use mathlib.Core.Path.{◌≡◌, refl}
use mathlib.Core.List.{List, [], ◌∷◌, ◌++◌}
use lib.ListN.{replicate}
use Rattle.block_bytes.specs.Numbers.{bytes4}
use Rattle.block_seals.specs.Sealed as Sealed
use Rattle.catalogue.specs.declared.Entry.{Entry}
use Rattle.image_frames.specs.Frames.{frames}
use Rattle.image_frames.specs.Numbers.{bytes8, word_bytes}
use Rattle.image_soundness.specs.Sound.{State}
use Rattle.image.specs.Image.{entry_bytes, body, image_of}
use Rattle.image.proofs.ExampleFigures.{blocks, spare, mark_0, start_0, length_0, mark_1, start_1, length_1, map}
use Rattle.image.proofs.ExampleFigures.{head, fill, sums}

-- Sheet 0 is Open, sheet 1 Complete.
abbrev pub entries : List Entry
entries =
    record { mark = mark_0; start = start_0; length = length_0 }
    ∷ record { mark = mark_1; start = start_1; length = length_1 }
    ∷ []

abbrev pub card : State
card = record { blocks = blocks; spare = spare; entries = entries; map = map }

pub example : image_of card ≡ head ++ replicate fill 0 ++ sums
unfolding Sealed.sums Sealed.sealed bytes4 bytes8 word_bytes entry_bytes frames body image_of
example = refl
