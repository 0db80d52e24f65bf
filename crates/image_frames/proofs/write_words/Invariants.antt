-- `write_words` meets its contract. The loop's invariant: the first i words were written from number k on.
-- Assumes nothing.

use lib.ListN.{take}
use Rattle.image_frames.proofs.Stored.{Written}
use Rattle.image_frames.specs.Numbers.{word_bytes}
use Rattle.image_frames.proofs.write_words.Given as goal

abbrev pub invariant-loop-i : goal.invariant-loop-i
invariant-loop-i l = Written l.initial.image l.k (word_bytes (take l.i l.words)) l.image
