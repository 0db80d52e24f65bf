-- What is counted so far and what is still to be counted make the whole tally.
use Rattle.std.proofs.Common.{◌≡◌, drop}
use Rattle.image_soundness.specs.Windows.{tally_of}
use Rattle.image_soundness.proofs.tally_entries.Given as goal

abbrev pub invariant-loop-entry : goal.invariant-loop-entry
invariant-loop-entry l = tally_of (drop l.entry-index l.catalogue) l.n l.left ≡ tally_of l.catalogue l.n l.blocks
