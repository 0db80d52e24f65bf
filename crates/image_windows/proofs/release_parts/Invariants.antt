-- What the entries that are left make of the scratch is what all of them make.
use Rattle.std.proofs.Common.{◌≡◌, ◌&&◌, drop}
use Rattle.image_soundness.specs.Windows.{parts_stand, scratch_over}
use Rattle.image_windows.proofs.release_parts.Given as goal

abbrev pub invariant-loop-entry : goal.invariant-loop-entry
invariant-loop-entry l = record {
  stand : (l.stand && parts_stand (drop l.entry-index l.catalogue) l.lo l.scratch)
      ≡ parts_stand l.catalogue l.lo l.initial.scratch;
  left : scratch_over (drop l.entry-index l.catalogue) l.lo l.scratch ≡ scratch_over l.catalogue l.lo l.initial.scratch;
}
