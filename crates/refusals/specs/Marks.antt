-- The standings that a call admits which changes the mark of an entry and no more, as pause and resume do. What each of them
-- ensures is in Effects.antt, by the rows of the table; that both say the same is in proofs/Marks.antt.
-- Assumes nothing.
use Rattle.std.specs.Prelude.{Bool, false}
use Rattle.catalogue_standings.specs.declared.Standing.{Standing}
use Rattle.catalogue_standings.specs.declared.Standing.TheVariants.{Absent, Paused, PausedWith, Open, Complete, Damaged}
use Rattle.refusals.specs.declared.Admits.{Admits}

abbrev pub is_admitted : Admits → Standing → Bool
is_admitted a Absent = a.absent
is_admitted a Paused = a.paused
is_admitted a (PausedWith s l) = a.pausedwith
is_admitted a (Open s l) = a.open
is_admitted a (Complete s l) = a.complete
is_admitted a Damaged = false
