-- What a call may write. That it holds is `leaves_finished_courses` in proofs/Writes.antt.
-- Assumes nothing.
use Rattle.std.specs.Prelude.{ℕ, ◌≡◌, false}
use Rattle.card.specs.Calls.{Kept}
use Rattle.card.specs.Public.{Public, Manner, Beside, ends, kept_after}
use Rattle.power_cuts.specs.Held.{Sound, Finished, Untouched}
use Rattle.power_cuts.specs.Sorts.{sort_of, unsettles}

-- From a sound state every public call but release, close, fresh and load, by whomever it is made, under any limits, by the map
-- or guided by any summary, leaves each block that a Complete sheet or a paused course holds as it is, held by the same sheet
-- at
-- the same place.
abbrev pub LeavesFinishedCourses : Type 0
LeavesFinishedCourses =
    (m : Manner) (s : Kept) (b : Beside) (c : Public) → Sound s → unsettles (sort_of c) ≡ false
    → (sheet start count : ℕ) → Finished s sheet start count → Untouched s (kept_after (ends m s b c)) sheet start count
