-- The windows before this one pass. With a scratch of 64 words at most that is what `test_window` says of each.
use Rattle.std.proofs.Common.{◌≡◌, ◌*◌, ◌<◌, ℕ, true, length}
use Rattle.image_soundness.specs.Windows.{state_window_passes}
use Rattle.image_windows.proofs.any_size.test_windows.Given as goal

abbrev pub invariant-loop-i : goal.invariant-loop-i
invariant-loop-i l = (j : ℕ) → j < l.i
    → state_window_passes l.map l.catalogue (length l.initial.scratch) l.n (4096 * j) ≡ true
