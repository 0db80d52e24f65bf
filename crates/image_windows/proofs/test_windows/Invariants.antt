-- The windows before this one pass.
use Rattle.std.proofs.Common.{◌≡◌, ◌<◌, ℕ, true, length}
use Rattle.image_soundness.specs.Windows.{window_start, state_window_passes}
use Rattle.image_windows.proofs.test_windows.Given as goal

abbrev pub invariant-loop-i : goal.invariant-loop-i
invariant-loop-i l = (j : ℕ) → j < l.i
    → state_window_passes l.map l.catalogue (length l.initial.scratch) l.n (window_start j) ≡ true
