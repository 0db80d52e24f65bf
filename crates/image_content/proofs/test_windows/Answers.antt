-- `test_windows`: all windows pass, up to one that fails.
-- Assumes nothing.
use Rattle.std.proofs.Common.{◌*◌, ◌∙◌, ap, sym, length, arith, ℕ}
use Rattle.image.specs.Image.{entries_in, map_in}
use Rattle.image_soundness.specs.Windows.{state_window_passes}
use Rattle.image_soundness.proofs.Windowed.{state_window_fails, state_windows_told}
use Rattle.image_content.proofs.test_windows.Goals as goal

pub returns-then-not-test_window : goal.returns-then-not-test_window
returns-then-not-test_window c =
    let a = c.args in
    let lo : ℕ = c.loop-i.i * 4096 in
    let map = map_in a.image.now a.n a.c in
    let es = entries_in a.image.now a.c in
    state_window_fails map es (length a.scratch.now) a.n c.loop-i.i lo (omega arith) (omega arith)
    (ap (λ (m : ℕ). state_window_passes map es m a.n lo) (sym c.loop-i.auto.scratch) ∙ sym c.test_window.ensures
    ∙ c.if-not-test_window.true)

pub returns : goal.returns
returns c =
    let a = c.args in
    state_windows_told (map_in a.image.now a.n a.c) (entries_in a.image.now a.c) (length a.scratch.now) a.n c.loop-i.i
    (omega arith) c.loop-i.invariant
