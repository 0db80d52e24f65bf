-- `any_size::test_windows`: all windows pass, up to one that fails.
-- Assumes nothing.
use Rattle.std.proofs.Common.{◌*◌, ◌∙◌, ap, sym, length, arith, ℕ}
use Rattle.image_soundness.specs.Windows.{state_window_passes}
use Rattle.image_soundness.proofs.Windowed.{state_window_is, window_fails, windows_told}
use Rattle.image_windows.proofs.any_size.test_windows.Goals as goal

pub returns-then-not-test_window : goal.returns-then-not-test_window
returns-then-not-test_window c =
    let a = c.args in
    let lo : ℕ = c.loop-i.i * 4096 in
    window_fails a.map.now a.catalogue.now (length a.scratch.now) a.n c.loop-i.i lo (omega arith) (omega arith)
    (state_window_is a.map.now a.catalogue.now (length a.scratch.now) a.n lo c.requires
    ∙ ap (λ (m : ℕ). state_window_passes a.map.now a.catalogue.now m a.n lo) (sym c.loop-i.auto.scratch)
    ∙ sym c.test_window.ensures ∙ c.if-not-test_window.true)

pub returns : goal.returns
returns c =
    let a = c.args in
    windows_told a.map.now a.catalogue.now (length a.scratch.now) a.n c.loop-i.i (omega arith)
    (λ j h. state_window_is a.map.now a.catalogue.now (length a.scratch.now) a.n (4096 * j) c.requires ∙ c.loop-i.invariant j h)
