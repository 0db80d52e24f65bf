-- `summary::free_word` meets its contract: a word with the bits from n on set to 0, or no free block.
-- Assumes nothing.

use mathlib.Core.Path.{◌≡◌, sym, ap, ◌∙◌}
use mathlib.Core.List.{List}
use Prim.Native.Nat.{ℕ, ◌+◌, ◌*◌}
use native.Mathlib.Nat.{zero-add}
use native.Mathlib.Omega.{arith}
use Rattle.map_blocks.specs.Words.{bit}
use Rattle.map_blocks.proofs.Bits.{bit_zero}
use Rattle.map_blocks.proofs.Maps.{cut_word}
use Rattle.summary_groups.proofs.Joins.{group_same}
use Rattle.summary.specs.Summary.{usable}
use Rattle.summary.proofs.Usable.{from_n, in_window_lem}
use Rattle.summary.proofs.free_word.Goals as goal

pub returns-then-n-base : goal.returns-then-n-base
returns-then-n-base c =
    let a = c.args in
    group_same (bit 0) (usable a.map.now a.n) 0 (64 * a.i) 64 (λ j l.
    bit_zero (0 + j) ∙ sym (from_n a.map.now a.n (64 * a.i + j) (omega arith)))

pub returns : goal.returns
returns c =
    let a = c.args in
    let map : List ℕ = a.map.now in
    let e : a.i * 64 ≡ 64 * a.i = omega arith in
    group_same (bit _) (usable map a.n) 0 (64 * a.i) 64 (λ j l.
    ap (bit _) (zero-add j) ∙ cut_word map 0 a.n a.i c.part.result c.part.ensures j l
    ∙ in_window_lem map a.n (a.i * 64 + j) ∙ ap (λ (b : ℕ). usable map a.n (b + j)) e)
