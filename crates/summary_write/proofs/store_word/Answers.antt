-- `summary_write::store_word` meets its contract: a word without a free block has no run.
-- Assumes nothing.

use mathlib.Core.Path.{ap, ◌∙◌}
use Prim.Native.Nat.{ℕ}
use Rattle.map_blocks.specs.Words.{bit}
use Rattle.map_blocks.proofs.Bits.{bit_zero}
use Rattle.summary_groups.proofs.Joins.{group_none}
use Rattle.summary.specs.Walks.{with_group}
use Rattle.summary_write.proofs.store_word.Goals as goal

pub returns-then-w-eq0 : goal.returns-then-w-eq0
returns-then-w-eq0 c =
    let a = c.args in
    c.store.ensures
    ∙ ap (with_group a.summary.now a.g) (group_none (bit a.w) 0 64 (λ t l.
    ap (λ (w : ℕ). bit w t) c.if-w-eq0.true ∙ bit_zero t))

pub returns : goal.returns
returns c =
    let a = c.args in
    c.store-2.ensures ∙ ap (with_group a.summary.now a.g) c.word_group.ensures
