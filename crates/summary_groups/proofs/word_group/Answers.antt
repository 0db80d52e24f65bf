-- `summary_groups::word_group` meets its contract: its three numbers make the group.
-- Assumes nothing.

use Rattle.summary_groups.proofs.Rounds.{word_is, head_none, tail_none, longest_none, head_full, tail_full, longest_full}
use Rattle.summary_groups.proofs.word_group.Goals as goal

pub returns-then-w-eq0 : goal.returns-then-w-eq0
returns-then-w-eq0 c = word_is _ 0 0 0 (head_none _ c.if-w-eq0.true) (tail_none _ c.if-w-eq0.true)
    (longest_none _ c.if-w-eq0.true)

pub returns-then-w-eq-ONES : goal.returns-then-w-eq-ONES
returns-then-w-eq-ONES c = word_is _ 64 64 64 (head_full _ c.if-w-eq-ONES.true) (tail_full _ c.if-w-eq-ONES.true)
    (longest_full _ c.if-w-eq-ONES.true)

pub returns : goal.returns
returns c = word_is _ _ _ _ c.head.ensures c.tail.ensures c.longest.ensures
