-- `summary::right_below` meets its contract: a group is right where its word tells so, or where its halves are right and tell
-- so.
-- Assumes nothing.
use Rattle.std.proofs.Common.{subst, arith}
use Rattle.summary_groups.specs.Places.{Sited}
use Rattle.summary_groups.proofs.Places.{sited_pos, sited_left, sited_right}
use Rattle.summary.proofs.Checking.{refuted, word_decides, halves-decide, first_wrong, second_wrong}
use Rattle.summary.proofs.+right_below.Goals as goal

pub returns-then-size-eq1 : goal.returns-then-size-eq1
returns-then-size-eq1 t c =
    word_decides _ _ c.args.summary.now _ _ _ (subst (Sited _ _ _) c.if-size-eq1.true c.requires.1) c.word_agrees.ensures

pub right_below-requires : goal.right_below-requires
right_below-requires t c = (
  omega (arith, sited_pos _ _ _ _ c.requires.1),
  (c.requires.0, sited_left _ _ _ _ c.requires.1 c.if-size-eq1.false),
)

pub right_below-requires-then-right_below : goal.right_below-requires-then-right_below
right_below-requires-then-right_below t c = (
  omega (arith, sited_pos _ _ _ _ c.requires.1),
  (c.requires.0, sited_right _ _ _ _ c.requires.1 c.if-size-eq1.false),
)

pub returns-then-right_below-2 : goal.returns-then-right_below-2
returns-then-right_below-2 t c =
    halves-decide _ _ c.args.summary.now _ _ _ c.requires.1 c.if-size-eq1.false _
    (c.right_below.ensures.0 c.if-right_below.true)
    (c.right_below-then-right_below.ensures.0 c.if-right_below-2.true)
    c.halves_agree.ensures

pub returns-else-right_below-2 : goal.returns-else-right_below-2
returns-else-right_below-2 t c =
    refuted _ (second_wrong _ _ c.args.summary.now _ (c.right_below-then-right_below.ensures.1 c.if-right_below-2.false))

pub returns-else-right_below : goal.returns-else-right_below
returns-else-right_below t c =
    refuted _ (first_wrong _ _ c.args.summary.now _ (c.right_below.ensures.1 c.if-right_below.false))
