-- `closing::close_next`: a round, where no extent waits and where one does.
-- Assumes nothing.
use Rattle.std.proofs.Common.{refl}
use Rattle.closing.proofs.Steps.{no_round, one_round}
use Rattle.closing.proofs.close_next.Goals as goal

pub returns-in_default : goal.returns-in_default
returns-in_default c =
    let e = no_round _ _ _ c.in_default.ensures.value in (e.0, e.1, e.2, refl, refl)

pub returns : goal.returns
returns c = one_round _ _ _ _ _ _ c.in-Some.ensures.value c.move_extent.ensures
