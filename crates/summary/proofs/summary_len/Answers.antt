-- `summary::summary_len` meets its contract: the width of group 0 is the least power of two not below w.
-- Assumes nothing.

use Rattle.std.proofs.Common.{◌≡◌, arith}
use Rattle.summary_groups.specs.Groups.{power}
use Rattle.summary_groups.proofs.Places.{power_pos, power_small}
use Rattle.summary.proofs.Width.{width_is}
use Rattle.summary.proofs.summary_len.Goals as goal
use Rattle.summary.proofs.summary_len.Goals.{After-next_power_of_two}

wide : (c : After-next_power_of_two) → c.next_power_of_two.result ≡ power c.args.w
wide c = let told = c.next_power_of_two.ensures in width_is _ _ told.power told.lower_bound told.upper_bound

pub overflow_mul-result : goal.overflow_mul-result
overflow_mul-result c = omega (arith, wide c, power_small c.args.w c.requires)

pub overflow_sub-result : goal.overflow_sub-result
overflow_sub-result c = omega (arith, wide c, power_pos c.args.w)

pub overflow_mul-result-2 : goal.overflow_mul-result-2
overflow_mul-result-2 c = omega (arith, wide c, power_small c.args.w c.requires)

pub returns : goal.returns
returns c = rw (wide c)
