-- `words::copy_from` meets its contract. The loop's invariant: the words before i are those of the map.
-- Assumes nothing.

use Rattle.std.proofs.Common.{arith}
use Rattle.image_soundness.proofs.Rounds.{words_all}
use Rattle.image_soundness.proofs.words.copy_from.Goals as goal

pub returns : goal.returns
returns c = words_all c.args.map.now _ c.args.a c.loop-i.i _ (omega arith) (omega arith) c.loop-i.invariant
