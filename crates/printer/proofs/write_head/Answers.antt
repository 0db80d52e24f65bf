-- `write_head` meets its contract.
-- Assumes nothing.
use Rattle.printer.proofs.Written.{then}
use Rattle.printer.proofs.write_head.Goals as goal

pub returns : goal.returns
returns c = then c.write_card-second.ensures c.write_runs.ensures
