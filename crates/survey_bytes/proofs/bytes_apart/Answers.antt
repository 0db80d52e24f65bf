-- `survey_bytes::bytes_apart` meets its contract.
-- Assumes nothing.

use borrow.Author.Tests.{eqb-true}
use Rattle.survey_bytes.proofs.Edges.{apart}
use Rattle.survey_bytes.proofs.bytes_apart.Goals as goal

pub returns : goal.returns
returns c = λ e. apart 7 c.args.w (eqb-true _ _ e)
