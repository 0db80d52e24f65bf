-- `survey_bytes::Table::byte_longest` meets its contract: the byte's row has the number.
-- Assumes nothing.

use Rattle.std.proofs.Common.{ℕ, ◌%◌, ap, arith}
use Rattle.survey_bytes.specs.Bytes.{column}
use Rattle.survey_bytes.proofs.Table.byte_longest.Goals as goal

pub returns : goal.returns
unfolding column
returns c = ap (λ (row : ℕ × ℕ). row.0) (c.args.self.now.ruled (c.args.w % 256) (omega arith))
