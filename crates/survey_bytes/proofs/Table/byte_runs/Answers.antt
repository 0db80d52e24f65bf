-- `survey_bytes::Table::byte_runs` meets its contract: the byte's row has the number.
-- Assumes nothing.

use Rattle.std.proofs.Common.{ℕ, ◌%◌, ap, arith}
use Rattle.survey_bytes.specs.Bytes.{bits_of, column}
use Rattle.survey_bytes.proofs.Bytes.{runs_length, eight}
use Rattle.survey_bytes.proofs.Table.byte_runs.Goals as goal

pub returns : goal.returns
unfolding column
returns c =
    let byte : ℕ = c.args.w % 256 in
    let e = ap (λ (row : ℕ × ℕ). row.1) (c.args.self.now.ruled byte (omega arith)) in
    (e, omega (arith, e, runs_length (bits_of 8 byte), eight byte))
