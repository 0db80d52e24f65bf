-- `survey_bytes::byte_tail` meets its contract: 1 more than the byte has as many zeros at its tail as the byte has ones.
-- Assumes nothing.

use Prim.Native.Nat.{ℕ, ◌%◌}
use native.Mathlib.Omega.{arith}
use Rattle.survey_bytes.specs.Bytes.{bits_of}
use Rattle.survey_bytes.proofs.Ends.{tail_byte, tail_length, bits_length}
use Rattle.survey_bytes.proofs.byte_tail.Goals as goal

pub returns : goal.returns
returns c =
    let w : ℕ = c.args.w in
    let e = tail_byte (w % 256) (omega arith) in
    (e, omega (arith, e, tail_length (bits_of 8 (w % 256)), bits_length 8 (w % 256)))
