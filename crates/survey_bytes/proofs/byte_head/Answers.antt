-- `survey_bytes::byte_head` meets its contract: the zeros at the head of the complement are the ones at the head of the byte.
-- Assumes nothing.

use Prim.Native.Nat.{ℕ, ◌%◌}
use native.Mathlib.Omega.{arith}
use Rattle.survey_bytes.proofs.Ends.{head_byte, head_reach}
use Rattle.survey_bytes.proofs.byte_head.Goals as goal

pub returns : goal.returns
returns c =
    let w : ℕ = c.args.w in
    let e = head_byte (w % 256) (omega arith) in
    (e, omega (arith, e, (head_reach 8 (w % 256)).within))
