-- Counts as C has them: 4,294,967,295, the number that four bytes of FF make, stands for absent. It goes with a refusal too,
-- so that a caller who does not look at the number sees no dose of 0.
-- Assumes nothing.
use Rattle.std.specs.Prelude.{cond, ℕ, eqb}
use Rattle.std.specs.Prelude.{Some, None, Ok, Err}
use Rattle.counts.specs.Counts.{Count, Reading}
use Rattle.counts.specs.declared.CountError.TheVariants.{WrongLength, WrongCount}
use Rattle.counts.specs.declared.CountReply.{CountReply}

-- what a read hands back: 0, 3 or 16, and the hundredths
abbrev pub count_reply : Reading → CountReply
count_reply (Ok None) = record { number = 0; hundredths = 4294967295 }
count_reply (Ok (Some v)) = record { number = 0; hundredths = v }
count_reply (Err WrongLength) = record { number = 3; hundredths = 4294967295 }
count_reply (Err WrongCount) = record { number = 16; hundredths = 4294967295 }

-- the count that a number handed to a write stands for
abbrev pub count_from : ℕ → Count
count_from h = cond (eqb h 4294967295) None (Some h)
