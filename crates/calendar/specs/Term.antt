-- The term of a course (document 02, request (m)): "A sheet must show only from its first day to its last, both included.
-- Place 0 starts with these days, 4 bytes each"; "a larger stored day is compared as it is".
-- Assumes nothing.
use Rattle.std.specs.Prelude.{Result, Ok, Err, Bool, cond, List, ◌++◌, ℕ, eqb, length}
use Rattle.block_bytes.specs.Numbers.{bytes4, number_at}
use Rattle.block_bytes.specs.Replaced.{replaced}
use Rattle.calendar.specs.Calendar.{in_span}
use Rattle.calendar.specs.declared.WrongLength.{WrongLength}

pub record Term : Type 0 where
  pub first : ℕ
  pub last : ℕ

-- the two days that a payload starts with, each a stored number
unfoldable pub term_of : List ℕ → Term
term_of payload = record { first = number_at payload 0; last = number_at payload 4 }

-- "First after last never shows": then no day is in the term
unfoldable pub in_term : Term → ℕ → Bool
in_term term day = in_span term.first term.last day

-- what is answered of a write: 0, or the row of the refusal
abbrev pub wrong_length : ℕ
wrong_length = 3

module _ {T : Type 0} where
  abbrev pub number_in : Result T WrongLength → ℕ
  number_in (Ok x) = 0
  number_in (Err r) = wrong_length

-- a write of the two days answers 0, or 3 for a payload of another length than 496; it changes those eight bytes only, and
-- nothing if it is refused
unfoldable pub term_answer : List ℕ → ℕ
term_answer payload = cond (eqb (length payload) 496) 0 wrong_length

unfoldable pub with_term : List ℕ → ℕ → ℕ → List ℕ
with_term payload first last =
    cond (eqb (length payload) 496) (replaced payload 0 (bytes4 first ++ bytes4 last)) payload
