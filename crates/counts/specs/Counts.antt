-- Dose counts in packed decimal (document 02, request (e)). Each definition stands under the sentence that it restates.
-- Assumes nothing.
use Rattle.std.specs.Prelude.{Bool, true, cond, ◌&&◌, List, [], ◌∷◌, ℕ, ◌+◌, ◌*◌, ◌/◌, ◌%◌, eqb, ltb, length, get_or, take}
use Rattle.std.specs.Prelude.{drop}
use Rattle.std.specs.Prelude.{Option, Some, None, Result, Ok, Err}
use Rattle.block_bytes.specs.Replaced.{replaced}
use Rattle.counts.specs.declared.CountError.{CountError}
use Rattle.counts.specs.declared.CountError.TheVariants.{WrongLength, WrongCount}

-- A count: absent, which is `None`, or a number of hundredths; and what a read gives.
abbrev pub Count : Type 0
Count = Option ℕ

abbrev pub Reading : Type 0
Reading = Result Count CountError

-- the rows of the refusals, and 0 where there is none
abbrev pub number : CountError → ℕ
number WrongLength = 3
number WrongCount = 16

module _ {T : Type 0} where
  abbrev pub number_in : Result T CountError → ℕ
  number_in (Ok x) = 0
  number_in (Err r) = number r

-- "two digits a byte, high digit first": a byte with digits 0 to 9, the number of its two digits, and the byte of a number
unfoldable pub is_pair : ℕ → Bool
is_pair x = ltb (x / 16) 10 && ltb (x % 16) 10

unfoldable pub pair_of : ℕ → ℕ
pair_of x = x / 16 * 10 + x % 16

unfoldable pub byte_of : ℕ → ℕ
byte_of n = n / 10 * 16 + n % 10

-- "A count is four bytes"
abbrev pub four : ℕ → ℕ → ℕ → ℕ → List ℕ
four a b c d = a ∷ b ∷ c ∷ d ∷ []

-- "Four bytes of FF hex mean absent; all other bytes have digits 0 to 9."
unfoldable pub is_absent : ℕ → ℕ → ℕ → ℕ → Bool
is_absent a b c d = eqb a 255 && (eqb b 255 && (eqb c 255 && eqb d 255))

unfoldable pub digits : ℕ → ℕ → ℕ → ℕ → Bool
digits a b c d = is_pair a && (is_pair b && (is_pair c && is_pair d))

-- "six whole digits and two of hundredths": the number of hundredths that the eight digits make
unfoldable pub hundredths_of : ℕ → ℕ → ℕ → ℕ → ℕ
hundredths_of a b c d = pair_of a * 1000000 + pair_of b * 10000 + pair_of c * 100 + pair_of d

-- "Reading gives absent or the count in hundredths"; refused "for another digit in the four bytes read"
unfoldable pub count_of : ℕ → ℕ → ℕ → ℕ → Reading
count_of a b c d =
    cond (is_absent a b c d) (Ok None)
    (cond (digits a b c d) (Ok (Some (hundredths_of a b c d))) (Err WrongCount))

-- "A payload holds 124 counts, at 4 times their number"; refused for a payload of another length than 496, and after that
-- "for a count number of 124 or more"
unfoldable pub read_of : List ℕ → ℕ → Reading
read_of payload which =
    cond (eqb (length payload) 496)
    (cond (ltb which 124)
    (count_of
    (get_or payload (4 * which) 0)
    (get_or payload (4 * which + 1) 0)
    (get_or payload (4 * which + 2) 0)
    (get_or payload (4 * which + 3) 0))
    (Err WrongCount))
    (Err WrongLength)

-- the four bytes of count number `which`
abbrev pub bytes_at : List ℕ → ℕ → List ℕ
bytes_at payload which = take 4 (drop (4 * which) payload)

-- the four bytes that are written for a count
unfoldable pub form_of : Count → List ℕ
form_of None = four 255 255 255 255
form_of (Some v) =
    four (byte_of (v / 1000000)) (byte_of (v / 10000 % 100)) (byte_of (v / 100 % 100)) (byte_of (v % 100))

-- "Writing covers absent and the same range", 0 to 99,999,999
unfoldable pub in_range : Count → Bool
in_range None = true
in_range (Some v) = ltb v 100000000

-- a write answers 0, or 3 for a payload of another length than 496, or after that 16 for a count number of 124 or more or a
-- number out of range
unfoldable pub write_answer : List ℕ → ℕ → Count → ℕ
write_answer payload which count = cond (eqb (length payload) 496) (cond (ltb which 124 && in_range count) 0 16) 3

-- it "changes those four bytes only", and nothing if it is refused
unfoldable pub after_write : List ℕ → ℕ → Count → List ℕ
unfolding replaced
after_write payload which count =
    cond (eqb (write_answer payload which count) 0) (replaced payload (4 * which) (form_of count)) payload
