-- A number in decimal, and what such digits read as. proofs/Decimals.antt has the laws: the digits read as the number
-- (`reads_back`), all are digits (`all_digits_lem`), and only 0 begins with a 0 (`no_leading_zero`).
-- Assumes nothing.
use Rattle.std.specs.Prelude.{Bool, true, ◌&&◌, List, [], ◌∷◌, ◌++◌, ℕ, zero, suc, ◌+◌, ◌-◌, ◌*◌, ◌/◌, ◌%◌, leb}

-- The digits of a number, the most significant first, and none for 0; at most `most` of them.
unfoldable pub digits_of : ℕ → ℕ → List ℕ
digits_of zero n = []
digits_of (suc most) zero = []
digits_of (suc most) (suc n) = digits_of most (suc n / 10) ++ (0x30 + suc n % 10) ∷ []

-- A number in decimal. It has no more digits than its value.
unfoldable pub decimal : ℕ → List ℕ
unfolding digits_of
decimal zero = 0x30 ∷ []
decimal (suc n) = digits_of (suc n) (suc n)

-- A number, and the byte behind it.
unfoldable pub numeral : ℕ → ℕ → List ℕ
numeral n behind = decimal n ++ behind ∷ []

-- What digits read as, behind those that read as `before`.
unfoldable pub read_from : ℕ → List ℕ → ℕ
read_from before [] = before
read_from before (x ∷ xs) = read_from (before * 10 + (x - 0x30)) xs

-- Every byte is a digit.
unfoldable pub all_digits : List ℕ → Bool
all_digits [] = true
all_digits (x ∷ xs) = leb 0x30 x && leb x 0x39 && all_digits xs
