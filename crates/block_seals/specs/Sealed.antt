-- A sealed block and the tests of a block, over lists of bytes (document 01, "Shape, catalogue, blocks").
-- Assumes nothing.
use Rattle.std.specs.Prelude.{Bool, true, ◌&&◌, List, [], ◌∷◌, ◌++◌, ℕ, ◌+◌, ◌%◌, eqb, take, drop}
use Rattle.block_bytes.specs.Numbers.{bytes4, number_at}

-- A and B after some bytes, from what they were before: for each byte A gains the byte, then B gains A, both modulo 65,521
unfoldable pub sums : ℕ → ℕ → List ℕ → ℕ × ℕ
sums a b [] = (a, b)
sums a b (x ∷ xs) = sums ((a + x) % 65521) ((b + (a + x) % 65521) % 65521) xs

-- the first 504 bytes of a sealed block: sheet number (4), place in the sheet (4), payload (496)
abbrev pub front : ℕ → ℕ → List ℕ → List ℕ
front sheet place payload = bytes4 sheet ++ bytes4 place ++ payload

-- a sealed block: the first 504 bytes, then A (4) and B (4) over them; A starts at 1 and B at 0
unfoldable pub sealed : ℕ → ℕ → List ℕ → List ℕ
sealed sheet place payload =
    front sheet place payload
    ++ bytes4 (sums 1 0 (front sheet place payload)).0
    ++ bytes4 (sums 1 0 (front sheet place payload)).1

-- the check holds: the stored A and B equal the sums over the first 504 bytes
unfoldable pub check_holds : List ℕ → Bool
check_holds block =
    eqb (number_at block 504) (sums 1 0 (take 504 block)).0
    && eqb (number_at block 508) (sums 1 0 (take 504 block)).1

-- a block is blank: all its bytes are 0
unfoldable pub blank : List ℕ → Bool
blank [] = true
blank (x ∷ xs) = eqb x 0 && blank xs

-- a block is sound for a sheet and a place: it carries both and the check holds
unfoldable pub sound : ℕ → ℕ → List ℕ → Bool
sound sheet place block = eqb (number_at block 0) sheet && (eqb (number_at block 4) place && check_holds block)

-- the payload that a block carries
unfoldable pub payload_of : List ℕ → List ℕ
payload_of block = take 496 (drop 8 block)
