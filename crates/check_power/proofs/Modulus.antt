-- The modulus of the sums A and B (proofs/Multiples.antt says what it is no product of).
-- Assumes nothing.
use Prim.Native.Nat.{ℕ}

abbrev pub modulus : ℕ
modulus = 65521
