-- A stored number is read back as it was.
-- Assumes nothing.
use mathlib.Core.Path.{◌≡◌, refl, subst}
use mathlib.Core.List.{List, ◌∷◌, ◌++◌}
use Prim.Native.Nat.{ℕ, ◌+◌, ◌*◌, ◌/◌, ◌%◌, ◌<◌}
use native.Mathlib.Nat.{add-zero}
use native.Mathlib.Omega.{arith}
use lib.ListN.{length}
use lib.Seq.{get_or-append-add}
use Rattle.block_bytes.specs.Numbers.{bytes4, number_at}

pub bytes4_length : (n : ℕ) → length (bytes4 n) ≡ 4
unfolding bytes4
bytes4_length n = refl

-- each byte joins those above it
from_bytes : (d3 d2 d1 d0 q3 q2 q1 n : ℕ) → d3 ≡ q3 → q3 * 256 + d2 ≡ q2 → q2 * 256 + d1 ≡ q1 → q1 * 256 + d0 ≡ n
    → d3 * 16777216 + d2 * 65536 + d1 * 256 + d0 ≡ n
from_bytes d3 d2 d1 d0 q3 q2 q1 n e3 e2 e1 e0 = omega arith

top : (n : ℕ) → n < 4294967296 → n / 16777216 % 256 ≡ n / 16777216
top n h = omega arith

second : (n : ℕ) → n / 16777216 * 256 + n / 65536 % 256 ≡ n / 65536
second n = omega arith

third : (n : ℕ) → n / 65536 * 256 + n / 256 % 256 ≡ n / 256
third n = omega arith

last : (n : ℕ) → n / 256 * 256 + n % 256 ≡ n
last n = omega arith

-- the number stored behind a list of known length
pub number_at_lem : (p q : List ℕ) (n at : ℕ) → length p ≡ at → n < 4294967296 → number_at (p ++ (bytes4 n ++ q)) at ≡ n
unfolding bytes4 number_at
number_at_lem p q n at e h =
    let l = n / 16777216 % 256 ∷ n / 65536 % 256 ∷ n / 256 % 256 ∷ n % 256 ∷ q in
    subst (λ (k : ℕ). number_at (p ++ l) k ≡ n) e
    (rw (
      number_at,
      ← add-zero (length p),
      get_or-append-add p l 0 0,
      add-zero,
      get_or-append-add p l 1 0,
      get_or-append-add p l 2 0,
      get_or-append-add p l 3 0,
    )
    (from_bytes _ _ _ _ _ _ _ n (top n h) (second n) (third n) (last n)))
