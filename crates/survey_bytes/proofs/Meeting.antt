-- Where two lists of blocks meet in one run, by a product.
-- Assumes nothing.
use mathlib.Core.Path.{◌≡◌, refl}
use Prim.Native.Nat.{ℕ, zero, suc, ◌*◌, ◌<◌}
use native.Mathlib.Nat.{mul-pos, mul-zero, zero-mul}
use native.Mathlib.Omega.{arith}
use Rattle.survey_bytes.specs.Runs.{meet}

-- the product is 0 exactly where one side has no free block at the meeting
pub product_none : (t h : ℕ) → t * h ≡ 0 → meet t h ≡ 0
unfolding meet
product_none zero h e = refl
product_none (suc t) zero e = refl
product_none (suc t) (suc h) e = let p : 0 < suc t * suc h = mul-pos (omega arith) (omega arith) in absurd (omega arith)

pub product_some : (t h : ℕ) → (t * h ≡ 0 → ⊥) → (0 < t) × (meet t h ≡ 1)
unfolding meet
product_some zero h ne = absurd (ne (zero-mul h))
product_some (suc t) zero ne = absurd (ne (mul-zero (suc t)))
product_some (suc t) (suc h) ne = (omega arith, refl)
