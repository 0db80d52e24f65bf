-- A table of refusals as data: rows in their order, each a number and a test. The verdict is the first row that holds.
-- Assumes nothing.
use Rattle.std.specs.Prelude.{ℕ, Bool, cond, List, [], ◌∷◌, eqb}

pub record Row : Type 0 where
  pub number : ℕ
  pub holds : Bool

abbrev pub row : ℕ → Bool → Row
row number holds = record { number = number; holds = holds }

pub data Verdict : Type 0 where
  accepted : Verdict
  refused : ℕ → Verdict

-- The number of the first row that holds, or acceptance if none does.
unfoldable pub first_of : List Row → Verdict
first_of [] = accepted
first_of (r ∷ rs) = cond r.holds (refused r.number) (first_of rs)

-- The rows before the first with a number.
unfoldable pub before : ℕ → List Row → List Row
before number [] = []
before number (r ∷ rows) = cond (eqb r.number number) [] (r ∷ before number rows)

-- What stands after a verdict: the one thing on acceptance, the other on a refusal, by its number.
module _ {ℓ} {A : Type ℓ} where
  abbrev pub settle : Verdict → A → (ℕ → A) → A
  settle accepted done refusal = done
  settle (refused number) done refusal = refusal number

-- 0 for acceptance, or the refusal's number.
abbrev pub row_number : Verdict → ℕ
row_number v = settle v 0 (λ number. number)
