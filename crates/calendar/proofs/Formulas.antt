-- The formulas by which the code finds a month's length, the days before it, and those before a year.
-- Assumes nothing.
use Rattle.std.specs.Prelude.{Option, Some, None}
use mathlib.Core.Path.{◌≡◌, refl, sym, ap, ◌∙◌}
use mathlib.Core.Bool.{Bool, true, false, cond}
use Prim.Native.Nat.{ℕ, zero, suc, ◌+◌, ◌*◌, ◌-◌, ◌/◌, ◌%◌, ◌≤◌, ◌<◌}
use native.Mathlib.Omega.{arith}
use lib.Dec.{eqb}
use borrow.Author.Tests.{eqb-true, eqb-false}
use Rattle.calendar.specs.Calendar.{leap_day, month_length, sum_of, before_month, before_year, is_date, day_of, dated_of}
use Rattle.calendar.proofs.Dates.{twelve}

module _ (leap m : ℕ) (lo : 1 ≤ m) (hi : m ≤ 12) where
  pub february : m ≡ 2 → 28 + leap ≡ month_length leap m
  unfolding month_length
  february e = sym (ap (month_length leap) e)

  pub other_month : (m ≡ 2 → ⊥) → (m + m / 8) % 2 + 30 ≡ month_length leap m
  unfolding month_length
  other_month =
      twelve (λ k. (k ≡ 2 → ⊥) → (k + k / 8) % 2 + 30 ≡ month_length leap k)
      (λ h. refl) (λ h. absurd (h refl)) (λ h. refl) (λ h. refl) (λ h. refl) (λ h. refl) (λ h. refl) (λ h. refl)
      (λ h. refl) (λ h. refl) (λ h. refl) (λ h. refl) m lo hi

  pub early_month : m ≤ 2 → 31 * (m - 1) ≡ before_month leap m
  unfolding before_month sum_of month_length
  early_month =
      twelve (λ k. k ≤ 2 → 31 * (k - 1) ≡ before_month leap k)
      (λ h. refl) (λ h. refl) (λ h. absurd (omega arith)) (λ h. absurd (omega arith)) (λ h. absurd (omega arith))
      (λ h. absurd (omega arith)) (λ h. absurd (omega arith)) (λ h. absurd (omega arith)) (λ h. absurd (omega arith))
      (λ h. absurd (omega arith)) (λ h. absurd (omega arith)) (λ h. absurd (omega arith)) m lo hi

  pub late_month : 2 < m → (153 * m - 457) / 5 + 59 + leap ≡ before_month leap m
  unfolding before_month sum_of month_length
  late_month =
      twelve (λ k. 2 < k → (153 * k - 457) / 5 + 59 + leap ≡ before_month leap k)
      (λ h. absurd (omega arith)) (λ h. absurd (omega arith)) (λ h. omega arith) (λ h. omega arith) (λ h. omega arith)
      (λ h. omega arith) (λ h. omega arith) (λ h. omega arith) (λ h. omega arith) (λ h. omega arith) (λ h. omega arith)
      (λ h. omega arith) m lo hi

-- every fourth year from 2000 on has a day more
years : (n : ℕ) → sum_of (λ i. 365 + leap_day (2000 + i)) n ≡ 365 * n + (n + 3) / 4
unfolding sum_of leap_day
years zero = refl
years (suc n) = by (eqb ((2000 + n) % 4) 0) refl (years n)
  where
    by : (t : Bool) → eqb ((2000 + n) % 4) 0 ≡ t → sum_of (λ i. 365 + leap_day (2000 + i)) n ≡ 365 * n + (n + 3) / 4
        → sum_of (λ i. 365 + leap_day (2000 + i)) n + (365 + cond t 1 0) ≡ 365 * suc n + (suc n + 3) / 4
    by true e before = omega (arith, eqb-true ((2000 + n) % 4) 0 e)
    by false e before = omega (arith, eqb-false ((2000 + n) % 4) 0 e)

pub year_days : (y : ℕ) → 365 * (y - 2000) + (y - 2000 + 3) / 4 ≡ before_year y
unfolding before_year
year_days y = sym (years (y - 2000))

-- what `day_number` answers
pub day_told : (y m d b : ℕ) → is_date y m d ≡ true → b ≡ before_month (leap_day y) m
    → Some (365 * (y - 2000) + (y - 2000 + 3) / 4 + b + (d - 1)) ≡ dated_of y m d
unfolding dated_of day_of
day_told y m d b e eb = rw (e, eb, year_days y)

pub no_date : (y m d : ℕ) → is_date y m d ≡ false → None ≡ dated_of y m d
unfolding dated_of
no_date y m d e = rw e

-- and what its answer says of the date
module _ (y m d : ℕ) (r : Option ℕ) (e : r ≡ dated_of y m d) where
  pub dated : (number : ℕ) → r ≡ Some number → (is_date y m d ≡ true) × (number ≡ day_of y m d)
  unfolding dated_of
  dated number h = by (is_date y m d) refl (sym h ∙ e)
    where
      by : (t : Bool) → is_date y m d ≡ t → Some number ≡ cond t (Some (day_of y m d)) None
          → (is_date y m d ≡ true) × (number ≡ day_of y m d)
      by true p k = (p, (cc))
      by false p k = absurd (let z : ◌≡◌ {A = ℕ} 0 1 = cc in omega arith)

  pub undated : r ≡ None → is_date y m d ≡ false
  unfolding dated_of
  undated h = by (is_date y m d) refl (sym h ∙ e)
    where
      by : (t : Bool) → is_date y m d ≡ t → None ≡ cond t (Some (day_of y m d)) None → is_date y m d ≡ false
      by true p k = absurd (let z : ◌≡◌ {A = ℕ} 0 1 = cc in omega arith)
      by false p k = p
