-- Dates and their day numbers (document 02, request (m)): "days since 1 January 2000 (day 0), Gregorian; dates run up to 31
-- December 2099". A day number is counted: the years before, the months before, the days before.
-- Assumes nothing.
use Rattle.std.specs.Prelude.{Option, Some, None}
use Rattle.std.specs.Prelude.{◌≡◌, ◌⊎◌, Bool, cond, ◌&&◌, [], ◌∷◌, ℕ, zero, suc, ◌+◌, ◌-◌, ◌%◌, ◌<◌, eqb, leb, ltb, get_or}

-- "Years divisible by 4 in this span are leap years": the leap day counts 1 in them, else 0
unfoldable pub leap_day : ℕ → ℕ
leap_day year = cond (eqb (year % 4) 0) 1 0

-- days of month 1 to 12, by the year's leap day (there is no month 0)
unfoldable pub month_length : ℕ → ℕ → ℕ
month_length leap month =
    get_or (0 ∷ 31 ∷ (28 + leap) ∷ 31 ∷ 30 ∷ 31 ∷ 30 ∷ 31 ∷ 31 ∷ 30 ∷ 31 ∷ 30 ∷ 31 ∷ []) month 0

-- f 0 + f 1 + .. , n terms
unfoldable pub sum_of : (ℕ → ℕ) → ℕ → ℕ
sum_of f zero = 0
sum_of f (suc n) = sum_of f n + f n

-- days of such a year before month 1 to 12, and days before a year of the span
unfoldable pub before_month : ℕ → ℕ → ℕ
before_month leap month = sum_of (λ i. month_length leap (1 + i)) (month - 1)

unfoldable pub before_year : ℕ → ℕ
before_year year = sum_of (λ i. 365 + leap_day (2000 + i)) (year - 2000)

unfoldable pub day_of : ℕ → ℕ → ℕ → ℕ
day_of year month day = before_year year + before_month (leap_day year) month + (day - 1)

-- x is low to high, both included
unfoldable pub in_span : ℕ → ℕ → ℕ → Bool
in_span low high x = leb low x && leb x high

-- a date exists: its year is 2000 to 2099, its month 1 to 12, its day one of that month's
unfoldable pub is_date : ℕ → ℕ → ℕ → Bool
is_date year month day = in_span 2000 2099 year && (in_span 1 12 month && in_span 1 (month_length (leap_day year) month) day)

-- what `day_number` answers
unfoldable pub dated_of : ℕ → ℕ → ℕ → Option ℕ
dated_of year month day = cond (is_date year month day) (Some (day_of year month day)) None

-- the three numbers that a call is given for a date, and what is said of them
pub record Date : Type 0 where
  pub year : ℕ
  pub month : ℕ
  pub day : ℕ

abbrev pub date_of : ℕ → ℕ → ℕ → Date
date_of year month day = record { year = year; month = month; day = day }

abbrev pub date_exists : Date → Bool
date_exists date = is_date date.year date.month date.day

abbrev pub day_number : Date → ℕ
day_number date = day_of date.year date.month date.day

-- a date before another: by its year, then by its month, then by its day
abbrev pub Earlier : ℕ → ℕ → ℕ → ℕ → ℕ → ℕ → Type 0
Earlier y m d y' m' d' = (y < y') ⊎ ((y ≡ y') × ((m < m') ⊎ ((m ≡ m') × (d < d'))))

-- the date after another: the next day of the month, or the first of the next month, or 1 January of the next year
unfoldable pub next : ℕ → ℕ → ℕ → Date
next y m d =
    cond (ltb d (month_length (leap_day y) m)) (record { year = y; month = m; day = d + 1 })
    (cond (ltb m 12) (record { year = y; month = m + 1; day = 1 }) (record { year = y + 1; month = 1; day = 1 }))
