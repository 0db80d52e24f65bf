-- The day number of a date and the date of a day number are each other's inverse (`number_and_back`, `date_and_back`), over all
-- dates from 2000 to 2099; and how the code finds the year and the month of a day.
-- Assumes nothing.
use mathlib.Core.Path.{◌≡◌, refl, sym, ap, ◌∙◌}
use mathlib.Core.Logic.{◌⊎◌, inl, inr}
use mathlib.Core.Bool.{Bool, true, false, cond}
use Prim.Native.Nat.{ℕ, zero, suc, ◌+◌, ◌*◌, ◌-◌, ◌/◌, ◌≤◌, ◌<◌}
use native.Mathlib.Omega.{arith}
use lib.Dec.{leb, lit<}
use borrow.Author.Tests.{leb-true, le-leb, lt-leb}
use Rattle.laws.proofs.Bools.{order}
use Rattle.calendar.specs.Calendar.{leap_day, month_length, before_month, before_year, is_date, day_of}
use Rattle.calendar.specs.Days.{date_at, day_with, no_day, day_of_date, day_of_number}
use Rattle.calendar.specs.declared.days.DayReply.{DayReply}
use Rattle.calendar.proofs.Dates.{Exists, is_date_lem, leap_small, month_days, month_next, all_months, year_next}
use Rattle.calendar.proofs.Formulas.{early_month, late_month, year_days}
use Rattle.calendar.proofs.Laws.{day_zero, day_most, day-once, next_one_more, next_date}

-- ---- the year and the month of a day

pub year_found : (k : ℕ) → k ≤ 36524
    → (2000 ≤ 2000 + 4 * k / 1461) × (2000 + 4 * k / 1461 ≤ 2099) × (before_year (2000 + 4 * k / 1461) ≤ k)
    × (k < before_year (2000 + 4 * k / 1461 + 1))
year_found k h = (
  omega arith,
  omega arith,
  omega (arith, year_days (2000 + 4 * k / 1461)),
  omega (arith, year_days (2000 + 4 * k / 1461 + 1)),
)

module _ (leap rest : ℕ) where
  -- a month in which the day lies
  abbrev pub In : ℕ → Type 0
  In m = (1 ≤ m) × (m ≤ 12) × (before_month leap m ≤ rest) × (rest < before_month leap (m + 1))

  pub early_found : leap ≤ 1 → rest < 59 + leap → In (rest / 31 + 1)
  early_found small h = (omega arith, omega arith, start, end (order rest 31))
    where
      m : ℕ
      m = rest / 31 + 1

      start : before_month leap m ≤ rest
      start = omega (arith, early_month leap m (omega arith) (omega arith) (omega arith))

      end : (rest < 31) ⊎ (31 ≤ rest) → rest < before_month leap (m + 1)
      end (inl p) = omega (arith, early_month leap (m + 1) (omega arith) (omega arith) (omega arith))
      end (inr p) = omega (arith, late_month leap (m + 1) (omega arith) (omega arith) (omega arith))

  pub late_found : rest < 365 + leap → 59 + leap ≤ rest → In ((5 * (rest - 59 - leap) + 2) / 153 + 3)
  late_found h k = (omega arith, omega arith, start, end (order m 12))
    where
      m : ℕ
      m = (5 * (rest - 59 - leap) + 2) / 153 + 3

      start : before_month leap m ≤ rest
      start = omega (arith, late_month leap m (omega arith) (omega arith) (omega arith))

      end : (m < 12) ⊎ (12 ≤ m) → rest < before_month leap (m + 1)
      end (inl p) = omega (arith, late_month leap (m + 1) (omega arith) (omega arith) (omega arith))
      end (inr p) =
          let last : m + 1 ≡ 13 = omega arith in
          omega (arith, ap (before_month leap) last, all_months leap)

-- ---- the date of a number

pub record Dated (k : ℕ) : Type 0 where
  pub date : is_date (date_at k).year (date_at k).month (date_at k).day ≡ true
  pub number : day_of (date_at k).year (date_at k).month (date_at k).day ≡ k

pub date_at_lem : (k : ℕ) → k ≤ 36524 → Dated k
unfolding date_at
date_at_lem zero h = record { date = first; number = day_zero }
  where
    first : is_date 2000 1 1 ≡ true
    first = is_date_lem 2000 1 1 (record {
      year_low = lit< tt;
      year_high = lit< tt;
      month_low = lit< tt;
      month_high = lit< tt;
      day_low = lit< tt;
      day_high = (month_days (leap_day 2000) 1 (leap_small 2000) (lit< tt) (lit< tt)).0;
    })
date_at_lem (suc k) h = step (date_at_lem k (omega arith))
  where
    step : Dated k → Dated (suc k)
    step n =
        let y : ℕ = (date_at k).year in
        let m : ℕ = (date_at k).month in
        let d : ℕ = (date_at k).day in
        record {
          date = next_date y m d n.date (omega (arith, n.number));
          number = omega (arith, next_one_more y m d n.date, n.number);
        }

-- a date with that number is the one
pub number_of_lem : (k y m d : ℕ) → is_date y m d ≡ true → day_of y m d ≡ k → day_with k y m d ≡ day_of_number k
unfolding day_of_number
number_of_lem k y m d e h =
    let most : k ≤ 36524 = omega (arith, h, day_most y m d e) in
    let at = date_at_lem k most in
    let same = day-once y m d (date_at k).year (date_at k).month (date_at k).day e at.date (h ∙ sym at.number) in
    rw (le-leb k 36524 most, sym same.0, sym same.1, sym same.2)

summed : (k y m rest before : ℕ) → before_year y ≤ k → rest ≡ k - before_year y → before ≡ before_month (leap_day y) m
    → before ≤ rest → day_of y m (rest - before + 1) ≡ k
unfolding day_of
summed k y m rest before start er from inside = omega (arith, start, er, from, inside)

-- what `day_of_number` answers
pub day_found : (k y m leap rest before : ℕ) → 2000 ≤ y → y ≤ 2099 → before_year y ≤ k → leap ≡ leap_day y
    → rest ≡ k - before_year y
    → In leap rest m → before ≡ before_month leap m → day_with k y m (rest - before + 1) ≡ day_of_number k
day_found k y m leap rest before low high start el er found eb = number_of_lem k y m d (is_date_lem y m d exists) number
  where
    d : ℕ
    d = rest - before + 1

    months : before_month (leap_day y) (m + 1) ≡ before_month (leap_day y) m + month_length (leap_day y) m
    months = month_next (leap_day y) m found.0

    from : before ≡ before_month (leap_day y) m
    from = eb ∙ ap (λ (l : ℕ). before_month l m) el

    to : before_month leap (m + 1) ≡ before_month (leap_day y) (m + 1)
    to = ap (λ (l : ℕ). before_month l (m + 1)) el

    exists : Exists y m d
    exists = record {
      year_low = low;
      year_high = high;
      month_low = found.0;
      month_high = found.1;
      day_low = omega arith;
      day_high = omega (arith, months, from, to, eb, found.2, found.3);
    }

    number : day_of y m d ≡ k
    number = summed k y m rest before start er from (omega (arith, eb, found.2))

-- the days of a year before one of its days are fewer than the year has
pub within : (k y b leap : ℕ) → 2000 ≤ y → k < before_year (y + 1) → b ≡ before_year y → leap ≡ leap_day y → k - b < 365 + leap
within k y b leap low end eb el = omega (arith, end, eb, el, year_next y low)

pub past : (k : ℕ) → 36524 < k → no_day ≡ day_of_number k
unfolding day_of_number
past k h = rw (lt-leb k 36524 h)

-- ---- what `day_of_date` answers, and the inverse

pub date_found : (y m d k : ℕ) → is_date y m d ≡ true → k ≡ day_of y m d → day_with k y m d ≡ day_of_date y m d
unfolding day_of_date
date_found y m d k e h = rw (e, h)

pub no_day_found : (y m d : ℕ) → is_date y m d ≡ false → no_day ≡ day_of_date y m d
unfolding day_of_date
no_day_found y m d e = rw e

-- the day that a date's number leads to is the date's
pub number_and_back : (y m d : ℕ) → (day_of_date y m d).number ≡ 0 → day_of_number (day_of_date y m d).days ≡ day_of_date y m d
unfolding day_of_date
number_and_back y m d = by (is_date y m d) refl
  where
    by : (t : Bool) → is_date y m d ≡ t → (cond t (day_with (day_of y m d) y m d) no_day).number ≡ 0
        → day_of_number (cond t (day_with (day_of y m d) y m d) no_day).days ≡ cond t (day_with (day_of y m d) y m d) no_day
    by true e done = sym (number_of_lem (day_of y m d) y m d e refl)
    by false e done = absurd (omega (arith, done))

-- the day that the date of a number leads to is the number's
pub date_and_back : (k : ℕ) → (day_of_number k).number ≡ 0
    → day_of_date (day_of_number k).year (day_of_number k).month (day_of_number k).day ≡ day_of_number k
unfolding day_of_number
date_and_back k = by (leb k 36524) refl
  where
    at : DayReply
    at = day_with k (date_at k).year (date_at k).month (date_at k).day

    by : (t : Bool) → leb k 36524 ≡ t → (cond t at no_day).number ≡ 0
        → day_of_date (cond t at no_day).year (cond t at no_day).month (cond t at no_day).day ≡ cond t at no_day
    by true e done =
        let dated = date_at_lem k (leb-true k 36524 e) in
        sym (date_found (date_at k).year (date_at k).month (date_at k).day k dated.date (sym dated.number))
    by false e done = absurd (omega (arith, done))
