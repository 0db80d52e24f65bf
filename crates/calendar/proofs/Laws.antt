-- The laws of day numbers (document 02, request (m)): they go from 0 to 36,524 (`day_zero`, `day_last`, `day_most`), each
-- exactly once (`day_of_each`, `day-once`), later dates have higher ones (`later_higher`), and the next date's is one more
-- (`next_one_more`, `next_date`).
-- Assumes nothing.
use mathlib.Core.Path.{◌≡◌, refl, sym, ap, ap₂, ◌∙◌}
use mathlib.Core.Logic.{inl, inr, ⊎_elim}
use mathlib.Core.Bool.{Bool, true, false, cond}
use Prim.Native.Nat.{ℕ, zero, suc, ◌+◌, ◌-◌, ◌≤◌, ◌<◌}
use native.Mathlib.Omega.{arith}
use lib.Dec.{ltb, lit<}
use borrow.Author.Tests.{ltb-true, ltb-false}
use Rattle.laws.proofs.Bools.{order}
use Rattle.calendar.specs.Calendar.{leap_day, month_length, sum_of, before_month, before_year, in_span, is_date, day_of}
use Rattle.calendar.specs.Calendar.{Earlier, Date, next}
use Rattle.calendar.proofs.Dates.{Exists, date_of_lem, is_date_lem, leap_small, month_days, month_next, month_grows}
use Rattle.calendar.proofs.Dates.{all_months, year_next, year_grows}

-- ---- within a month, a year and the span

module _ (y m d : ℕ) (t : Exists y m d) where
  in_month : before_month (leap_day y) m + (d - 1) < before_month (leap_day y) (m + 1)
  in_month = omega (arith, month_next (leap_day y) m t.month_low, t.day_low, t.day_high)

  in_year : day_of y m d < before_year (y + 1)
  unfolding day_of
  in_year =
      omega (
        arith,
        in_month,
        month_grows (leap_day y) (m + 1) 13 (omega (arith, t.month_high)),
        all_months (leap_day y),
        year_next y t.year_low,
      )

hundred_years : before_year 2100 ≡ 36525
unfolding before_year sum_of leap_day
hundred_years = refl

pub day_most : (y m d : ℕ) → is_date y m d ≡ true → day_of y m d ≤ 36524
day_most y m d e =
    let t = date_of_lem y m d e in
    omega (arith, in_year y m d t, year_grows (y + 1) 2100 (omega (arith, t.year_high)), hundred_years)

pub day_zero : day_of 2000 1 1 ≡ 0
unfolding day_of before_year before_month sum_of
day_zero = refl

pub day_last : day_of 2099 12 31 ≡ 36524
unfolding day_of before_year before_month sum_of leap_day month_length
day_last = refl

-- ---- later dates have higher numbers

pub later_higher : (y m d y' m' d' : ℕ) → is_date y m d ≡ true → is_date y' m' d' ≡ true → Earlier y m d y' m' d'
    → day_of y m d < day_of y' m' d'
unfolding day_of
later_higher y m d y' m' d' e e' (inl h) =
    omega (arith, in_year y m d (date_of_lem y m d e), year_grows (y + 1) y' (omega arith))
later_higher y m d y' m' d' e e' (inr (same, inl h)) =
    omega (
      arith,
      in_month y m d (date_of_lem y m d e),
      month_grows (leap_day y) (m + 1) m' (omega arith),
      ap before_year same,
      ap (λ (k : ℕ). before_month (leap_day k) m') same,
    )
later_higher y m d y' m' d' e e' (inr (same, inr (alike, h))) =
    omega (arith, (date_of_lem y m d e).day_low, ap before_year same, ap₂ (λ (k n : ℕ). before_month (leap_day k) n) same alike)

-- so no two dates have one number
module _ (y m d y' m' d' : ℕ) (e : is_date y m d ≡ true) (e' : is_date y' m' d' ≡ true) (same : day_of y m d ≡ day_of y' m' d')
  where
    not-before : Earlier y m d y' m' d' → ⊥
    not-before h = omega (arith, later_higher y m d y' m' d' e e' h)

    not_after : Earlier y' m' d' y m d → ⊥
    not_after h = omega (arith, later_higher y' m' d' y m d e' e h)

    year-same : y ≡ y'
    year-same =
        ⊎_elim (λ (h : y < y'). absurd (not-before (inl h)))
        (λ (h : y' ≤ y). ⊎_elim (λ (k : y' < y). absurd (not_after (inl k))) (λ (k : y ≤ y'). omega arith) (order y' y))
        (order y y')

    month-same : m ≡ m'
    month-same =
        ⊎_elim (λ (h : m < m'). absurd (not-before (inr (year-same, inl h))))
        (λ (h : m' ≤ m). ⊎_elim (λ (k : m' < m). absurd (not_after (inr (sym year-same, inl k))))
        (λ (k : m ≤ m'). omega arith) (order m' m)) (order m m')

    day-same : d ≡ d'
    day-same =
        ⊎_elim (λ (h : d < d'). absurd (not-before (inr (year-same, inr (month-same, h)))))
        (λ (h : d' ≤ d). ⊎_elim (λ (k : d' < d). absurd (not_after (inr (sym year-same, inr (sym month-same, k)))))
        (λ (k : d ≤ d'). omega arith) (order d' d)) (order d d')

    pub day-once : (y ≡ y') × (m ≡ m') × (d ≡ d')
    day-once = (year-same, month-same, day-same)

-- ---- the next date

none : (leap : ℕ) → before_month leap 1 ≡ 0
unfolding before_month sum_of
none leap = refl

module _ (y m d : ℕ) (e : is_date y m d ≡ true) where
  t : Exists y m d
  t = date_of_lem y m d e

  -- the day, the month or the year is one more
  record Next (u : Date) : Type 0 where
    one_more : day_of u.year u.month u.day ≡ day_of y m d + 1
    date : day_of y m d < 36524 → is_date u.year u.month u.day ≡ true

  in_length : d < month_length (leap_day y) m → Next (record { year = y; month = m; day = d + 1 })
  unfolding day_of
  in_length h = record {
    one_more = omega (arith, t.day_low);
    date =
        λ _.
        is_date_lem y m (d + 1)
        (record {
          year_low = t.year_low;
          year_high = t.year_high;
          month_low = t.month_low;
          month_high = t.month_high;
          day_low = omega arith;
          day_high = omega arith;
        });
  }

  month_over : month_length (leap_day y) m ≤ d → m < 12 → Next (record { year = y; month = m + 1; day = 1 })
  unfolding day_of
  month_over h k = record {
    one_more = omega (arith, month_next (leap_day y) m t.month_low, t.day_low, t.day_high);
    date =
        λ _.
        is_date_lem y (m + 1) 1
        (record {
          year_low = t.year_low;
          year_high = t.year_high;
          month_low = omega arith;
          month_high = omega arith;
          day_low = lit< tt;
          day_high = (month_days (leap_day y) (m + 1) (leap_small y) (omega arith) (omega arith)).0;
        });
  }

  year_over : month_length (leap_day y) m ≤ d → 12 ≤ m → Next (record { year = y + 1; month = 1; day = 1 })
  unfolding day_of
  year_over h k =
      let last : m ≡ 12 = omega (arith, t.month_high) in
      let months : before_month (leap_day y) m + month_length (leap_day y) m ≡ 365 + leap_day y =
      sym (month_next (leap_day y) m t.month_low) ∙ ap (λ (n : ℕ). before_month (leap_day y) (n + 1)) last
      ∙ all_months (leap_day y) in
      let first : before_month (leap_day (y + 1)) 1 ≡ 0 = none (leap_day (y + 1)) in
      let more : before_year (y + 1) + before_month (leap_day (y + 1)) 1 + (1 - 1) ≡ day_of y m d + 1 =
      omega (arith, months, first, year_next y t.year_low, t.day_low, t.day_high) in
      record {
        one_more = more;
        date =
            λ early.
            is_date_lem (y + 1) 1 1
            (record {
              year_low = omega (arith, t.year_low);
              year_high =
                  ⊎_elim (λ (p : y < 2099). omega arith)
                  (λ (p : 2099 ≤ y).
                  absurd (omega (arith, more, first, early, year_grows 2100 (y + 1) (omega arith), hundred_years)))
                  (order y 2099);
              month_low = lit< tt;
              month_high = lit< tt;
              day_low = lit< tt;
              day_high = (month_days (leap_day (y + 1)) 1 (leap_small (y + 1)) (lit< tt) (lit< tt)).0;
            });
      }

  after : Next (next y m d)
  unfolding next
  after = by (ltb d (month_length (leap_day y) m)) (ltb m 12) refl refl
    where
      by : (r s : Bool) → ltb d (month_length (leap_day y) m) ≡ r → ltb m 12 ≡ s
          → Next (cond r (record { year = y; month = m; day = d + 1 })
          (cond s (record { year = y; month = m + 1; day = 1 }) (record { year = y + 1; month = 1; day = 1 })))
      by true s er es = in_length (ltb-true d (month_length (leap_day y) m) er)
      by false true er es = month_over (ltb-false d (month_length (leap_day y) m) er) (ltb-true m 12 es)
      by false false er es = year_over (ltb-false d (month_length (leap_day y) m) er) (ltb-false m 12 es)

  pub next_one_more : day_of (next y m d).year (next y m d).month (next y m d).day ≡ day_of y m d + 1
  next_one_more = after.one_more

  -- every date but 31 December 2099, day 36,524, has a next one in the span
  pub next_date : day_of y m d < 36524 → is_date (next y m d).year (next y m d).month (next y m d).day ≡ true
  next_date h = after.date h

-- ---- every number up to the last is a date's

pub record Numbered (k : ℕ) : Type 0 where
  pub at : Date
  pub date : is_date at.year at.month at.day ≡ true
  pub number : day_of at.year at.month at.day ≡ k

pub day_of_each : (k : ℕ) → k ≤ 36524 → Numbered k
day_of_each zero h = record { at = record { year = 2000; month = 1; day = 1 }; date = first; number = day_zero }
  where
    first : is_date 2000 1 1 ≡ true
    first = is_date_lem 2000 1 1 (record {
      year_low = lit< tt;
      year_high = lit< tt;
      month_low = lit< tt;
      month_high = lit< tt;
      day_low = lit< tt;
      day_high = (month_days (leap_day 2000) 1 (leap_small 2000) (lit< tt) (lit< tt)).0;
    })
day_of_each (suc k) h = step (day_of_each k (omega arith))
  where
    step : Numbered k → Numbered (suc k)
    step n =
        let y : ℕ = n.at.year in
        let m : ℕ = n.at.month in
        let d : ℕ = n.at.day in
        record {
          at = next y m d;
          date = next_date y m d n.date (omega (arith, n.number));
          number = omega (arith, next_one_more y m d n.date, n.number);
        }

-- ---- worked examples, from another calendar

pub worked : (day_of 2000 2 29 ≡ 59) × (day_of 2000 12 31 ≡ 365) × (day_of 2001 1 1 ≡ 366) × (day_of 2024 2 29 ≡ 8825)
    × (day_of 2077 7 7 ≡ 28312)
unfolding day_of before_year before_month sum_of leap_day month_length
worked = (refl, refl, refl, refl, refl)

pub no_such_dates : (is_date 2001 2 29 ≡ false) × (is_date 1999 12 31 ≡ false) × (is_date 2100 1 1 ≡ false)
    × (is_date 2050 13 1 ≡ false) × (is_date 2050 4 0 ≡ false)
unfolding is_date in_span leap_day month_length
no_such_dates = (refl, refl, refl, refl, refl)
