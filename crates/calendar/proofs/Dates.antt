-- What it is to be a date, and the days before a month and a year, one more and in order.
-- Assumes nothing.
use mathlib.Core.Path.{◌≡◌, sym, ap, subst, ◌∙◌}
use mathlib.Core.Logic.{◌⊎◌, inl, inr}
use mathlib.Core.Bool.{Bool, true, false, ◌&&◌, cond}
use Prim.Native.Nat.{ℕ, zero, suc, ◌+◌, ◌-◌, ◌%◌, ◌≤◌, ◌<◌}
use native.Mathlib.Omega.{arith}
use lib.Dec.{eqb, leb}
use borrow.Author.Tests.{leb-true, le-leb}
use Rattle.laws.proofs.Bools.{and_left, and_right, and_both, order}
use Rattle.calendar.specs.Calendar.{leap_day, month_length, sum_of, before_month, before_year, in_span, is_date}

-- ---- dates

pub span_low : (low high x : ℕ) → in_span low high x ≡ true → low ≤ x
unfolding in_span
span_low low high x e = leb-true low x (and_left (leb low x) (leb x high) e)

pub span_high : (low high x : ℕ) → in_span low high x ≡ true → x ≤ high
unfolding in_span
span_high low high x e = leb-true x high (and_right (leb low x) (leb x high) e)

pub in_span_lem : (low high x : ℕ) → low ≤ x → x ≤ high → in_span low high x ≡ true
unfolding in_span
in_span_lem low high x l h = and_both (leb low x) (leb x high) (le-leb low x l) (le-leb x high h)

pub record Exists (y m d : ℕ) : Type 0 where
  pub year_low : 2000 ≤ y
  pub year_high : y ≤ 2099
  pub month_low : 1 ≤ m
  pub month_high : m ≤ 12
  pub day_low : 1 ≤ d
  pub day_high : d ≤ month_length (leap_day y) m

module _ (y m d : ℕ) where
  pub date_of_lem : is_date y m d ≡ true → Exists y m d
  unfolding is_date
  date_of_lem e =
      let year = in_span 2000 2099 y in
      let month = in_span 1 12 m in
      let day = in_span 1 (month_length (leap_day y) m) d in
      let ey = and_left year (month && day) e in
      let rest = and_right year (month && day) e in
      let em = and_left month day rest in
      let ed = and_right month day rest in
      record {
        year_low = span_low 2000 2099 y ey;
        year_high = span_high 2000 2099 y ey;
        month_low = span_low 1 12 m em;
        month_high = span_high 1 12 m em;
        day_low = span_low 1 (month_length (leap_day y) m) d ed;
        day_high = span_high 1 (month_length (leap_day y) m) d ed;
      }

  pub is_date_lem : Exists y m d → is_date y m d ≡ true
  unfolding is_date
  is_date_lem t =
      and_both (in_span 2000 2099 y) (in_span 1 12 m && in_span 1 (month_length (leap_day y) m) d)
      (in_span_lem 2000 2099 y t.year_low t.year_high)
      (and_both (in_span 1 12 m) (in_span 1 (month_length (leap_day y) m) d) (in_span_lem 1 12 m t.month_low t.month_high)
      (in_span_lem 1 (month_length (leap_day y) m) d t.day_low t.day_high))

-- ---- months

-- what holds for each of the twelve holds for all
module _ (P : ℕ → Type 0) where
  pub twelve : P 1 → P 2 → P 3 → P 4 → P 5 → P 6 → P 7 → P 8 → P 9 → P 10 → P 11 → P 12 → (m : ℕ) → 1 ≤ m → m ≤ 12 → P m
  twelve a b c d e f g h i j k l zero lo hi = absurd (omega arith)
  twelve a b c d e f g h i j k l (suc zero) lo hi = a
  twelve a b c d e f g h i j k l (suc (suc zero)) lo hi = b
  twelve a b c d e f g h i j k l (suc (suc (suc zero))) lo hi = c
  twelve a b c d e f g h i j k l (suc (suc (suc (suc zero)))) lo hi = d
  twelve a b c d e f g h i j k l (suc (suc (suc (suc (suc zero))))) lo hi = e
  twelve a b c d e f g h i j k l (suc (suc (suc (suc (suc (suc zero)))))) lo hi = f
  twelve a b c d e f g h i j k l (suc (suc (suc (suc (suc (suc (suc zero))))))) lo hi = g
  twelve a b c d e f g h i j k l (suc (suc (suc (suc (suc (suc (suc (suc zero)))))))) lo hi = h
  twelve a b c d e f g h i j k l (suc (suc (suc (suc (suc (suc (suc (suc (suc zero))))))))) lo hi = i
  twelve a b c d e f g h i j k l (suc (suc (suc (suc (suc (suc (suc (suc (suc (suc zero)))))))))) lo hi = j
  twelve a b c d e f g h i j k l (suc (suc (suc (suc (suc (suc (suc (suc (suc (suc (suc zero))))))))))) lo hi = k
  twelve a b c d e f g h i j k l (suc (suc (suc (suc (suc (suc (suc (suc (suc (suc (suc (suc zero)))))))))))) lo hi = l
  twelve a b c d e f g h i j k l (suc (suc (suc (suc (suc (suc (suc (suc (suc (suc (suc (suc (suc m))))))))))))) lo hi =
      absurd (omega arith)

pub leap_small : (y : ℕ) → leap_day y ≤ 1
unfolding leap_day
leap_small y = by (eqb (y % 4) 0)
  where
    by : (t : Bool) → cond t 1 0 ≤ 1
    by true = omega arith
    by false = omega arith

pub month_days : (leap m : ℕ) → leap ≤ 1 → 1 ≤ m → m ≤ 12 → (1 ≤ month_length leap m) × (month_length leap m ≤ 31)
unfolding month_length
month_days leap m h lo hi =
    twelve (λ k. (1 ≤ month_length leap k) × (month_length leap k ≤ 31)) (omega arith) (omega arith) (omega arith)
    (omega arith) (omega arith) (omega arith) (omega arith) (omega arith) (omega arith) (omega arith) (omega arith)
    (omega arith) m lo hi

pub day_most : (y m d : ℕ) → Exists y m d → d ≤ 31
day_most y m d t = omega (arith, t.day_high, (month_days (leap_day y) m (leap_small y) t.month_low t.month_high).1)

-- ---- days before

sum_grows : (f : ℕ → ℕ) (n m : ℕ) → n ≤ m → sum_of f n ≤ sum_of f m
unfolding sum_of
sum_grows f n zero h = subst (λ (k : ℕ). sum_of f k ≤ 0) (sym none) (omega arith)
  where
    none : n ≡ 0
    none = omega arith
sum_grows f n (suc m) h = by (order n (suc m)) (λ k. sum_grows f n m k)
  where
    by : (n < suc m) ⊎ (suc m ≤ n) → (n ≤ m → sum_of f n ≤ sum_of f m) → sum_of f n ≤ sum_of f m + f m
    by (inl p) next = omega (arith, next (omega arith))
    by (inr p) next =
        let same : suc m ≡ n = omega arith in
        subst (λ (k : ℕ). sum_of f k ≤ sum_of f m + f m) same (omega arith)

module _ (leap : ℕ) where
  pub month_next : (m : ℕ) → 1 ≤ m → before_month leap (m + 1) ≡ before_month leap m + month_length leap m
  unfolding before_month sum_of
  month_next zero h = absurd (omega arith)
  month_next (suc m) h =
      let up : suc m + 1 - 1 ≡ suc m = omega arith in
      let down : suc m - 1 ≡ m = omega arith in
      let at : 1 + m ≡ suc m = omega arith in
      rw (up, down, at)

  pub month_grows : (m n : ℕ) → m ≤ n → before_month leap m ≤ before_month leap n
  unfolding before_month
  month_grows m n h = sum_grows (λ i. month_length leap (1 + i)) (m - 1) (n - 1) (omega arith)

  pub all_months : before_month leap 13 ≡ 365 + leap
  unfolding before_month sum_of month_length
  all_months = omega arith

pub year_next : (y : ℕ) → 2000 ≤ y → before_year (y + 1) ≡ before_year y + (365 + leap_day y)
unfolding before_year sum_of
year_next y h =
    let up : y + 1 - 2000 ≡ suc (y - 2000) = omega arith in
    let at : 2000 + (y - 2000) ≡ y = omega arith in
    ap (λ (n : ℕ). sum_of (λ i. 365 + leap_day (2000 + i)) n) up
    ∙ ap (λ (n : ℕ). sum_of (λ i. 365 + leap_day (2000 + i)) (y - 2000) + (365 + leap_day n)) at

pub year_grows : (y z : ℕ) → y ≤ z → before_year y ≤ before_year z
unfolding before_year
year_grows y z h = sum_grows (λ i. 365 + leap_day (2000 + i)) (y - 2000) (z - 2000) (omega arith)

-- ---- what `is_date` answers, by the tests that it makes

module _ (y m d : ℕ) where
  pub date_tested : (r : Bool) (length leap : ℕ) → in_span 2000 2099 y ≡ true → in_span 1 12 m ≡ true → r ≡ in_span 1 length d
      → length ≡ month_length leap m
      → leap ≡ leap_day y → r ≡ is_date y m d
  unfolding is_date
  date_tested r length leap ey em er el en = rw (ey, em, er, el, en)

  pub no_month : in_span 2000 2099 y ≡ true → in_span 1 12 m ≡ false → false ≡ is_date y m d
  unfolding is_date
  no_month ey em = rw (ey, em)

  pub no_year : in_span 2000 2099 y ≡ false → false ≡ is_date y m d
  unfolding is_date
  no_year ey = rw ey
