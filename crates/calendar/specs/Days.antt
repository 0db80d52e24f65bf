-- The calendar for C: the day number of a date and the date of a day number, each handed back as a day, with both.
-- Assumes nothing.
use Rattle.std.specs.Prelude.{cond, ℕ, zero, suc, leb}
use Rattle.calendar.specs.Calendar.{is_date, day_of, next, Date}
use Rattle.calendar.specs.declared.days.DayReply.{DayReply}

-- the date of day k: day 0 is 1 January 2000, and each date is followed by the next
unfoldable pub date_at : ℕ → Date
date_at zero = record { year = 2000; month = 1; day = 1 }
date_at (suc k) = next (date_at k).year (date_at k).month (date_at k).day

-- a day with its number and its date
abbrev pub day_with : ℕ → ℕ → ℕ → ℕ → DayReply
day_with days year month day = record { number = 0; days = days; year = year; month = month; day = day }

-- there is none: 19, and all else is 0
abbrev pub no_day : DayReply
no_day = record { number = 19; days = 0; year = 0; month = 0; day = 0 }

-- the day of a date
unfoldable pub day_of_date : ℕ → ℕ → ℕ → DayReply
day_of_date year month day = cond (is_date year month day) (day_with (day_of year month day) year month day) no_day

-- the day of a number; 31 December 2099 is day 36,524
unfoldable pub day_of_number : ℕ → DayReply
day_of_number days = cond (leb days 36524) (day_with days (date_at days).year (date_at days).month (date_at days).day) no_day
