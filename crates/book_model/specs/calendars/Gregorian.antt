-- The Gregorian calendar, for all years: day numbers of the book (R.D.), where day 1 is 1 January of the year 1.
-- Reingold and Dershowitz, Calendrical Calculations, chapter 2.
use Rattle.std.specs.Prelude.{ℕ, zero, suc, ◌+◌, ◌-◌, ◌%◌, ◌==◌, ◌&&◌, ◌||◌, not, nat_lt, nat_le, Bool, if◌then◌else◌}
use Rattle.std.specs.Prelude.{ℤ, pos, ◌+ℤ◌, ◌-ℤ◌, ◌*ℤ◌, ◌≤ℤ◌, ◌<ℤ◌, int_lt, unsigned_abs}
use Rattle.book_model.specs.calendars.Spans.{quotient_down}

-- how many leap days the years 1 to n have: every fourth year, but of the centuries only every fourth
abbrev pub leap_days : ℤ → ℤ
leap_days n = quotient_down n 4 -ℤ quotient_down n 100 +ℤ quotient_down n 400

-- 1 January of the year y
unfoldable pub first_day : ℤ → ℤ
first_day y = pos 365 *ℤ (y -ℤ pos 1) +ℤ leap_days (y -ℤ pos 1) +ℤ pos 1

-- the year in which the day falls: that of 400 years of 146097 days that it is near, or the next
unfoldable pub year_of_day : ℤ → ℤ
year_of_day d =
    let near = quotient_down (pos 400 *ℤ (d +ℤ pos 1)) 146097 in
    if int_lt d (first_day (near +ℤ pos 1)) then near else near +ℤ pos 1

-- the year in which the day falls begins at or before it, and the next year after it
pub record IsYearOfDay (y d : ℤ) : Type 0 where
  pub begun : first_day y ≤ℤ d
  pub not_over : d <ℤ first_day (y +ℤ pos 1)

abbrev pub is_leap_year : ℕ → Bool
is_leap_year y = (y % 4 == 0) && (not (y % 100 == 0) || (y % 400 == 0))

-- the days of the months: thirty days have September, April, June and November
abbrev pub days_in_month : ℕ → ℕ → ℕ
days_in_month y m =
    if m == 2 then (if is_leap_year y then 29 else 28)
    else (if (m == 4) || (m == 6) || (m == 9) || (m == 11) then 30 else 31)

-- the days of the first n months of the year
unfoldable pub days_of_months : ℕ → ℕ → ℕ
days_of_months y zero = 0
days_of_months y (suc n) = days_of_months y n + days_in_month y (suc n)

-- a date of the years 1 to 9999
abbrev pub is_date : ℕ → ℕ → ℕ → Bool
is_date y m d = nat_lt 0 y && nat_lt y 10000 && nat_lt 0 m && nat_lt m 13 && nat_lt 0 d && nat_le d (days_in_month y m)

-- the day number of a date
unfoldable pub fixed_of : ℕ → ℕ → ℕ → ℤ
fixed_of y m d = first_day (pos y) +ℤ pos (days_of_months y (m - 1) + d) -ℤ pos 1

-- the number of the first n months that are over on a day of the year, counted from 0
unfoldable pub months_over : ℕ → ℕ → ℕ → ℕ
months_over y k zero = 0
months_over y k (suc n) = if nat_le (days_of_months y (suc n)) k then suc n else months_over y k n

-- the days of its year that are over on a day
abbrev pub days_over : ℤ → ℕ
days_over d = unsigned_abs (d -ℤ first_day (year_of_day d))

-- the month of a day, from 1
unfoldable pub month_of_day : ℤ → ℕ
month_of_day d = months_over (unsigned_abs (year_of_day d)) (days_over d) 11 + 1

-- the day of its month of a day, from 1
unfoldable pub day_of_month : ℤ → ℕ
day_of_month d = days_over d - days_of_months (unsigned_abs (year_of_day d)) (month_of_day d - 1) + 1
