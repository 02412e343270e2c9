-- Gregorian dates of the years 1 to 9999, and their days.
use Rattle.std.specs.Prelude.{◌≡◌, ℕ, ℤ, pos, ◌≤ℤ◌, Bool, ◌&&◌, int_lt, unsigned_abs, IsTrue}
use Rattle.book_model.specs.calendars.Gregorian.{is_date, fixed_of, year_of_day, month_of_day, day_of_month}

-- the calendar has this date, in the years 1 to 9999
abbrev pub has_date : ℤ → ℕ → ℕ → Bool
has_date y m d = int_lt (pos 0) y && is_date (unsigned_abs y) m d

-- the day n is that of the date, and the date that of the day
pub record IsDateOfDay (y : ℤ) (m d : ℕ) (n : ℤ) : Type 0 where
  pub has : IsTrue (has_date y m d)
  pub number : fixed_of (unsigned_abs y) m d ≡ n
  pub year : year_of_day n ≡ y
  pub month : month_of_day n ≡ m
  pub day : day_of_month n ≡ d
  pub from : pos 1 ≤ℤ n
  pub to : n ≤ℤ pos 3652059
