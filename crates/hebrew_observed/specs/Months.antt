-- From where to where the numbers lie that the rules go by.
use Rattle.std.specs.Prelude.{ℤ, pos, negsuc, ◌≤ℤ◌}

-- a Gregorian year of which the first of Nisan is asked: dates are read less their signs, so that the number of a year
-- may lie below 0
abbrev pub IsNisanYear : ℤ → Type 0
IsNisanYear year = (negsuc 14999 ≤ℤ year) × (year ≤ℤ pos 15000)

-- the Gregorian year of a day whose date the calendar tells
abbrev pub IsCalendarYear : ℤ → Type 0
IsCalendarYear year = (pos 2 ≤ℤ year) × (year ≤ℤ pos 2738)

-- the days from one value of a fact to another
abbrev pub IsIntervalOfDays : ℤ → Type 0
IsIntervalOfDays days = (negsuc 19999999 ≤ℤ days) × (days ≤ℤ pos 20000000)

-- the months that such an interval has
abbrev pub IsNearMonth : ℤ → Type 0
IsNearMonth months = (negsuc 999999 ≤ℤ months) × (months ≤ℤ pos 1000000)

-- a month of a year
abbrev pub IsMonth : ℤ → Type 0
IsMonth month = (pos 1 ≤ℤ month) × (month ≤ℤ pos 13)
